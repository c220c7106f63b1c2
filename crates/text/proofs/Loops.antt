-- The loops over digits: of each, a law by which a turn is the definition's step, and one for the loop's end.
use Prim.Native.Nat.{ℕ, suc, ◌+◌, ◌-◌, ◌<◌, ◌≤◌}
use native.Mathlib.Omega.{arith}
use mathlib.Core.List.{List}
use mathlib.Core.Path.{◌≡◌}
use Rattle.std.specs.Prelude.{None}
use Rattle.text.specs.Piece.{number_from, number_step, run_from, run_step}

module _ (s : List ℕ) where
  pub number_turn : (stop left k i n : ℕ) → k < left
      → number_from s stop (left - k) i n ≡ number_step s stop i n (number_from s stop (left - (k + 1)))
  unfolding number_from
  number_turn stop left k i n h = let e : left - k ≡ suc (left - (k + 1)) = omega arith in rw e

  pub number_out : (stop left k i n : ℕ) → left ≤ k → number_from s stop (left - k) i n ≡ None
  unfolding number_from
  number_out stop left k i n h = let e : left - k ≡ 0 = omega arith in rw e

  pub run_turn : (left k i n : ℕ) → k < left → run_from s (left - k) i n ≡ run_step s i n (run_from s (left - (k + 1)))
  unfolding run_from
  run_turn left k i n h = let e : left - k ≡ suc (left - (k + 1)) = omega arith in rw e

  pub run_out : (left k i n : ℕ) → left ≤ k → run_from s (left - k) i n ≡ None
  unfolding run_from
  run_out left k i n h = let e : left - k ≡ 0 = omega arith in rw e
