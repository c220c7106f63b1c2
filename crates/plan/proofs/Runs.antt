-- A run of numbers without gaps, and the plan put together.
use Prim.Native.Nat.{ℕ, zero, suc, ◌+◌, ◌-◌, ◌*◌, ◌≤◌, ◌<◌}
use native.Mathlib.Omega.{arith}
use mathlib.Core.Bool.{Bool, true, false, ◌&&◌}
use mathlib.Core.Option.{Option}
use mathlib.Core.Path.{◌≡◌, refl, ap, ap₂, ◌∙◌}
use lib.Dec.{ltb}
use borrow.Author.Tests.{lt-ltb, le-ltb, not-true, not-false}
use Rattle.base.specs.Choice.{if_true}
use Rattle.meaning.specs.declared.Number.{Number}
use Rattle.meaning.specs.declared.Tag.TheVariants.{Log}
use Rattle.meaning.specs.Flash.{Labels, log_r, successor}
use Rattle.meaning.specs.Labels.{active_generation, has, log_plan, lowest_number, plan_from, plan_of, unbroken, view}

module _ (n : ℕ) (v : ℕ → Option ℕ) (g bound : ℕ) where
  -- c numbers are passed, and the rest starts at k
  pub record Running (from c k : ℕ) : Type 0 where
    pub rest : unbroken n v g bound from n ≡ c + unbroken n v g bound k (n - c)

  pub run_start : (from : ℕ) → Running from 0 from
  run_start from = let z : n - 0 ≡ n = omega arith in record { rest = rw z (omega arith) }

  ends_at : (k fuel : ℕ) → bound ≤ k → unbroken n v g bound k fuel ≡ 0
  unfolding unbroken if_true
  ends_at k zero l = refl
  ends_at k (suc fuel) l = rw (le-ltb k bound l)

  gap_at : {x : Bool} (k fuel : ℕ) → x ≡ has n v (k * 4 + g) → x ≡ false → unbroken n v g bound k fuel ≡ 0
  unfolding unbroken if_true log_r
  gap_at k zero e f = refl
  gap_at k (suc fuel) e f = go (ltb k bound)
    where
      go : (b : Bool) → if_true (b && has n v (k * 4 + g)) (suc (unbroken n v g bound (k + 1) fuel)) 0 ≡ 0
      go true = rw (← e, f)
      go false = refl

  goes_on : {x : Bool} (k fuel : ℕ) → k < bound → x ≡ has n v (k * 4 + g) → x ≡ true → unbroken n v g bound k (suc fuel) ≡ suc (unbroken n v g bound (k + 1) fuel)
  unfolding unbroken if_true log_r
  goes_on k fuel l e f = rw (lt-ltb k bound l, ← e, f)

  module _ (from c k : ℕ) (h : Running from c k) where
    pub run_past : bound ≤ k → c ≡ unbroken n v g bound from n
    run_past l = omega (arith, h.rest, ends_at k (n - c) l)

    pub run_gap : {x : Bool} → x ≡ has n v (k * 4 + g) → x ≡ false → c ≡ unbroken n v g bound from n
    run_gap e f = omega (arith, h.rest, gap_at k (n - c) e f)

    pub run_all : n ≤ c → c ≡ unbroken n v g bound from n
    unfolding unbroken
    run_all l = let z : n - c ≡ 0 = omega arith in let s : unbroken n v g bound from n ≡ c + 0 = rw z at h.rest in omega arith

    pub run_more : {x : Bool} → c < n → k < bound → x ≡ has n v (k * 4 + g) → x ≡ true → Running from (c + 1) (k + 1)
    run_more q l e f =
        let z : n - c ≡ suc (n - (c + 1)) = omega arith in
        let s : unbroken n v g bound from n ≡ c + unbroken n v g bound k (suc (n - (c + 1))) = rw z at h.rest in
        record { rest = omega (arith, goes_on k (n - (c + 1)) l e f) }

  pub run_none : (from : ℕ) → bound ≤ from → 0 ≡ unbroken n v g bound from n
  run_none from l = run_past from 0 from (run_start from) l

  -- by the number alone: c is how far it lies above the first
  pub run_from : (from : ℕ) → Running from (from - from) from
  run_from from = let z : from - from ≡ 0 = omega arith in rw z (run_start from)

  pub run_next : {x : Bool} (from k : ℕ) → Running from (k - from) k → from ≤ k → k - from < n → k < bound → x ≡ has n v (k * 4 + g) → x ≡ true → Running from (k + 1 - from) (k + 1)
  run_next from k h a q l e f = let z : k + 1 - from ≡ k - from + 1 = omega arith in rw z (run_more from (k - from) k h q l e f)

  pub run_to_bound : (from k : ℕ) → Running from (k - from) k → bound ≤ k → k ≤ bound → bound - from ≡ unbroken n v g bound from n
  run_to_bound from k h a b = let z : bound ≡ k = omega arith in let w : bound - from ≡ k - from = omega arith in w ∙ run_past from (k - from) k h a

pub ruleset runs = (run_start, run_none, run_past, run_gap, run_all, run_more, not-true, not-false)

-- the plan's parts are the definition's; the swept log is counted up to the active log's first number
pub plan_is : {g h a b bound : ℕ} {s : Number} (n : ℕ) (m : Labels) → g ≡ active_generation n (view n m Log) → s.0 ≡ lowest_number n (view n m Log) g → h ≡ successor g
    → a ≡ unbroken n (view n m Log) h bound 0 n → b ≡ unbroken n (view n m Log) g 4096 s.0 n → bound ≡ s.0
    → record { generation = g; start = s; swept = a; active = b } ≡ log_plan n m
unfolding log_plan plan_of plan_from
plan_is {g} {h} {a} {b} {bound} {s} n m e f k ea eb q =
    let v = view n m Log in
    let f' : s.0 ≡ lowest_number n v (active_generation n v) = f ∙ ap (lowest_number n v) e in
    let k' : h ≡ successor (active_generation n v) = k ∙ ap successor e in
    λ i. record {
      generation = e i;
      start = record { 0 = f' i };
      swept = (ea ∙ ap₂ (λ (x y : ℕ). unbroken n v x y 0 n) k' (q ∙ f')) i;
      active = (eb ∙ ap₂ (λ (x y : ℕ). unbroken n v x 4096 y n) e f') i;
    }
