-- The search by halves: whatever its fuel, and over rows in order.
use Prim.Native.Nat.{ℕ, zero, suc, ◌+◌, ◌-◌, ◌/◌, ◌^◌, ◌≤◌, ◌<◌}
use mathlib.Core.Path.{◌≡◌, refl, sym, subst, ◌∙◌}
use mathlib.Core.Logic.{⊎_elim}
use mathlib.Core.List.{List, []}
use native.Mathlib.Omega.{arith}
use lib.ListN.{length, get_or, take, drop}
use Rattle.base.specs.Member.{All}
use Rattle.base.proofs.Choices.{less_yes, less_no}
use Rattle.base.proofs.Tests.{lt_or}
use Rattle.meaning.specs.declared.Extent.{Extent}
use Rattle.meaning.specs.Replay.{start}
use Rattle.extent.specs.Rows.{extent_of, runs, Within, Split}
use Rattle.extent.proofs.Line.{all_drop}
use Rattle.extent.proofs.Parts.{rows_low, rows_high, none_left}
use Rattle.extent.proofs.Rows.{runs_length}
use Rattle.extent.specs.Halves.{halved, by_halves}

module _ (rows : List (List ℕ)) (n k : ℕ) where
  -- the loop stands at lo, with `left` rows to go: what it will answer
  abbrev pub Search : ℕ → ℕ → Type 0
  Search lo left = (fuel : ℕ) × (left ≤ fuel) × (lo + left ≤ n) × (by_halves rows n k ≡ halved fuel rows k lo left)

  pub search_begin : Search 0 n
  unfolding by_halves
  search_begin = (n, omega arith, omega arith, refl)

  abbrev half : ℕ → ℕ
  half left = left - left / 2

  abbrev row : ℕ → ℕ → Extent
  row lo left = extent_of (get_or rows (lo + half left - 1) [])

  pub search_high : (lo left : ℕ) → Search lo left → 0 < left → start (row lo left) < k → Search (lo + half left) (left - half left)
  unfolding halved
  search_high lo left (zero, f, r, e) h l = absurd (omega arith)
  search_high lo left (suc fuel, f, r, e) h l = (fuel, omega arith, omega arith, e ∙ less_yes 0 left _ _ h ∙ less_yes (start (row lo left)) k _ _ l)

  pub search_low : (lo left : ℕ) → Search lo left → 0 < left → k ≤ start (row lo left) → Search lo (left - half left)
  unfolding halved
  search_low lo left (zero, f, r, e) h l = absurd (omega arith)
  search_low lo left (suc fuel, f, r, e) h l = (fuel, omega arith, omega arith, e ∙ less_yes 0 left _ _ h ∙ less_no (start (row lo left)) k _ _ l)

  pub search_end : (lo left : ℕ) → Search lo left → left ≤ 0 → (lo ≡ by_halves rows n k) × (lo ≤ n)
  unfolding halved
  search_end lo left (zero, f, r, e) h = (sym e, omega arith)
  search_end lo left (suc fuel, f, r, e) h = (sym (e ∙ less_no 0 left _ _ h), omega arith)

  -- ---- rows in order

  module _ (some : n ≤ length rows) (all : Within 0 (2 ^ 64) (take n rows)) where
    abbrev Low : ℕ → Type 0
    Low lo = All (λ (x : Extent). start x < k) (take lo (runs rows n))

    abbrev High : ℕ → Type 0
    High hi = All (λ (x : Extent). k ≤ start x) (drop hi (runs rows n))

    split_at : (fuel lo left : ℕ) → left ≤ fuel → lo + left ≤ n → Low lo → High (lo + left) → Split k (runs rows n) (halved fuel rows k lo left)
    unfolding halved
    split_at zero lo left f r a b = record {
      few = omega (arith, runs_length rows n some);
      low = a;
      high = all_drop _ (runs rows n) (lo + left) lo (omega arith) b;
    }
    split_at (suc fuel) lo left f r a b = ⊎_elim
        (λ (h : 0 < left). ⊎_elim
        (λ (l : start (row lo left) < k).
        subst (Split k (runs rows n)) (sym (less_yes 0 left _ _ h ∙ less_yes (start (row lo left)) k _ _ l))
        (split_at fuel (lo + half left) (left - half left) (omega arith) (omega arith)
        (rows_low rows n some all (lo + half left - 1) (lo + half left) k (omega arith) (omega arith) l)
        (all_drop _ (runs rows n) (lo + left) (lo + half left + (left - half left)) (omega arith) b)))
        (λ (l : k ≤ start (row lo left)).
        subst (Split k (runs rows n)) (sym (less_yes 0 left _ _ h ∙ less_no (start (row lo left)) k _ _ l))
        (split_at fuel lo (left - half left) (omega arith) (omega arith) a
        (rows_high rows n some all (lo + half left - 1) (lo + (left - half left)) k (omega arith) (omega arith) l)))
        (lt_or (start (row lo left)) k))
        (λ (h : left ≤ 0).
        subst (Split k (runs rows n)) (sym (less_no 0 left _ _ h))
        (record {
          few = omega (arith, runs_length rows n some);
          low = a;
          high = all_drop _ (runs rows n) (lo + left) lo (omega arith) b;
        }))
        (lt_or 0 left)

    pub halves_split : Split k (runs rows n) (by_halves rows n k)
    unfolding by_halves
    halves_split = split_at n 0 n (omega arith) (omega arith) tt (none_left rows n (0 + n) _ (omega arith))
