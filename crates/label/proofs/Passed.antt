-- A search that looks at the paths alone for the next place of r: the places that it passes over do not stand for r.
use Prim.Native.Nat.{ℕ, ◌+◌, ◌/◌, ◌≤◌, ◌<◌, max}
use native.Mathlib.Omega.{arith}
use mathlib.Core.Bool.{Bool, false}
use mathlib.Core.List.{List}
use mathlib.Core.Path.{◌≡◌, refl, sym, ◌∙◌}
use mathlib.Core.Logic.{◌≢◌, ⊎_elim}
use lib.ListN.{length, get_or}
use Rattle.base.proofs.Tests.{eq_or, lt_or}
use Rattle.meaning.specs.declared.Tag.{Tag}
use Rattle.meaning.specs.Flash.{labels_of, r_of}
use Rattle.meaning.specs.Labels.{counts, is, view}
use Rattle.label.specs.Search.{Next}
use Rattle.label.proofs.Older.{is_other, is_counted}
use Rattle.label.proofs.Scanned.{Clear}

-- no path from `from` up to i is of r
pub record Other (paths : List ℕ) (r from i : ℕ) : Type 0 where
  pub above : from ≤ i
  pub none : (k : ℕ) → from ≤ k → k < i → r_of (get_or paths k 0) ≢ r

module _ (paths : List ℕ) (r from : ℕ) where
  pub other_start : Other paths r from from
  other_start = record { above = omega arith; none = λ k a b. absurd (omega arith) }

  module _ (i : ℕ) (h : Other paths r from i) where
    pub other_more : get_or paths i 0 / 4 ≢ r → Other paths r from (i + 1)
    unfolding r_of
    other_more f = record {
      above = omega (arith, h.above);
      none = λ k a b. ⊎_elim (λ (e : k ≡ i). rw e f) (λ (e : k ≢ i). h.none k a (omega arith)) (eq_or k i);
    }

    pub next_here : get_or paths i 0 / 4 ≡ r → Next paths r from i
    unfolding r_of
    next_here e = record { above = h.above; here = λ l. e; none = h.none }

    pub next_past : length paths ≤ i → Next paths r from i
    next_past e = record { above = h.above; here = λ l. absurd (omega arith); none = h.none }

    -- the scan is at the end, or began past it
    pub next_end : {x : ℕ} → length paths ≤ i → x ≡ max from (length paths) → Next paths r from x
    next_end {x} l b = record {
      above = omega (arith, h.above);
      here = λ (q : x < length paths). absurd (omega arith);
      none = λ k a c. h.none k a (omega arith);
    }

pub ruleset nexts = (other_start, other_more, next_here, next_past)

module _ (tags paths : List ℕ) (t : Tag) (r : ℕ) where
  abbrev stands : ℕ → Bool
  stands k = is (view (length tags) (labels_of tags paths) t k) r

  other_stands : (k : ℕ) → r_of (get_or paths k 0) ≢ r → stands k ≡ false
  unfolding labels_of r_of
  other_stands k f = sym (is_other (length tags) (labels_of tags paths) t r k refl f)

  pub stands_counted : {c : Bool} (i : ℕ) → r_of (get_or paths i 0) ≡ r → c ≡ counts (length tags) (labels_of tags paths) t i → c ≡ stands i
  unfolding labels_of r_of
  stands_counted i e f = is_counted (length tags) (labels_of tags paths) t r i refl e f

  pub passed_start : (x : ℕ) → Next paths r 0 x → Clear stands x
  passed_start x n = record { none = λ k h. other_stands k (n.none k (omega arith) h) }

  -- v is the code's answer for place i
  pub passed_more : {v : Bool} (i x : ℕ) → Clear stands i → v ≡ stands i → v ≡ false → Next paths r (i + 1) x → Clear stands x
  passed_more i x h e f n = record {
    none = λ k q. ⊎_elim (λ (l : k < i). h.none k l)
        (λ (l : i ≤ k). ⊎_elim (λ (s : k ≡ i). rw s (sym e ∙ f)) (λ (s : k ≢ i). other_stands k (n.none k (omega arith) q)) (eq_or k i)) (lt_or k i);
  }
