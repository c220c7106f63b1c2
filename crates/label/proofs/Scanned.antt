-- Loops that look at the places 0 .. n - 1 in turn and stop at the first that passes. The invariant is `Clear p i`: no place below i
-- passes.
use Prim.Native.Nat.{ℕ, ◌+◌, ◌≤◌, ◌<◌}
use native.Mathlib.Nat.{lt_of_lt_of_le}
use native.Mathlib.Omega.{arith}
use mathlib.Core.Bool.{Bool, true, false}
use mathlib.Core.Option.{Option, none, some}
use Rattle.std.specs.Prelude.{Some, None}
use mathlib.Core.Path.{◌≡◌, sym, ap, ◌∙◌}
use lib.Dec.{T}
use borrow.Author.Count.{below_none, below_more}
use borrow.Author.Tests.{not-true, not-false}
use Rattle.base.specs.Choice.{or_zero}
use Rattle.base.specs.Scan.{any, first}
use Rattle.base.proofs.Tests.{T-yes, is_true, is_false, not_both}
use Rattle.base.proofs.Scans.{Found, any_intro, any_elim, Stands, first_stands, first_none_intro}
use Rattle.meaning.specs.Answer.{block}
use Rattle.label.specs.Search.{found}

pub record Clear (p : ℕ → Bool) (i : ℕ) : Type 0 where
  pub none : (k : ℕ) → k < i → p k ≡ false

module _ (p : ℕ → Bool) (n : ℕ) where
  pub clear_start : Clear p 0
  clear_start = record { none = below_none _ }

  -- v is the code's answer for place i
  module _ {v : Bool} (i : ℕ) where
    pub clear_more : Clear p i → v ≡ p i → v ≡ false → Clear p (i + 1)
    clear_more h e f = record { none = below_more _ i h.none (sym e ∙ f) }

    pub any_hit : i < n → v ≡ p i → v ≡ true → true ≡ any n p
    any_hit l e f = sym (is_true _ (any_intro n p i l (T-yes _ (sym e ∙ f))))

    pub first_hit : Clear p i → i < n → v ≡ p i → v ≡ true → first n p ≡ some i
    first_hit h l e f = go (first n p) (first_stands n p)
      where
        t : T (p i)
        t = T-yes _ (sym e ∙ f)

        go : (o : Option ℕ) → Stands n p o → o ≡ some i
        go none s = absurd (s i l t)
        go (some k) s = ap {B = Option ℕ} some (same s.1 s.2)
          where
            same : T (p k) → ((j : ℕ) → j < k → T (p j) → ⊥) → k ≡ i
            same b d =
                let below : k < i → ⊥ = λ q. not_both _ (h.none k q) b in
                let above : i < k → ⊥ = λ q. d i q t in
                omega arith

    -- x is the place that the code answers with
    pub place_hit : {x : ℕ} → Clear p i → i < n → v ≡ p i → v ≡ true → x ≡ i → Some (block x) ≡ found (first n p)
    unfolding found
    place_hit h l e f q = rw (first_hit h l e f, q)

    pub zero_hit : Clear p i → i < n → v ≡ p i → v ≡ true → i ≡ or_zero (first n p)
    unfolding or_zero
    zero_hit h l e f = rw (first_hit h l e f)

  pub any_clear : (i : ℕ) → Clear p i → n ≤ i → false ≡ any n p
  any_clear i h l = sym (is_false _ (λ t.
      let f : Found n p = any_elim n p t in not_both _ (h.none f.place (lt_of_lt_of_le f.below l)) f.passes))

  pub first_clear : (i : ℕ) → Clear p i → n ≤ i → first n p ≡ none
  first_clear i h l = first_none_intro n p (λ k q t. not_both _ (h.none k (lt_of_lt_of_le q l)) t)

  pub place_clear : (i : ℕ) → Clear p i → n ≤ i → None ≡ found (first n p)
  unfolding found
  place_clear i h l = rw (first_clear i h l)

  pub zero_clear : (i : ℕ) → Clear p i → n ≤ i → 0 ≡ or_zero (first n p)
  unfolding or_zero
  zero_clear i h l = rw (first_clear i h l)

pub ruleset scans = (clear_start, clear_more, any_hit, any_clear, place_hit, place_clear, zero_hit, zero_clear, not-true, not-false)
