-- What is written one element after another: writing what is left from here gives what writing all gave.
use Prim.Native.Nat.{ℕ, ◌+◌, ◌≤◌, ◌<◌}
use native.Mathlib.Numerals.{add-one}
use native.Mathlib.Omega.{arith}
use mathlib.Core.List.{List, [], ◌∷◌, ◌++◌}
use mathlib.Core.Path.{◌≡◌, refl, ap, ◌∙◌}
use lib.ListN.{length, drop, get_or, drop_of_length-le}
use lib.Seq.{drop-cons}
use Rattle.text.specs.Put.{put, end_of}
use Rattle.text.proofs.Puts.{put_append, end_append}
use Rattle.listing.specs.Wrote.{Wrote}

pub record Left {A : Type 0} (all : List A → List ℕ) (xs : List A) (l₀ : List ℕ) (at₀ i : ℕ) (l : List ℕ) (at : ℕ) : Type 0 where
  pub within : i ≤ length xs
  pub text : put l at (all (drop i xs)) ≡ put l₀ at₀ (all xs)
  pub end : end_of l at (all (drop i xs)) ≡ end_of l₀ at₀ (all xs)

module _ {A : Type 0} (all : List A → List ℕ) (xs : List A) (l₀ : List ℕ) (at₀ : ℕ) where
  pub left_start : Left all xs l₀ at₀ 0 l₀ at₀
  left_start = record { within = omega arith; text = refl; end = refl }

  module _ (i : ℕ) {l : List ℕ} {at : ℕ} (w : Left all xs l₀ at₀ i l at) where
    pub left_done : all [] ≡ [] → length xs ≤ i → Wrote l₀ at₀ (all xs) l at
    unfolding put end_of
    left_done z h =
        let d = drop_of_length-le xs h in
        record { text = rw (d, z) at w.text; end = rw (d, z) at w.end }

    pub left_on : (d : A) (ys : List ℕ) {m : List ℕ} {to : ℕ} → all (get_or xs i d ∷ drop (i + 1) xs) ≡ ys ++ all (drop (i + 1) xs) → i < length xs
        → Wrote l at ys m to
        → Left all xs l₀ at₀ (i + 1) m to
    left_on d ys {m} {to} z h p =
        let e : all (drop i xs) ≡ ys ++ all (drop (i + 1) xs) = ap all (rw (add-one i) (drop-cons xs i d h)) ∙ z in
        record {
          within = omega arith;
          text = rw (p.text, p.end) (put_append l at ys (all (drop (i + 1) xs)) ∙ rw e at w.text);
          end = rw (p.text, p.end) (end_append l at ys (all (drop (i + 1) xs)) ∙ rw e at w.end);
        }
