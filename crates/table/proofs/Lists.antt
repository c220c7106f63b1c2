-- A list that is filled from another, element by element.
-- Assumes nothing.
use mathlib.Core.Path.{◌≡◌, refl, ap}
use Prim.Native.Nat.{ℕ, zero, suc, ◌≤◌, ◌<◌}
use native.Mathlib.Nat.{not-suc-le-zero, le_of_suc-le-suc}
use mathlib.Core.List.{List, [], ◌∷◌, ◌++◌}
use lib.ListN.{length, get_or, take, drop, set}

module _ {A : Type 0} where
  -- the first i of xs, and then ys from i on
  abbrev pub mixed : ℕ → List A → List A → List A
  mixed i xs ys = take i xs ++ drop i ys

  pub mixed_long : (i : ℕ) (xs ys : List A) → i ≤ length xs → i ≤ length ys → length (mixed i xs ys) ≡ length ys
  mixed_long zero xs ys h k = refl
  mixed_long (suc i) [] ys h k = absurd (not-suc-le-zero h)
  mixed_long (suc i) (x ∷ xs) [] h k = absurd (not-suc-le-zero k)
  mixed_long (suc i) (x ∷ xs) (y ∷ ys) h k = ap suc (mixed_long i xs ys (le_of_suc-le-suc h) (le_of_suc-le-suc k))

  -- one more
  pub mixed_more : (i : ℕ) (xs ys : List A) (d : A) → i < length xs → i < length ys → set (mixed i xs ys) i (get_or xs i d) ≡ mixed (suc i) xs ys
  mixed_more i [] ys d h k = absurd (not-suc-le-zero h)
  mixed_more i (x ∷ xs) [] d h k = absurd (not-suc-le-zero k)
  mixed_more zero (x ∷ xs) (y ∷ ys) d h k = refl
  mixed_more (suc i) (x ∷ xs) (y ∷ ys) d h k = ap {B = List A} (λ r. x ∷ r) (mixed_more i xs ys d (le_of_suc-le-suc h) (le_of_suc-le-suc k))
