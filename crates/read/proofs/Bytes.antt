-- A part that is filled byte by byte: with zeros, and from another.
use Prim.Native.Nat.{ℕ, zero, suc, ◌+◌, ◌≤◌, ◌<◌}
use mathlib.Core.Path.{◌≡◌, refl, ap, ◌∙◌}
use mathlib.Core.List.{List, [], ◌∷◌, ◌++◌, append-nil}
use native.Mathlib.Omega.{arith}
use native.Mathlib.Nat.{not-suc-le-zero, le_of_suc-le-suc}
use native.Mathlib.Numerals.{add-one}
use lib.ListN.{length, get_or, take, drop, set, replicate, length-set}
use lib.Seq.{take_all, drop-length}

-- the first i of zs stand in l, the others are those of d
pub record Filled (d zs l : List ℕ) (i : ℕ) : Type 0 where
  pub few : i ≤ length d
  pub long : length l ≡ length d
  pub is : l ≡ take i zs ++ drop i d

pub filled_none : (d zs : List ℕ) {i : ℕ} → i ≡ 0 → Filled d zs d i
filled_none d zs {i} e = record { few = omega arith; long = refl; is = rw e refl }

more : (d zs : List ℕ) (i : ℕ) → i < length d → i < length zs → set (take i zs ++ drop i d) i (get_or zs i 0) ≡ take (suc i) zs ++ drop (suc i) d
more [] zs i h k = absurd (not-suc-le-zero h)
more (y ∷ d) [] i h k = absurd (not-suc-le-zero k)
more (y ∷ d) (z ∷ zs) zero h k = refl
more (y ∷ d) (z ∷ zs) (suc i) h k = ap {B = List ℕ} (λ r. z ∷ r) (more d zs i (le_of_suc-le-suc h) (le_of_suc-le-suc k))

module _ (d zs l : List ℕ) (i : ℕ) (f : Filled d zs l i) where
  pub filled_more : {v : ℕ} → i < length l → length d ≡ length zs → v ≡ get_or zs i 0 → Filled d zs (set l i v) (i + 1)
  filled_more {v} h e w = record {
    few = omega (arith, f.long);
    long = length-set l i v ∙ f.long;
    is = rw (add-one i, f.is, w) (more d zs i (omega (arith, f.long)) (omega (arith, f.long)));
  }

  pub filled_full : length l ≤ i → length d ≡ length zs → l ≡ zs
  filled_full h e =
      let k : i ≡ length d = omega (arith, f.long, f.few) in
      f.is ∙ ap (λ (j : ℕ). take j zs ++ drop j d) k ∙ ap (λ (r : List ℕ). take (length d) zs ++ r) (drop-length d)
      ∙ append-nil (take (length d) zs) ∙ take_all (length d) zs (omega (arith, e))

-- ---- zeros

pub zero_at : (n i : ℕ) → i < n → get_or {A = ℕ} (replicate n 0) i 0 ≡ 0
zero_at zero i h = absurd (not-suc-le-zero h)
zero_at (suc n) zero h = refl
zero_at (suc n) (suc i) h = zero_at n i (le_of_suc-le-suc h)
