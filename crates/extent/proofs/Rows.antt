-- Rows and their extents: each is made of the other, and rows in order are extents in order.
use Prim.Native.Nat.{ℕ, zero, suc, ◌-◌, ◌≤◌, ◌<◌}
use mathlib.Core.Path.{◌≡◌, refl, ap, ◌∙◌}
use mathlib.Core.List.{List, [], ◌∷◌, ◌++◌, map, map-append}
use native.Mathlib.Omega.{arith}
use lib.ListN.{length, take, drop, get_or, take-append-drop, length-map, get_or-map}
use lib.Seq.{get_or-take, length-take-le, take-take, take-nil}
use Rattle.std.specs.List.{take-map, drop-map}
use Rattle.meaning.specs.declared.Extent.{Extent}
use Rattle.base.specs.Member.{All}
use Rattle.base.proofs.Lists.{all_append}
use Rattle.extent.specs.Rows.{extent_of, row_of, runs, Four, Lined, Within}
use Rattle.extent.proofs.Line.{lined_append, lined_left, lined_right}

-- ---- lists in general

module _ {A : Type 0} where
  pub all_left : (P : A → Type 0) (xs ys : List A) → All P (xs ++ ys) → All P xs
  all_left P [] ys p = tt
  all_left P (x ∷ xs) ys p = (p.0, all_left P xs ys p.1)

  pub all_right : (P : A → Type 0) (xs ys : List A) → All P (xs ++ ys) → All P ys
  all_right P [] ys p = p
  all_right P (x ∷ xs) ys p = all_right P xs ys p.1

  pub drop_take : (q n : ℕ) (xs : List A) → drop q (take n xs) ≡ take (n - q) (drop q xs)
  drop_take zero n xs = let e : n - 0 ≡ n = omega arith in rw e
  drop_take (suc q) n [] = rw (take-nil n, take-nil (n - suc q))
  drop_take (suc q) zero (x ∷ xs) = let e : 0 - suc q ≡ 0 = omega arith in rw e
  drop_take (suc q) (suc n) (x ∷ xs) = let e : suc n - suc q ≡ n - q = omega arith in rw e (drop_take q n xs)

-- ---- rows and their extents

pub row_back : (r : List ℕ) → Four r → row_of (extent_of r) ≡ r
row_back [] e = absurd (omega arith)
row_back (a ∷ []) e = absurd (omega arith)
row_back (a ∷ (b ∷ [])) e = absurd (omega arith)
row_back (a ∷ (b ∷ (c ∷ []))) e = absurd (omega arith)
row_back (a ∷ (b ∷ (c ∷ (d ∷ [])))) e = refl
row_back (a ∷ (b ∷ (c ∷ (d ∷ (f ∷ r))))) e = absurd (omega arith)

pub rows_back : (rows : List (List ℕ)) → All Four rows → map row_of (map extent_of rows) ≡ rows
rows_back [] h = refl
rows_back (r ∷ rows) h = rw (row_back r h.0, rows_back rows h.1)

pub all_rows : (xs : List Extent) → All Four (map row_of xs)
all_rows [] = tt
all_rows (x ∷ xs) = (refl, all_rows xs)

pub extents_of_rows : (xs : List Extent) → map extent_of (map row_of xs) ≡ xs
extents_of_rows [] = refl
extents_of_rows (x ∷ xs) = ap (λ (ys : List Extent). x ∷ ys) (extents_of_rows xs)

pub rows_within : (lo hi : ℕ) (xs : List Extent) → Lined lo hi xs → Within lo hi (map row_of xs)
rows_within lo hi xs w = record { four = all_rows xs; lined = rw (extents_of_rows xs) w }

pub within_append : (lo mid hi : ℕ) (xs ys : List (List ℕ)) → Within lo mid xs → Within mid hi ys → Within lo hi (xs ++ ys)
within_append lo mid hi xs ys w u = record {
  four = all_append Four xs ys w.four u.four;
  lined = rw (map-append extent_of xs ys) (lined_append lo mid hi (map extent_of xs) (map extent_of ys) w.lined u.lined);
}

pub within_left : (lo hi : ℕ) (xs ys : List (List ℕ)) → Within lo hi (xs ++ ys) → Within lo hi xs
within_left lo hi xs ys w = record { four = all_left Four xs ys w.four; lined = lined_left lo hi (map extent_of xs) (map extent_of ys) (rw (map-append extent_of xs ys) at w.lined) }

pub within_right : (lo hi : ℕ) (xs ys : List (List ℕ)) → Within lo hi (xs ++ ys) → Within lo hi ys
within_right lo hi xs ys w = record { four = all_right Four xs ys w.four; lined = lined_right lo hi (map extent_of xs) (map extent_of ys) (rw (map-append extent_of xs ys) at w.lined) }

pub within_fewer : (lo hi : ℕ) (rows : List (List ℕ)) (n k : ℕ) → k ≤ n → Within lo hi (take n rows) → Within lo hi (take k rows)
within_fewer lo hi rows n k h w =
    rw (take-take k n rows h) at (within_left lo hi (take k (take n rows)) (drop k (take n rows)) (rw (take-append-drop k (take n rows)) w))

module _ (rows : List (List ℕ)) (n : ℕ) where
  pub runs_take : (k : ℕ) → k ≤ n → take k (runs rows n) ≡ runs rows k
  runs_take k h = take-map extent_of k (take n rows) ∙ rw (take-take k n rows h)

  pub runs_drop : (k : ℕ) → drop k (runs rows n) ≡ map extent_of (drop k (take n rows))
  runs_drop k = drop-map extent_of k (take n rows)

  pub runs_length : n ≤ length rows → length (runs rows n) ≡ n
  runs_length h = length-map (take n rows) extent_of ∙ length-take-le n rows h

  pub runs_at : (i : ℕ) → i < n → get_or (runs rows n) i (extent_of []) ≡ extent_of (get_or rows i [])
  runs_at i h = get_or-map extent_of (take n rows) i [] ∙ rw (get_or-take n rows i [] h)
