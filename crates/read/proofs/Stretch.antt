-- Values of a function from a place on: parts of them, and what they are where the function is known there.
use Prim.Native.Nat.{ℕ, zero, suc, ◌+◌, ◌-◌, ◌≤◌, ◌<◌, suc-le-suc, zero-le}
use mathlib.Core.Path.{◌≡◌, refl, sym, ap, ◌∙◌}
use mathlib.Core.List.{List, ◌∷◌, ◌++◌, append_assoc}
use native.Mathlib.Omega.{arith}
use native.Mathlib.Numerals.{add-one}
use lib.ListN.{length, get_or, take, drop, replicate}
use lib.Seq.{drop-cons, take_at, drop_at}
use Rattle.read.specs.Pieces.{stretch}

module _ (f : ℕ → ℕ) where
  pub stretch_length : (k n : ℕ) → length (stretch f k n) ≡ n
  unfolding stretch
  stretch_length k zero = refl
  stretch_length k (suc n) = ap suc (stretch_length (k + 1) n)

  pub stretch_add : (k i n : ℕ) → stretch f k (i + n) ≡ stretch f k i ++ stretch f (k + i) n
  unfolding stretch
  stretch_add k zero n = let e : 0 + n ≡ n = omega arith in let e' : k ≡ k + 0 = omega arith in
      ap (stretch f k) e ∙ ap (λ (j : ℕ). stretch f j n) e'
  stretch_add k (suc i) n = let e : suc i + n ≡ suc (i + n) = omega arith in let e' : k + 1 + i ≡ k + suc i = omega arith in
      ap (stretch f k) e ∙ ap {B = List ℕ} (λ r. f k ∷ r) (stretch_add (k + 1) i n ∙ ap (λ (j : ℕ). stretch f (k + 1) i ++ stretch f j n) e')

  pub stretch_split : (k i n : ℕ) → i ≤ n → (r : List ℕ) → stretch f k n ++ r ≡ stretch f k i ++ (stretch f (k + i) (n - i) ++ r)
  stretch_split k i n h r =
      let e : n ≡ i + (n - i) = omega arith in
      ap (λ (xs : List ℕ). xs ++ r) (ap (stretch f k) e ∙ stretch_add k i (n - i)) ∙ append_assoc (stretch f k i) (stretch f (k + i) (n - i)) r

  pub stretch_take : (k i n : ℕ) → i ≤ n → (r : List ℕ) → take i (stretch f k n ++ r) ≡ stretch f k i
  stretch_take k i n h r =
      ap (take i) (stretch_split k i n h r) ∙ take_at (stretch f k i) (stretch f (k + i) (n - i) ++ r) i (stretch_length k i)

  pub stretch_drop : (k i n : ℕ) → i ≤ n → (r : List ℕ) → drop i (stretch f k n ++ r) ≡ stretch f (k + i) (n - i) ++ r
  stretch_drop k i n h r =
      ap (drop i) (stretch_split k i n h r) ∙ drop_at (stretch f k i) (stretch f (k + i) (n - i) ++ r) i (stretch_length k i)

-- where two functions agree, so do their stretches
pub stretch_same : (f h : ℕ → ℕ) (k j n : ℕ) → ((i : ℕ) → i < n → f (k + i) ≡ h (j + i)) → stretch f k n ≡ stretch h j n
unfolding stretch
stretch_same f h k j zero e = refl
stretch_same f h k j (suc n) e =
    let a : k + 0 ≡ k = omega arith in
    let b : j + 0 ≡ j = omega arith in
    let p : f k ≡ h j = ap f (sym a) ∙ e 0 (suc-le-suc zero-le) ∙ ap h b in
    let q : stretch f (k + 1) n ≡ stretch h (j + 1) n =
    stretch_same f h (k + 1) (j + 1) n (λ i l. let c : k + 1 + i ≡ k + suc i = omega arith in let d : j + suc i ≡ j + 1 + i = omega arith in
    ap f c ∙ e (suc i) (suc-le-suc l) ∙ ap h d) in
    rw (p, q) refl

-- zeros
pub stretch_zeros : (f : ℕ → ℕ) (k n : ℕ) → ((i : ℕ) → i < n → f (k + i) ≡ 0) → stretch f k n ≡ replicate n 0
unfolding stretch
stretch_zeros f k zero e = refl
stretch_zeros f k (suc n) e =
    let a : k + 0 ≡ k = omega arith in
    let p : f k ≡ 0 = ap f (sym a) ∙ e 0 (suc-le-suc zero-le) in
    let q : stretch f (k + 1) n ≡ replicate n 0 =
    stretch_zeros f (k + 1) n (λ i l. let c : k + 1 + i ≡ k + suc i = omega arith in ap f c ∙ e (suc i) (suc-le-suc l)) in
    rw (p, q) refl

-- a part of a list
pub stretch_part : (f : ℕ → ℕ) (k n : ℕ) (xs : List ℕ) (at : ℕ) → at + n ≤ length xs → ((i : ℕ) → i < n → f (k + i) ≡ get_or xs (at + i) 0)
    → stretch f k n ≡ take n (drop at xs)
unfolding stretch
stretch_part f k zero xs at h e = refl
stretch_part f k (suc n) xs at h e =
    let a : k + 0 ≡ k = omega arith in
    let b : at + 0 ≡ at = omega arith in
    let p : f k ≡ get_or xs at 0 = ap f (sym a) ∙ e 0 (suc-le-suc zero-le) ∙ ap (λ (j : ℕ). get_or xs j 0) b in
    let q : stretch f (k + 1) n ≡ take n (drop (at + 1) xs) =
    stretch_part f (k + 1) n xs (at + 1) (omega arith) (λ i l. let c : k + 1 + i ≡ k + suc i = omega arith in
    let d : at + suc i ≡ at + 1 + i = omega arith in
    ap f c ∙ e (suc i) (suc-le-suc l) ∙ ap (λ (j : ℕ). get_or xs j 0) d) in
    rw (drop-cons xs at 0 (omega arith), p, q, add-one at) refl
