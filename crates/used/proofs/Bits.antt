-- Laws of the places of a number's bits.
use mathlib.Core.Path.{◌≡◌, refl, sym, ap, ap₂, ◌∙◌}
use mathlib.Core.Bool.{Bool, true, false, not, cond, ◌||◌}
use mathlib.Core.Logic.{inl, inr}
use mathlib.Core.List.{List, [], ◌∷◌, ◌++◌}
use Prim.Native.Nat.{ℕ, zero, suc, ◌+◌, ◌-◌, ◌*◌, ◌/◌, ◌%◌, ◌≤◌, ◌<◌, ◌^◌}
use native.Mathlib.Nat.{two-pow-succ, div-eq_of_lt, add-mul-div_left, add-mul-mod_self_left, eq-or-lt_of_le, le_of_suc-le-suc, not-suc-le-zero, le_refl, le_step}
use native.Mathlib.Numerals.{add-one}
use native.Mathlib.Omega.{arith}
use lib.Pow.{pow_pos, pow_mono, pow-add}
use lib.Dec.{eqb}
use borrow.Author.Tests.{ne_eqb}
use Rattle.base.specs.Choice.{if_true}
use Rattle.base.specs.Scan.{any, places}
use Rattle.used.specs.Bits.{has_page, page_bits}

module _ (f : ℕ → Bool) where
  pub bits_below : (n : ℕ) → page_bits n f < 2 ^ n
  unfolding page_bits if_true
  bits_below zero = omega arith
  bits_below (suc n) = go (f n) (bits_below n)
    where
      go : (b : Bool) → page_bits n f < 2 ^ n → page_bits n f + if_true b (2 ^ n) 0 < 2 ^ suc n
      go true h = omega (arith, two-pow-succ n)
      go false h = omega (arith, two-pow-succ n)

  -- ---- the bits

  -- the last place's bit, over what the lower places give
  top : (b : Bool) (n x : ℕ) → x < 2 ^ n → eqb ((x + if_true b (2 ^ n) 0) / 2 ^ n % 2) 1 ≡ b
  unfolding if_true
  top true n x h =
      let e : (x + 2 ^ n * 1) / 2 ^ n ≡ x / 2 ^ n + 1 = add-mul-div_left x 1 (pow_pos n) in
      let z : x / 2 ^ n ≡ 0 = div-eq_of_lt h in
      let s : x + 2 ^ n ≡ x + 2 ^ n * 1 = omega arith in
      let d : (x + 2 ^ n) / 2 ^ n ≡ 1 = ap (λ (k : ℕ). k / 2 ^ n) s ∙ e ∙ ap (λ (k : ℕ). k + 1) z in
      ap (λ (k : ℕ). eqb (k % 2) 1) d
  top false n x h =
      let s : x + 0 ≡ x = omega arith in
      let z : (x + 0) / 2 ^ n ≡ 0 = ap (λ (k : ℕ). k / 2 ^ n) s ∙ div-eq_of_lt h in
      ap (λ (k : ℕ). eqb (k % 2) 1) z

  -- a lower place's bit does not see it
  under : (b : Bool) (n p x : ℕ) → p < n → (x + if_true b (2 ^ n) 0) / 2 ^ p % 2 ≡ x / 2 ^ p % 2
  unfolding if_true
  under true n p x h =
      let k : ℕ = 2 ^ (n - suc p) in
      let i : suc p + (n - suc p) ≡ n = omega arith in
      let w : 2 ^ n ≡ 2 ^ suc p * k = ap (λ (j : ℕ). 2 ^ j) (sym i) ∙ pow-add 2 (suc p) (n - suc p) in
      let v : 2 ^ suc p * k ≡ 2 ^ p * (2 * k) = ap (λ (j : ℕ). j * k) (two-pow-succ p) ∙ omega arith in
      ap (λ (j : ℕ). (x + j) / 2 ^ p % 2) (w ∙ v)
      ∙ ap (λ (j : ℕ). j % 2) (add-mul-div_left x (2 * k) (pow_pos p))
      ∙ add-mul-mod_self_left (x / 2 ^ p) 2 k
  under false n p x h = let s : x + 0 ≡ x = omega arith in ap (λ (k : ℕ). k / 2 ^ p % 2) s

  -- bit p is set exactly if p passes
  pub bit_is : (n p : ℕ) → p < n → has_page (page_bits n f) p ≡ f p
  unfolding has_page page_bits
  bit_is zero p h = absurd (not-suc-le-zero h)
  bit_is (suc n) p h = elim (eq-or-lt_of_le (le_of_suc-le-suc h)) [
    | inl e ↦ rw e (top (f n) n (page_bits n f) (bits_below n))
    | inr l ↦ ap (λ (k : ℕ). eqb k 1) (under (f n) n p (page_bits n f) l) ∙ bit_is n p l
  ]

  -- no bit is set exactly if no place passes
  pub bits_none : (n : ℕ) → eqb (page_bits n f) 0 ≡ not (any n f)
  unfolding page_bits any if_true
  bits_none zero = refl
  bits_none (suc n) = go (f n) (any n f) (bits_none n)
    where
      go : (b a : Bool) → eqb (page_bits n f) 0 ≡ not a → eqb (page_bits n f + if_true b (2 ^ n) 0) 0 ≡ not (a || b)
      go true true e = ne_eqb (page_bits n f + 2 ^ n) 0 (λ (z : page_bits n f + 2 ^ n ≡ 0). omega (arith, pow_pos n))
      go true false e = ne_eqb (page_bits n f + 2 ^ n) 0 (λ (z : page_bits n f + 2 ^ n ≡ 0). omega (arith, pow_pos n))
      go false true e = let s : page_bits n f + 0 ≡ page_bits n f = omega arith in ap (λ (k : ℕ). eqb k 0) s ∙ e
      go false false e = let s : page_bits n f + 0 ≡ page_bits n f = omega arith in ap (λ (k : ℕ). eqb k 0) s ∙ e

-- ---- the same places

pub places_cong : (n : ℕ) (p q : ℕ → Bool) → ((i : ℕ) → i < n → p i ≡ q i) → places n p ≡ places n q
unfolding places
places_cong zero p q e = refl
places_cong (suc n) p q e = ap₂ (λ (x : List ℕ) (b : Bool). x ++ cond b (n ∷ []) []) (places_cong n p q (λ i h. e i (le_step h))) (e n (le_refl (suc n)))

pub bits_cong : (n : ℕ) (p q : ℕ → Bool) → ((i : ℕ) → i < n → p i ≡ q i) → page_bits n p ≡ page_bits n q
unfolding page_bits
bits_cong zero p q e = refl
bits_cong (suc n) p q e = ap₂ (λ (x : ℕ) (b : Bool). x + if_true b (2 ^ n) 0) (bits_cong n p q (λ i h. e i (le_step h))) (e n (le_refl (suc n)))

-- the places that pass are the set bits
pub bits_places : (n : ℕ) (f : ℕ → Bool) → places n (has_page (page_bits n f)) ≡ places n f
bits_places n f = places_cong n (has_page (page_bits n f)) f (bit_is f n)

-- ---- the code

pub past_bits : (mask p : ℕ) → mask < 2 ^ 32 → 32 ≤ p → false ≡ has_page mask p
unfolding has_page
past_bits mask p l h =
    let m : 2 ^ 32 ≤ 2 ^ p = pow_mono h in
    let b : mask < 2 ^ p = omega arith in
    sym (ap (λ (k : ℕ). eqb (k % 2) 1) (div-eq_of_lt b))

module _ (f : ℕ → Bool) (n : ℕ) where
  pub bits_on : f n ≡ true → page_bits (n + 1) f ≡ page_bits n f + 2 ^ n
  unfolding page_bits if_true
  bits_on e = rw (add-one, page_bits, e)

  pub bits_off : f n ≡ false → page_bits (n + 1) f ≡ page_bits n f
  unfolding page_bits if_true
  bits_off e = rw (add-one, page_bits, e) (omega arith)

-- the bit of a place is a power of two, and fits over those below
pub bit_low : (p : ℕ) → p < 32 → 1 * 2 ^ p % 4294967296 ≡ 2 ^ p
bit_low p h = let k : suc p ≤ 32 = omega arith in let m : 2 ^ suc p ≤ 2 ^ 32 = pow_mono k in omega (arith, two-pow-succ p, pow_pos p)

pub bits_fit : (f : ℕ → Bool) (p : ℕ) → p < 32 → page_bits p f + 2 ^ p < 2 ^ 32
bits_fit f p h = let k : suc p ≤ 32 = omega arith in let m : 2 ^ suc p ≤ 2 ^ 32 = pow_mono k in omega (arith, two-pow-succ p, bits_below f p)
