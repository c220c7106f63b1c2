-- A part of a slice that is being written from its start on.
use mathlib.Core.Path.{◌≡◌, refl, sym, ap, ◌∙◌, subst}
use mathlib.Core.List.{List, ◌++◌, append-nil}
use Prim.Native.Nat.{ℕ, ◌+◌, ◌≤◌, ◌<◌, zero-le}
use native.Mathlib.Nat.{zero-add}
use native.Mathlib.Numerals.{add-one}
use native.Mathlib.Omega.{arith}
use lib.ListN.{length, get_or, set, take, drop, replicate, length-set, length-replicate, get_or-replicate, drop_of_length-le}
use lib.Seq.{paste, paste-zero, paste-suc, take_all}
use Rattle.step.specs.Done.{written}

-- l is d with the first i elements of s in it
abbrev pub Copied : List ℕ → List ℕ → List ℕ → ℕ → Type 0
Copied d s l i = (l ≡ paste d 0 s i) × (length l ≡ length d) × (i ≤ length d) × (i ≤ length s)

pub copied_none : (d s : List ℕ) → Copied d s d 0
copied_none d s = (paste-zero d 0 s, refl, zero-le, zero-le)

pub copied_more : (d s l : List ℕ) (i : ℕ) → Copied d s l i → i < length l → i < length s → Copied d s (set l i (get_or s i 0)) (i + 1)
copied_more d s l i h p q =
    let z : 0 + i ≡ i = zero-add i in
    let n : length l ≡ length d = h.1 in
    let m : 0 + i < length d = omega arith in (
      ap (λ (k : List ℕ). set k i (get_or s i 0)) h.0
          ∙ ap (λ (k : ℕ). set (paste d 0 s i) k (get_or s i 0)) (sym z)
          ∙ paste-suc d 0 s i 0 m q
          ∙ ap (paste d 0 s) (sym (add-one i)),
      length-set l i (get_or s i 0) ∙ n,
      omega arith,
      omega arith,
    )

-- it ends with the part or with what is written
pub copied_full : (d s l : List ℕ) (i : ℕ) → Copied d s l i → length l ≤ i → l ≡ written d s
unfolding written
copied_full d s l i h p =
    let n : length l ≡ length d = h.1 in
    let e : i ≡ length d = omega arith in
    let j : 0 + i ≡ i = zero-add i in
    let a : length d ≤ 0 + i = omega arith in
    let b : length d ≤ length s = omega arith in
    h.0 ∙ ap (λ (k : List ℕ). take i s ++ k) (drop_of_length-le d a ∙ sym (drop_of_length-le d b)) ∙ ap (λ (k : ℕ). take k s ++ drop (length s) d) e

pub copied_out : (d s l : List ℕ) (i : ℕ) → Copied d s l i → length s ≤ i → l ≡ written d s
unfolding written
copied_out d s l i h p =
    let e : i ≡ length s = omega arith in
    let j : 0 + i ≡ length s = zero-add i ∙ e in
    let a : length s ≤ i = omega arith in
    let b : length s ≤ length d = omega arith in
    h.0 ∙ ap (λ (k : ℕ). take i s ++ drop k d) j ∙ ap (λ (k : List ℕ). k ++ drop (length s) d) (take_all i s a ∙ sym (take_all (length d) s b))

-- ---- a part filled with one byte

abbrev pub Filled : List ℕ → ℕ → List ℕ → ℕ → Type 0
Filled d b l i = Copied d (replicate (length d) b) l i

pub filled_more : (d : List ℕ) (b : ℕ) (l : List ℕ) (i : ℕ) → Filled d b l i → i < length l → Filled d b (set l i b) (i + 1)
filled_more d b l i h p =
    let n : length l ≡ length d = h.1 in
    let m : i < length d = omega arith in
    let r = length-replicate (length d) b in
    let q : i < length (replicate (length d) b) = omega arith in
    subst (λ (x : ℕ). Filled d b (set l i x) (i + 1)) (get_or-replicate (length d) i b 0 m) (copied_more d (replicate (length d) b) l i h p q)

pub filled_full : (d : List ℕ) (b : ℕ) (l : List ℕ) (i : ℕ) → Filled d b l i → length l ≤ i → l ≡ replicate (length d) b
unfolding written
filled_full d b l i h p =
    let r = length-replicate (length d) b in
    let x : length d ≤ length (replicate (length d) b) = omega arith in
    let y : length (replicate (length d) b) ≤ length d = omega arith in
    copied_full d (replicate (length d) b) l i h p
    ∙ ap (λ (k : List ℕ). take (length d) (replicate (length d) b) ++ k) (drop_of_length-le d x)
    ∙ append-nil (take (length d) (replicate (length d) b))
    ∙ take_all (length d) (replicate (length d) b) y

pub ruleset fills = (copied_none, copied_more, copied_full, copied_out, filled_more, filled_full)
