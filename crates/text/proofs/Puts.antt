-- What is put into a slice: piece by piece, and where there is room for it.
use Prim.Native.Nat.{ℕ, suc, ◌+◌, ◌≤◌, ◌<◌}
use native.Mathlib.Nat.{add-zero, eq-or-lt_of_le}
use native.Mathlib.Numerals.{add-one}
use native.Mathlib.Omega.{arith}
use mathlib.Core.Logic.{⊎_elim}
use mathlib.Core.List.{List, [], ◌∷◌, ◌++◌, append_assoc}
use mathlib.Core.Path.{◌≡◌, refl, sym, ap, ◌∙◌}
use lib.ListN.{length, set, take, drop, length-set, take-append-drop}
use lib.Seq.{drop-set-lt, set_out, take-set-le, take-set-lt, take-suc-set, length-take-le}
use Rattle.base.proofs.Choices.{less_yes, less_no}
use Rattle.base.proofs.Tests.{lt_or}
use Rattle.text.specs.Piece.{past_at}
use Rattle.text.specs.Put.{put, end_of}

-- ---- the next place

pub past_in : (l : List ℕ) (at : ℕ) → at < length l → past_at l at ≡ at + 1
unfolding past_at
past_in l at h = less_yes at (length l) (at + 1) at h

pub past_out : (l : List ℕ) (at : ℕ) → length l ≤ at → past_at l at ≡ at
unfolding past_at
past_out l at h = less_no at (length l) (at + 1) at h

-- ---- one number, no room, and two lists one after another

pub put_in : (l : List ℕ) (at x : ℕ) (xs : List ℕ) → at < length l → put l at (x ∷ xs) ≡ put (set l at x) (at + 1) xs
unfolding put
put_in l at x xs h = rw (past_in l at h)

pub put_out : (l : List ℕ) (at : ℕ) (xs : List ℕ) → length l ≤ at → put l at xs ≡ l
unfolding put
put_out l at [] h = refl
put_out l at (x ∷ xs) h = rw (past_out l at h, set_out l at x h) (put_out l at xs h)

pub put_append : (l : List ℕ) (at : ℕ) (xs ys : List ℕ) → put (put l at xs) (end_of l at xs) ys ≡ put l at (xs ++ ys)
unfolding put end_of
put_append l at [] ys = refl
put_append l at (x ∷ xs) ys = put_append (set l at x) (past_at l at) xs ys

pub end_append : (l : List ℕ) (at : ℕ) (xs ys : List ℕ) → end_of (put l at xs) (end_of l at xs) ys ≡ end_of l at (xs ++ ys)
unfolding put end_of
end_append l at [] ys = refl
end_append l at (x ∷ xs) ys = end_append (set l at x) (past_at l at) xs ys

pub length_put : (l : List ℕ) (at : ℕ) (xs : List ℕ) → length (put l at xs) ≡ length l
unfolding put
length_put l at [] = refl
length_put l at (x ∷ xs) = length_put (set l at x) (past_at l at) xs ∙ length-set l at x

-- ---- with room, all of it stands and all else is as it was

pub end_fits : (l : List ℕ) (at : ℕ) (xs : List ℕ) → at + length xs ≤ length l → end_of l at xs ≡ at + length xs
unfolding end_of
end_fits l at [] h = sym (add-zero at)
end_fits l at (x ∷ xs) h =
    let p : at < length l = omega arith in
    let q : at + 1 + length xs ≤ length (set l at x) = rw (length-set l at x) (omega arith) in
    let e : at + 1 + length xs ≡ at + suc (length xs) = omega arith in
    rw (past_in l at p) (end_fits (set l at x) (at + 1) xs q ∙ e)

pub put_fits : (l : List ℕ) (at : ℕ) (xs : List ℕ) → at + length xs ≤ length l → put l at xs ≡ take at l ++ (xs ++ drop (at + length xs) l)
unfolding put
put_fits l at [] h = rw (add-zero at) (sym (take-append-drop at l))
put_fits l at (x ∷ xs) h =
    let p : at < length l = omega arith in
    let q : at + 1 + length xs ≤ length (set l at x) = rw (length-set l at x) (omega arith) in
    let e : at + 1 + length xs ≡ at + suc (length xs) = omega arith in
    let d : drop (at + 1 + length xs) (set l at x) ≡ drop (at + suc (length xs)) l =
    drop-set-lt (at + 1 + length xs) l at x (omega arith) ∙ ap (λ (n : ℕ). drop n l) e
    in
    let t : take (at + 1) (set l at x) ≡ take at l ++ (x ∷ []) = rw (add-one at) (take-suc-set l at x p) in
    rw (past_in l at p) (put_fits (set l at x) (at + 1) xs q ∙ rw (t, d) (append_assoc (take at l) (x ∷ []) (xs ++ drop (at + suc (length xs)) l)))

-- without room for one more than xs, the place past them is the end: so a place below the end says that all stands
pub end_full : (l : List ℕ) (at : ℕ) (xs : List ℕ) → at ≤ length l → length l ≤ at + length xs → end_of l at xs ≡ length l
unfolding end_of
end_full l at [] h k = omega (arith, add-zero at)
end_full l at (x ∷ xs) h k = ⊎_elim
    (λ (p : at ≡ length l). let q : at ≤ length (set l at x) = rw (length-set l at x) h in
    let r : length (set l at x) ≤ at + length xs = rw (length-set l at x) (omega arith) in
    rw (past_out l at (omega arith)) (end_full (set l at x) at xs q r ∙ length-set l at x))
    (λ (p : at < length l). let q : at + 1 ≤ length (set l at x) = rw (length-set l at x) (omega arith) in
    let r : length (set l at x) ≤ at + 1 + length xs = rw (length-set l at x) (omega arith) in
    rw (past_in l at p) (end_full (set l at x) (at + 1) xs q r ∙ length-set l at x))
    (eq-or-lt_of_le h)

-- ---- the first n places are those of the part lent on: no place past them reaches into it

pub take_put : (n : ℕ) (l : List ℕ) (at : ℕ) (xs : List ℕ) → n ≤ length l → take n (put l at xs) ≡ put (take n l) at xs
unfolding put
take_put n l at [] h = refl
take_put n l at (x ∷ xs) h =
    let s : n ≤ length (set l at x) = rw (length-set l at x) h in
    let k : length (take n l) ≡ n = length-take-le n l h in
    ⊎_elim
    (λ (p : at < n). let t : take n (set l at x) ≡ set (take n l) at x = take-set-lt n l at x p in
    let a : past_at l at ≡ at + 1 = past_in l at (omega arith) in
    let b : past_at (take n l) at ≡ at + 1 = past_in (take n l) at (rw k p) in
    rw (a, b) (take_put n (set l at x) (at + 1) xs s ∙ rw t))
    (λ (p : n ≤ at). let t : take n (set l at x) ≡ take n l = take-set-le n l at x p in
    let o : length (take n l) ≤ at = rw k p in
    let a : n ≤ past_at l at = grows l at n p in
    let b : length (take n l) ≤ past_at l at = rw k a in
    take_put n (set l at x) (past_at l at) xs s ∙ rw t (put_out (take n l) (past_at l at) xs b)
    ∙ sym (put_out (take n l) at (x ∷ xs) o))
    (lt_or at n)
  where
    grows : (l : List ℕ) (at n : ℕ) → n ≤ at → n ≤ past_at l at
    grows l at n p = ⊎_elim
        (λ (q : at < length l). rw (past_in l at q) (omega arith))
        (λ (q : length l ≤ at). rw (past_out l at q) p)
        (lt_or at (length l))
