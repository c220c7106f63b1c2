-- A list put into another from a place on.
use Prim.Native.Nat.{ℕ, ◌+◌, ◌-◌, ◌≤◌, ◌<◌}
use mathlib.Core.Path.{◌≡◌, refl, sym, ap, ◌∙◌}
use mathlib.Core.Logic.{◌⊎◌, ⊎_elim}
use mathlib.Core.List.{List, ◌∷◌, ◌++◌, append_assoc}
use native.Mathlib.Omega.{arith}
use native.Mathlib.Numerals.{add-one}
use lib.ListN.{length, take, drop, get_or, take-append-drop, length-take, length-drop, length-append}
use lib.Seq.{take_at, drop_at, take-take, drop-drop, take-append-le, drop-append-le, drop-append-add, length-take-le, get_or-take, split_at}
use Rattle.extent.proofs.Rows.{drop_take}
use Rattle.runs.specs.Runs.{put}

module _ {A : Type 0} where
  seam : (r k : ℕ) (xs : List A) → r ≤ k → drop r (take k xs) ++ drop k xs ≡ drop r xs
  seam r k xs h =
      let e : k ≡ r + (k - r) = omega arith in
      let d : drop k xs ≡ drop (k - r) (drop r xs) = ap (λ (j : ℕ). drop j xs) e ∙ sym (drop-drop (k - r) r xs) in
      rw (drop_take r k xs, d) (take-append-drop (k - r) (drop r xs))

  pub put_length : (xs : List A) (at : ℕ) (ys : List A) → at + length ys ≤ length xs → length (put xs at ys) ≡ length xs
  put_length xs at ys h = simp (length-append, length-take, length-drop) (omega arith)

  pub put_own : (xs : List A) (at : ℕ) (ys : List A) → at ≤ length xs → take (length ys) (drop at (put xs at ys)) ≡ ys
  put_own xs at ys h = rw (drop_at (take at xs) (ys ++ drop (at + length ys) xs) at (length-take-le at xs h)) (take_at ys (drop (at + length ys) xs) (length ys) refl)

  -- what a list that is put in front begins with, put in front of another
  pub put_front : (xs rest out ys to : List A) (m : ℕ) → out ≡ put rest 0 ys → m ≡ length ys → to ≡ take m out → to ++ drop m xs ≡ put xs 0 ys
  put_front xs rest out ys to m e h f =
      let t : take m out ≡ ys = rw e (take_at ys (drop (0 + length ys) rest) m (sym h)) in
      let z : 0 + length ys ≡ length ys = omega arith in
      rw (f, t, h, z)

  -- what stands before the place or past what is put there
  pub put_apart : (xs : List A) (at : ℕ) (ys : List A) (f m : ℕ) → at + length ys ≤ length xs → (f + m ≤ at) ⊎ (at + length ys ≤ f)
      → take m (drop f (put xs at ys)) ≡ take m (drop f xs)
  put_apart xs at ys f m h o = ⊎_elim below above o
    where
      rest : List A
      rest = ys ++ drop (at + length ys) xs

      below : f + m ≤ at → take m (drop f (put xs at ys)) ≡ take m (drop f xs)
      below l =
          let a : f ≤ length (take at xs) = omega (arith, length-take at xs) in
          let b : m ≤ length (drop f (take at xs)) = omega (arith, length-drop f (take at xs), length-take at xs) in
          ap (take m) (drop-append-le f (take at xs) (ys ++ drop (at + length ys) xs) a) ∙ take-append-le m (drop f (take at xs)) (ys ++ drop (at + length ys) xs) b
          ∙ ap (take m) (drop_take f at xs) ∙ take-take m (at - f) (drop f xs) (omega arith)

      above : at + length ys ≤ f → take m (drop f (put xs at ys)) ≡ take m (drop f xs)
      above l =
          let p : List A = take at xs ++ ys in
          let e : f ≡ length p + (f - (at + length ys)) = omega (arith, length-append (take at xs) ys, length-take at xs) in
          let i : at + length ys + (f - (at + length ys)) ≡ f = omega arith in
          ap (take m)
          (ap (drop f) (sym (append_assoc (take at xs) ys (drop (at + length ys) xs))) ∙ ap (λ (j : ℕ). drop j (p ++ drop (at + length ys) xs)) e
          ∙ drop-append-add p (drop (at + length ys) xs) (f - (at + length ys)) ∙ drop-drop (f - (at + length ys)) (at + length ys) xs ∙ ap (λ (j : ℕ). drop j xs) i)

  pub put_put : (xs : List A) (at : ℕ) (ys zs : List A) (k : ℕ) → at ≤ length xs → k ≡ at + length ys → put (put xs at ys) k zs ≡ put xs at (ys ++ zs)
  put_put xs at ys zs k h e =
      let p : List A = take at xs ++ ys in
      let l : length p ≡ k = simp length-append (omega (arith, length-take-le at xs h)) in
      let a : put xs at ys ≡ p ++ drop k xs = rw e (sym (append_assoc (take at xs) ys (drop (at + length ys) xs))) in
      let t : take k (p ++ drop k xs) ≡ p = take_at p (drop k xs) k l in
      let d : drop (k + length zs) (p ++ drop k xs) ≡ drop (k + length zs) xs =
      sym (drop-drop (length zs) k (p ++ drop k xs)) ∙ ap (drop (length zs)) (drop_at p (drop k xs) k l) ∙ drop-drop (length zs) k xs in
      let j : at + length (ys ++ zs) ≡ k + length zs = simp length-append (omega arith) in
      rw (a, t, d, j) (simp append_assoc)

  -- k elements lent, and back as ys
  pub put_written : (xs ys : List A) (at k : ℕ) → length ys ≡ k → take at xs ++ (ys ++ drop k (drop at xs)) ≡ put xs at ys
  put_written xs ys at k e = rw (e, drop-drop k at xs)

  -- a part lent, and back with ys in front
  pub put_back : (xs ys : List A) (a k r : ℕ) → length ys ≡ r → r ≤ k → take a xs ++ ((ys ++ drop r (take k (drop a xs))) ++ drop k (drop a xs)) ≡ put xs a ys
  put_back xs ys a k r e h = rw (append_assoc ys (drop r (take k (drop a xs))) (drop k (drop a xs)), seam r k (drop a xs) h, drop-drop r a xs, e)

  -- the first n elements, by the one at k
  pub first_split : (xs : List A) (n k : ℕ) (d : A) → k < n → n ≤ length xs → take n xs ≡ take k xs ++ (get_or xs k d ∷ drop (k + 1) (take n xs))
  first_split xs n k d h l =
      let e : k ≤ n = omega arith in
      let j : k < length (take n xs) = omega (arith, length-take n xs) in
      split_at (take n xs) k d j ∙ rw (take-take k n xs e, get_or-take n xs k d h, add-one k)
