-- A list with one element more among its first, and one less: by std's copy_within and rotate_left.
use Prim.Native.Nat.{ℕ, suc, ◌+◌, ◌-◌, ◌≤◌, ◌<◌}
use mathlib.Core.Path.{◌≡◌, sym, ◌∙◌}
use mathlib.Core.List.{List, [], ◌∷◌, ◌++◌, append_assoc}
use native.Mathlib.Omega.{arith}
use native.Mathlib.Numerals.{add-one}
use lib.ListN.{length, take, drop, set, get_or, length-take, length-drop, length-append}
use lib.Seq.{take-suc, drop-cons, drop-drop, set_at, get_or-take, take-take, length-take-le, take_at}
use Rattle.std.specs.List.{copy_within}
use Rattle.std.proofs.lemmas.List.{drop-take}
use Rattle.tree.specs.Shift.{insert_at, remove_at, opened, closed}

module _ (xs : List ℕ) (n i : ℕ) where
  part : i ≤ n → take (n - i) (drop i xs) ≡ drop i (take n xs)
  part h = let e : i + (n - i) ≡ n = omega arith in rw e at (sym (drop-take i (n - i) xs))

  -- what stood from i up to n goes one place higher, and v is put at i
  pub opens : (v : ℕ) → i ≤ n → n < length xs → set (copy_within xs i n (i + 1)) i v ≡ opened n i v xs
  unfolding opened insert_at
  opens v h l =
      let j : suc i + (n - i) ≡ suc n = omega arith in
      let m : i < length xs = omega arith in
      rw (add-one i, add-one n, part h, j, take-suc xs i 0 m, take-take i n xs h)
      (simp append_assoc (set_at (take i xs) (get_or xs i 0) (drop i (take n xs) ++ drop (suc n) xs) v i (length-take-le i xs (omega arith))))

  -- the part from i up to n is turned by one
  pub closes : (ys : List ℕ) → i < n → n ≤ length xs → ys ≡ drop 1 (take (n - i) (drop i xs)) ++ take 1 (take (n - i) (drop i xs))
      → take i xs ++ (ys ++ drop (n - i) (drop i xs)) ≡ closed n i xs
  unfolding closed remove_at
  closes ys h l e =
      let f : i ≤ n = omega arith in
      let j : i + (n - i) ≡ n = omega arith in
      let m : i < length (take n xs) = omega (arith, length-take n xs) in
      let t : take 1 (drop i (take n xs)) ≡ get_or xs i 0 ∷ [] = rw (drop-cons (take n xs) i 0 m, get_or-take n xs i 0 h) in
      let d : drop 1 (drop i (take n xs)) ≡ drop (suc i) (take n xs) = drop-drop 1 i (take n xs) ∙ rw (add-one i) in
      rw (e, part f, t, d, drop-drop (n - i) i xs, j, take-take i n xs f) (simp append_assoc)

-- ---- what the first of a shifted list are, and how long it is

insert_length : (xs : List ℕ) (n i v : ℕ) → i ≤ n → n ≤ length xs → length (insert_at i v (take n xs)) ≡ n + 1
unfolding insert_at
insert_length xs n i v hi hn = simp (length-append, length-take, length-drop) (omega (arith, length-take n xs, length-drop i (take n xs)))

remove_length : (xs : List ℕ) (n i : ℕ) → i < n → n ≤ length xs → length (remove_at i (take n xs)) ≡ n - 1
unfolding remove_at
remove_length xs n i hi hn = simp (length-append, length-take, length-drop) (omega (arith, length-take n xs))

pub opened_first : (xs : List ℕ) (n i v : ℕ) → i ≤ n → n ≤ length xs → take (n + 1) (opened n i v xs) ≡ insert_at i v (take n xs)
unfolding opened
opened_first xs n i v hi hn = take_at (insert_at i v (take n xs)) _ (n + 1) (insert_length xs n i v hi hn)

pub closed_first : (xs : List ℕ) (n i : ℕ) → i < n → n ≤ length xs → take (n - 1) (closed n i xs) ≡ remove_at i (take n xs)
unfolding closed
closed_first xs n i hi hn = take_at (remove_at i (take n xs)) _ (n - 1) (remove_length xs n i hi hn)

pub opened_length : (xs : List ℕ) (n i v : ℕ) → i ≤ n → n < length xs → length (opened n i v xs) ≡ length xs
unfolding opened
opened_length xs n i v hi hn = simp (length-append, insert_length xs n i v hi (omega arith), length-drop) (omega arith)

pub closed_length : (xs : List ℕ) (n i : ℕ) → i < n → n ≤ length xs → length (closed n i xs) ≡ length xs
unfolding closed
closed_length xs n i hi hn = simp (length-append, remove_length xs n i hi hn, length-drop) (omega arith)
