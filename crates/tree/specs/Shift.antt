-- The first n of a list with one more, and with one less.
use Rattle.std.specs.Prelude.{ℕ, suc, ◌+◌, List, ◌∷◌, ◌++◌, get_or, take, drop}

-- v at i
unfoldable pub insert_at : {A : Type 0} → ℕ → A → List A → List A
insert_at i v l = take i l ++ v ∷ drop i l

-- without the element at i
unfoldable pub remove_at : {A : Type 0} → ℕ → List A → List A
remove_at i l = take i l ++ drop (suc i) l

-- v is put at i among the first n; what stood past them is lost by one
unfoldable pub opened : ℕ → ℕ → ℕ → List ℕ → List ℕ
opened n i v xs = insert_at i v (take n xs) ++ drop (n + 1) xs

-- the element at i of the first n stands past them then
unfoldable pub closed : ℕ → ℕ → List ℕ → List ℕ
closed n i xs = remove_at i (take n xs) ++ get_or xs i 0 ∷ drop n xs
