-- Elements copied to where they stand.
use mathlib.Core.Path.{◌≡◌, sym}
use mathlib.Core.List.{List}
use Prim.Native.Nat.{ℕ, ◌+◌}
use lib.ListN.{drop, take-append-drop}
use lib.Seq.{paste, take-add}

pub stay : {A : Type 0} (xs : List A) (q k : ℕ) → xs ≡ paste xs q (drop q xs) k
stay xs q k = rw (← take-add q k xs) (sym (take-append-drop (q + k) xs))
