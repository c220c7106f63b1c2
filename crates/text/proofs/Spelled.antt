-- A quoted text as its bytes, for rows that the checker computes.
use Prim.Native.Nat.{ℕ}
use Prim.Native.Char.{code}
use Prim.Native.String.{String, [], ◌∷◌}
use mathlib.Core.List as list
use mathlib.Core.List.{List}

unfoldable pub spelled : String → List ℕ
spelled [] = list.[]
spelled (c ∷ s) = list.◌∷◌ (code c) (spelled s)
