-- Numbers put into a lent slice, one after another. What has no room is left out, and the place then stays at the end, so nobody asks
-- for room before the end.
use Rattle.std.specs.Prelude.{ℕ, List, [], ◌∷◌, set}
use Rattle.text.specs.Piece.{past_at}

-- the slice l, with xs put from a place on
unfoldable pub put : List ℕ → ℕ → List ℕ → List ℕ
put l at [] = l
put l at (x ∷ xs) = put (set l at x) (past_at l at) xs

-- the place past xs
unfoldable pub end_of : List ℕ → ℕ → List ℕ → ℕ
end_of l at [] = at
end_of l at (x ∷ xs) = end_of (set l at x) (past_at l at) xs
