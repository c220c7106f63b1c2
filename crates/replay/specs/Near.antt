-- Where the slots stand.
use Rattle.std.specs.Prelude.{ℕ, zero, suc, ◌+◌, List, get_or, set}

-- each of the slots at k and the many - 1 positions past it has its position in place
unfoldable pub renumbered : List ℕ → ℕ → ℕ → List ℕ → List ℕ
renumbered slots k zero place = place
renumbered slots k (suc many) place = renumbered slots (k + 1) many (set place (get_or slots k 0) k)
