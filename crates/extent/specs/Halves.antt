-- The search by halves, over rows in any order.
use Rattle.std.specs.Prelude.{ℕ, zero, suc, ◌+◌, ◌-◌, ◌/◌, List, [], get_or}
use Rattle.base.specs.Choice.{if_less}
use Rattle.meaning.specs.Replay.{start}
use Rattle.extent.specs.Rows.{extent_of}

-- for the first row that does not start before k: it is from lo on, after at most `left` rows
unfoldable pub halved : ℕ → List (List ℕ) → ℕ → ℕ → ℕ → ℕ
halved zero rows k lo left = lo
halved (suc fuel) rows k lo left =
    if_less 0 left
    (if_less (start (extent_of (get_or rows (lo + (left - left / 2) - 1) []))) k
    (halved fuel rows k (lo + (left - left / 2)) (left - (left - left / 2)))
    (halved fuel rows k lo (left - (left - left / 2))))
    lo

-- among the first n
unfoldable pub by_halves : List (List ℕ) → ℕ → ℕ → ℕ
by_halves rows n k = halved n rows k 0 n
