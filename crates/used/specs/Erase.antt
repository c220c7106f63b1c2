-- The erase list by a plan and the masks of used pages.
use Rattle.std.specs.Prelude.{ℕ, Bool, ◌&&◌, ◌||◌, List, length, get_or, eqb}
use Rattle.base.specs.Choice.{test}
use Rattle.base.specs.Scan.{places}
use Rattle.meaning.specs.declared.Plan.{Plan}
use Rattle.meaning.specs.declared.Tag.TheVariants.{Log, Data}
use Rattle.meaning.specs.Flash.{Labels}
use Rattle.meaning.specs.Labels.{counts, dropped, older, view}
use Rattle.used.specs.Bits.{padded}
use Rattle.used.specs.declared.Erase.{Erase}

-- place i holds a data block, none of whose pages is used: its mask is 0
unfoldable pub unused : ℕ → Labels → ℕ → ℕ → Bool
unused n m mask i = counts n m Data i && eqb mask 0

-- "the older goes on the erase list"; "the swept block of that number .. goes on the erase list"; "Data blocks with no used page join
-- the erase list."
unfoldable pub erasable : ℕ → Labels → Plan → ℕ → ℕ → Bool
erasable n m p mask i = older n m i || (test (dropped p) (view n m Log i) || unused n m mask i)

unfoldable pub erase_by : ℕ → Labels → Plan → List ℕ → List ℕ
erase_by n m p masks = places n (λ i. erasable n m p (get_or masks i 0) i)

-- the answer: the list, 0 past its end, and how many there are
unfoldable pub erase_of : List ℕ → Erase
erase_of xs = record { blocks = padded 1024 xs; count = length xs }
