-- The rows of the files, before and after a message.
use Rattle.std.specs.Prelude.{ℕ, ◌^◌, ◌<◌, ◌≡◌, List, length}
use Rattle.base.specs.Member.{In}
use Rattle.meaning.specs.declared.Extent.{Extent}
use Rattle.runs.specs.declared.Span.{Span}
use Rattle.runs.specs.Runs.{Rising, Parts, Placed, Owned, gather}
use Rattle.change.specs.declared.room.Room.{Room}

-- the slots ss have their rows, one of them is s, and the extents are counted
pub record Stands (spans : List Span) (rows : List (List ℕ)) (room : Room) (ss : List ℕ) (s : ℕ) : Type 0 where
  pub placed : Placed spans rows room.bump ss
  pub one : In s ss
  pub used : room.used ≡ length (gather spans rows ss)

-- the rows are those of the files with these paths, in their order, and that of slot s is p
pub record Known (path : ℕ → ℕ) (spans : List Span) (rows : List (List ℕ)) (ss : List ℕ) (s p : ℕ) : Type 0 where
  pub owned : Owned path spans rows ss
  pub rising : Rising path ss
  pub own : path s ≡ p
  pub low : p < 2 ^ 32

-- the extents are xs, and counted; they may be too many
pub record Laid (path : ℕ → ℕ) (spans : List Span) (rows : List (List ℕ)) (room : Room) (ss : List ℕ) (xs : List Extent) : Type 0 where
  pub parts : Parts spans rows room.bump ss
  pub owned : Owned path spans rows ss
  pub all : gather spans rows ss ≡ xs
  pub used : room.used ≡ length xs

-- whatever the paths are, the extents are xs then; before, those of slot s were of the file with path p
abbrev pub Turns : List Span → List (List ℕ) → List Span → List (List ℕ) → Room → List ℕ → ℕ → ℕ → List Extent → Type 0
Turns spans rows spans' rows' room ss s p xs = (path : ℕ → ℕ) → Known path spans rows ss s p → Laid path spans' rows' room ss xs

-- some paths are such
abbrev pub Some : List Span → List (List ℕ) → List ℕ → ℕ → ℕ → Type 0
Some spans rows ss s p = (path : ℕ → ℕ) × Known path spans rows ss s p
