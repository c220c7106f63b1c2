-- Rows of extents that stand by file. A span says of a file where its rows begin, how many they are, and for how many there is room.
use Rattle.std.specs.Prelude.{ℕ, ◌+◌, ◌*◌, ◌^◌, ◌≤◌, ◌<◌, ◌≡◌, ◌⊎◌, ◌≢◌, List, [], ◌∷◌, ◌++◌, map, length, get_or, take, drop, set}
use Rattle.meaning.specs.declared.Extent.{Extent}
use Rattle.base.specs.Member.{All, In}
use Rattle.meaning.specs.Replay.{spot, lay}
use Rattle.extent.specs.Rows.{extent_of, row_of, Sound, Within}
use Rattle.runs.specs.declared.Span.{Span}

-- the rows of the arena: all live rows, packed, then the largest part that is moved (Moves: packed-fits), and room to pack seldom
abbrev pub capacity : ℕ
capacity = 4096

-- a file with no rows and no room
abbrev pub vacant : Span
vacant = record { first = 0; many = 0; room = 0 }

abbrev pub span_at : List Span → ℕ → Span
span_at spans s = get_or spans s vacant

-- the same part with another number of rows
abbrev pub with : Span → ℕ → Span
with span many = record { first = span.first; many = many; room = span.room }

-- a part with no rows free
abbrev pub full : ℕ → ℕ → Span
full at many = record { first = at; many = many; room = many }

abbrev pub rows_in : List (List ℕ) → Span → List (List ℕ)
rows_in rows span = take span.many (drop span.first rows)

abbrev pub rows_of : List Span → List (List ℕ) → ℕ → List (List ℕ)
rows_of spans rows s = rows_in rows (span_at spans s)

-- the runs of the file in slot s
abbrev pub runs_of : List Span → List (List ℕ) → ℕ → List Extent
runs_of spans rows s = map extent_of (rows_of spans rows s)

-- the runs of some slots, one after another: with the slots in the order of their paths, the extents of document 01
abbrev pub gather : List Span → List (List ℕ) → List ℕ → List Extent
gather spans rows [] = []
gather spans rows (s ∷ ss) = runs_of spans rows s ++ gather spans rows ss

abbrev pub gather_rows : List Span → List (List ℕ) → List ℕ → List (List ℕ)
gather_rows spans rows [] = []
gather_rows spans rows (s ∷ ss) = rows_of spans rows s ++ gather_rows spans rows ss

-- how many rows some slots have
abbrev pub total : List Span → List ℕ → ℕ
total spans [] = 0
total spans (s ∷ ss) = (span_at spans s).many + total spans ss

-- ---- the live slots

-- the first n of a table of slots are live
pub record Live (slots : List ℕ) (n : ℕ) : Type 0 where
  pub all : length slots ≡ 256
  pub few : n ≤ 256

abbrev pub Distinct : List ℕ → Type 0
Distinct [] = Unit {0}
Distinct (s ∷ ss) = (In s ss → ⊥) × Distinct ss

-- each path is less than those after it
abbrev pub Rising : (ℕ → ℕ) → List ℕ → Type 0
Rising path [] = Unit {0}
Rising path (s ∷ ss) = All (λ (t : ℕ). path s < path t) ss × Rising path ss

-- a slot whose part stands below bump
pub record Part (spans : List Span) (bump s : ℕ) : Type 0 where
  pub slot : s < 256
  pub many : (span_at spans s).many ≤ (span_at spans s).room
  pub room : (span_at spans s).first + (span_at spans s).room ≤ bump

-- two parts that share no row
abbrev pub Apart : Span → Span → Type 0
Apart a b = (a.first + a.room ≤ b.first) ⊎ (b.first + b.room ≤ a.first)

-- the parts of the slots ss share no row, and stand below bump
pub record Parts (spans : List Span) (rows : List (List ℕ)) (bump : ℕ) (ss : List ℕ) : Type 0 where
  pub slots : length spans ≡ 256
  pub arena : length rows ≡ capacity
  pub top : bump ≤ capacity
  pub part : (s : ℕ) → In s ss → Part spans bump s
  pub apart : (s t : ℕ) → In s ss → In t ss → s ≢ t → Apart (span_at spans s) (span_at spans t)
  pub distinct : Distinct ss

-- "At no time may there be more than .. 1024 extents over all files."
pub record Placed (spans : List Span) (rows : List (List ℕ)) (bump : ℕ) (ss : List ℕ) : Type 0 where
  pub parts : Parts spans rows bump ss
  pub few : length (gather spans rows ss) ≤ 1024

-- the rows of a slot are extents in order, of the file with its path
pub record Owned (path : ℕ → ℕ) (spans : List Span) (rows : List (List ℕ)) (ss : List ℕ) : Type 0 where
  pub own : (s : ℕ) → In s ss → Within (spot (path s) 0) (spot (path s + 1) 0) (rows_of spans rows s)

-- the slots have the same rows as before
pub record Kept (spans : List Span) (rows : List (List ℕ)) (spans' : List Span) (rows' : List (List ℕ)) (ss : List ℕ) : Type 0 where
  pub same : (s : ℕ) → In s ss → rows_of spans' rows' s ≡ rows_of spans rows s

-- ---- what the functions ask, and what they leave

-- xs with ys from a place on
abbrev pub put : {A : Type 0} → List A → ℕ → List A → List A
put xs at ys = take at xs ++ (ys ++ drop (at + length ys) xs)

-- a run can be laid over the rows of slot s: there is room for two more
pub record Open (spans : List Span) (rows : List (List ℕ)) (s : ℕ) (v : List ℕ) : Type 0 where
  pub slot : s < length spans
  pub room : (span_at spans s).many + 2 ≤ (span_at spans s).room
  pub arena : (span_at spans s).first + (span_at spans s).room ≤ length rows
  pub within : Within 0 (2 ^ 64) (rows_of spans rows s)
  pub run : Sound v

abbrev pub laid_over : List Span → List (List ℕ) → ℕ → List ℕ → List Extent
laid_over spans rows s v = lay (extent_of v) (runs_of spans rows s)

abbrev pub spans_laid : List Span → List (List ℕ) → ℕ → List ℕ → List Span
spans_laid spans rows s v = set spans s (with (span_at spans s) (length (laid_over spans rows s v)))

abbrev pub rows_laid : List Span → List (List ℕ) → ℕ → List ℕ → List (List ℕ)
rows_laid spans rows s v = put rows (span_at spans s).first (map row_of (laid_over spans rows s v))

-- the rows of the slots ss stand in the arena
abbrev pub Stand : List Span → List (List ℕ) → List ℕ → Type 0
Stand spans rows ss = (s : ℕ) → In s ss → (s < length spans) × ((span_at spans s).first + (span_at spans s).many ≤ length rows)

-- the room that a part gets when it is moved: as much again, and a few
abbrev pub wanted : Span → ℕ
wanted span = 2 * span.many + 8

abbrev pub moved_to : ℕ → Span → Span
moved_to bump span = record { first = bump; many = span.many; room = wanted span }

-- the rows of slot s can be moved to bump
pub record Movable (spans : List Span) (rows : List (List ℕ)) (bump s : ℕ) : Type 0 where
  pub slot : s < length spans
  pub stands : (span_at spans s).first + (span_at spans s).many ≤ length rows
  pub fits : bump + wanted (span_at spans s) ≤ length rows
  pub arena : length rows ≤ capacity

-- the spans of parts with no rows free, one after another from a place on
abbrev pub closed : List Span → List Span → List ℕ → ℕ → List Span
closed old spans [] at = spans
closed old spans (s ∷ ss) at = closed old (set spans s (full at (span_at old s).many)) ss (at + (span_at old s).many)

-- slot s has room for two rows more, and no slot's rows have changed
pub record Roomed (spans : List Span) (rows : List (List ℕ)) (spans' : List Span) (rows' : List (List ℕ)) (bump : ℕ) (ss : List ℕ) (s : ℕ) : Type 0 where
  pub placed : Placed spans' rows' bump ss
  pub kept : Kept spans rows spans' rows' ss
  pub room : (span_at spans' s).many + 2 ≤ (span_at spans' s).room
