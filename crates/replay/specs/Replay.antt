-- What replay keeps, and what it answers.
use Rattle.std.specs.Prelude.{ℕ, ◌≡◌, List, length, Result, Ok, Err}
use Rattle.meaning.specs.Answer.{Answer, answer_by}
use Rattle.meaning.specs.declared.Refusal.{Refusal}
use Rattle.meaning.specs.Replay as meaning
use Rattle.tree.specs.declared.Tree.{Tree}
use Rattle.tree.specs.Tree.{record_at, live, files, Kept}
use Rattle.runs.specs.declared.Span.{Span}
use Rattle.runs.specs.Runs.{gather, Placed, Owned}
use Rattle.change.specs.declared.room.Room.{Room}
use Rattle.replay.specs.declared.Replayed.{Replayed}

-- the path of the record in a slot
abbrev pub path_at : Tree → ℕ → ℕ
path_at t s = (record_at t s).path

-- the tree of document 01 that is held: its records by ascending path, its extents by path and offset
abbrev pub shape : Tree → List Span → List (List ℕ) → ℕ → ℕ → meaning.Tree
shape t spans rows applied ignored = record { records = files t; extents = gather spans rows (live t); applied = applied; ignored = ignored }

pub record Held (t : Tree) (spans : List Span) (rows : List (List ℕ)) (room : Room) : Type 0 where
  pub kept : Kept t
  pub placed : Placed spans rows room.bump (live t)
  pub owned : Owned (path_at t) spans rows (live t)
  pub used : room.used ≡ length (gather spans rows (live t))

-- ---- the answer

abbrev pub answer_of : Result Replayed Refusal → List Span → List (List ℕ) → Answer meaning.Tree
answer_of r spans rows = answer_by (λ (x : Replayed). shape x.tree spans rows x.applied x.ignored) r

-- a whole replay's tree stands in order
abbrev pub WholeHeld : Result Replayed Refusal → List Span → List (List ℕ) → Type 0
WholeHeld (Ok x) spans rows = Held x.tree spans rows x.room
WholeHeld (Err r) spans rows = Unit {0}
