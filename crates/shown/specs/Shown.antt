-- The answer of a mount, as document 01 has it.
use Rattle.std.specs.Prelude.{ℕ, ◌≤◌, ◌≡◌, List, map, length, take, Option, Some, None, Result, Ok, Err, ⊤}
use Rattle.std.proofs.Math.Option as maybe
use Rattle.meaning.specs.declared.Extent.{Extent}
use Rattle.meaning.specs.declared.Geometry.{Geometry}
use Rattle.meaning.specs.Answer.{Answer, answer_by, ok, unless, and_then}
use Rattle.meaning.specs.Flash.{Lent, image_of}
use Rattle.meaning.specs.Log.{log_of, replayed}
use Rattle.meaning.specs.Replay as meaning
use Rattle.meaning.specs.Replay.{replay}
use Rattle.meaning.specs.Mount.{Mounted, absent, erase_list, shown}
use Rattle.extent.specs.Rows.{extent_of, Within}
use Rattle.tree.specs.Tree.{files}
use Rattle.replay.specs.declared.Replayed.{Replayed}
use Rattle.meaning.specs.declared.Address.{Address}
use Rattle.meaning.specs.declared.Refusal.{Refusal}
use Rattle.used.specs.Bits.{listed, used_bits}
use Rattle.used.specs.Erase.{erase_of}
use Rattle.shown.specs.declared.Shown.{Shown}

-- the first n rows as extents
abbrev pub rows_shown : List (List ℕ) → ℕ → List Extent
rows_shown rows n = map extent_of (take n rows)

-- ---- the tree after the log

abbrev pub tree_of : Replayed → List (List ℕ) → meaning.Tree
tree_of r rows = record { records = files r.tree; extents = rows_shown rows r.room.used; applied = r.applied; ignored = r.ignored }

abbrev pub answer : Result Replayed Refusal → List (List ℕ) → Answer meaning.Tree
answer r rows = answer_by (λ (x : Replayed). tree_of x rows) r

-- the rows are extents, sorted and disjoint
abbrev pub Lines : List (List ℕ) → Type 0
Lines rows = (top : ℕ) × Within 0 top rows

-- ---- the answer

-- an address, or none
abbrev pub place_of : Option Address → maybe.Option ℕ
place_of (Some a) = maybe.some a.0
place_of None = maybe.none

abbrev pub mounted : Shown → List (List ℕ) → Mounted
mounted r rows = record {
  tree = record { records = take r.files r.records; extents = rows_shown rows r.extents; applied = r.applied; ignored = r.ignored };
  erase = take r.erase.count r.erase.blocks;
  insert = place_of r.insertion;
}

-- how a mount ended, and what it then shows: nothing beside a refusal
abbrev pub told : Result ⊤ Refusal → Shown → Result Shown Refusal
told (Ok x) s = Ok s
told (Err x) s = Err x

abbrev pub Silent : Shown → Type 0
Silent s = (s.files ≡ 0) × (s.extents ≡ 0) × (s.erase.count ≡ 0) × (s.insertion ≡ None)

abbrev pub showing : Result Shown Refusal → List (List ℕ) → Answer Mounted
showing r rows = answer_by (λ (s : Shown). mounted s rows) r

-- after the labels: refusals 7 to 9, then 10
unfoldable pub later : Geometry → Lent → Answer Mounted
later g l =
    and_then (replay (log_of g (replayed g (image_of g l)))) (λ t.
    unless (absent g (image_of g l).labels t.extents)
    (ok (shown g (image_of g l) t)))

-- the counts are within the arrays, the used pages are those of the extents, 0 stands past the erase list, and the rows are in order
abbrev pub Sizes : Geometry → Lent → Shown → List (List ℕ) → Type 0
Sizes g l s rows =
    (s.files ≤ 256) × (s.extents ≤ 1024) × (s.erase.count ≤ 1024)
    × (s.used ≡ listed 1024 (used_bits g (image_of g l).labels (rows_shown rows s.extents)))
    × (s.erase ≡ erase_of (erase_list g (image_of g l).labels (rows_shown rows s.extents)))
    × Lines (take s.extents rows)
    × (s.files ≤ length s.records)

abbrev pub Sized : Geometry → Lent → Result Shown Refusal → List (List ℕ) → Type 0
Sized g l (Ok s) rows = Sizes g l s rows
Sized g l (Err x) rows = Unit {0}
