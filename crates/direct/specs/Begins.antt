-- Where the runs of extents begin in the contents.
use Rattle.std.specs.Prelude.{ℕ, ◌+◌, ◌%◌, Bool, List, ◌++◌, map, length, drop, Option as std_Option, Some, None, Ok, Err}
use Rattle.std.proofs.Math.Option.{Option, none, some}
use Rattle.base.specs.Choice.{if_true, if_less, is_some, on_some, or_zero}
use Rattle.base.specs.Scan.{all_of}
use Rattle.meaning.specs.declared.Extent.{Extent}
use Rattle.meaning.specs.declared.Geometry.{Geometry}
use Rattle.meaning.specs.declared.Refusal.TheVariants as refused
use Rattle.meaning.specs.Answer.{Answer, ok, no}
use Rattle.meaning.specs.Flash.{Labels, Lent, begins, block_size, labels_of}
use Rattle.plan.specs.Select.{selected}
use Rattle.extent.specs.Rows.{extent_of}
use Rattle.read.specs.Pieces.{bare, place_at}

-- the place of an extent's first byte, where its block is there; none for "a run that leaves its block"
unfoldable pub begin_of : Geometry → Labels → Extent → Option ℕ
begin_of g m e =
    on_some (place_at g m e.address) none (λ b.
    if_less (block_size g) (bare e.address % block_size g + e.count) none
    (some (begins g b + bare e.address % block_size g)))

-- as the code answers it
unfoldable pub begin : Option ℕ → std_Option ℕ
begin none = None
begin (some i) = Some i

-- a row's run stands whole in a block that is there
unfoldable pub stands : Geometry → Labels → List ℕ → Bool
stands g m r = is_some (begin_of g m (extent_of r))

unfoldable pub place_of : Geometry → Labels → List ℕ → ℕ
place_of g m r = or_zero (begin_of g m (extent_of r))

unfoldable pub begins_of : Geometry → Labels → List (List ℕ) → List ℕ
begins_of g m rows = map (place_of g m) rows

-- GEOMETRY, "a size, count or slice length is wrong": also where there are fewer places than rows, or a row does not stand whole
unfoldable pub begun : Geometry → Lent → List (List ℕ) → ℕ → Answer (List ℕ)
begun g l rows room =
    if_less room (length rows) (no refused.Geometry)
    (elim (selected g l) [
      | Err r ↦ no r
      | Ok p ↦ if_true (all_of (stands g (labels_of l.tags l.paths)) rows) (ok (begins_of g (labels_of l.tags l.paths) rows)) (no refused.Geometry)
    ])

-- what the places hold then: past the last row as they were
unfoldable pub places_after : Geometry → Lent → List (List ℕ) → List ℕ → List ℕ
places_after g l rows places = elim (begun g l rows (length places)) [ no r ↦ places | ok bs ↦ bs ++ drop (length rows) places ]
