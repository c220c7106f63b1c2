use mathlib.Core.Path.{◌≡◌}
use mathlib.Core.List.{map}
use lib.ListN.{length, take}
use Rattle.extent.specs.Rows.{extent_of}
use Rattle.answer.proofs.extents_of.Given as goal

abbrev pub invariant-loop-k : goal.invariant-loop-k
invariant-loop-k l = (length l.extents ≡ 1024) × (take l.k l.extents ≡ map extent_of (take l.k l.rows))
