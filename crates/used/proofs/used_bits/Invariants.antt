-- The masks of the blocks below i are in, and 0 stands past them.
use Rattle.std.proofs.Common.{◌≡◌, map, length}
use Rattle.meaning.specs.Flash.{labels_of}
use Rattle.extent.specs.Rows.{extent_of}
use Rattle.used.specs.Needed.{over}
use Rattle.used.specs.Bits.{listed, padded, used_bits}
use Rattle.used.proofs.used_bits.Given as goal

abbrev pub invariant-loop-i : goal.invariant-loop-i
invariant-loop-i l = l.masks ≡ padded 1024 (listed l.i (used_bits (over (length l.flash.tags.now) l.flash.geometry) (labels_of l.flash.tags.now l.flash.paths.now) (map extent_of l.xs)))
