-- What is left decides: no extent before this one lacks its block.
use Rattle.std.proofs.Common.{length}
use Rattle.meaning.specs.Flash.{labels_of}
use Rattle.used.specs.Needed.{over, Seen}
use Rattle.used.proofs.Needed.{Passed}
use Rattle.used.proofs.absent.Given as goal

abbrev pub invariant-loop-row : goal.invariant-loop-row
invariant-loop-row l = Passed (over (length l.flash.tags.now) l.flash.geometry) (labels_of l.flash.tags.now l.flash.paths.now) l.xs l.row-index × Seen (length l.flash.tags.now) (labels_of l.flash.tags.now l.flash.paths.now) l.seen
