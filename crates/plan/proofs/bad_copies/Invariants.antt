use lib.ListN.{length}
use Rattle.meaning.specs.Flash.{labels_of}
use Rattle.meaning.specs.Labels.{unresolved}
use Rattle.label.proofs.Scanned.{Clear}
use Rattle.plan.proofs.bad_copies.Given as goal

abbrev pub invariant-loop-i : goal.invariant-loop-i
invariant-loop-i l = Clear (unresolved (length l.flash.tags.now) (labels_of l.flash.tags.now l.flash.paths.now)) l.i
