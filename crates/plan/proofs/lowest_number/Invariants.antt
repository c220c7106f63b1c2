use lib.ListN.{length}
use Rattle.meaning.specs.Flash.{labels_of}
use Rattle.meaning.specs.Labels.{view}
use Rattle.meaning.specs.declared.Tag.TheVariants as means
use Rattle.plan.proofs.Lowest.{Lowered}
use Rattle.plan.proofs.lowest_number.Given as goal

abbrev pub invariant-loop-i : goal.invariant-loop-i
invariant-loop-i l = Lowered (length l.flash.tags.now) (view (length l.flash.tags.now) (labels_of l.flash.tags.now l.flash.paths.now) means.Log) l.g.0 l.i l.best
