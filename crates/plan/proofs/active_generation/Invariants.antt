use lib.ListN.{length}
use Rattle.meaning.specs.Flash.{labels_of}
use Rattle.meaning.specs.Labels.{leads, view}
use Rattle.meaning.specs.declared.Tag.TheVariants as means
use Rattle.label.proofs.Scanned.{Clear}
use Rattle.plan.proofs.active_generation.Given as goal

abbrev pub invariant-loop-g : goal.invariant-loop-g
invariant-loop-g l = Clear (leads (length l.flash.tags.now) (view (length l.flash.tags.now) (labels_of l.flash.tags.now l.flash.paths.now) means.Log)) l.g
