use lib.ListN.{length}
use Rattle.base.specs.Choice.{test}
use Rattle.meaning.specs.Flash.{labels_of}
use Rattle.meaning.specs.Labels.{gap, view}
use Rattle.meaning.specs.declared.Tag.TheVariants as means
use Rattle.label.proofs.Scanned.{Clear}
use Rattle.plan.proofs.boot_gap.Given as goal

abbrev pub invariant-loop-i : goal.invariant-loop-i
invariant-loop-i l = Clear (λ k. test (gap (length l.flash.tags.now) (view (length l.flash.tags.now) (labels_of l.flash.tags.now l.flash.paths.now) means.Boot)) (view (length l.flash.tags.now) (labels_of l.flash.tags.now l.flash.paths.now) means.Boot k)) l.i
