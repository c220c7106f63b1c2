use lib.ListN.{length}
use Rattle.meaning.specs.Flash.{labels_of}
use Rattle.meaning.specs.Labels.{view}
use Rattle.meaning.specs.Labels.{of_generation}
use Rattle.meaning.specs.declared.Tag.TheVariants as means
use Rattle.label.proofs.Scanned.{Clear}
use Rattle.plan.proofs.has_generation.Given as goal

abbrev pub invariant-loop-i : goal.invariant-loop-i
invariant-loop-i l = Clear (λ k. of_generation l.g.0 (view (length l.flash.tags.now) (labels_of l.flash.tags.now l.flash.paths.now) means.Log k)) l.i
