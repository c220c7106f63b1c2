use Rattle.meaning.specs.Flash.{bad_tag, labels_of}
use Rattle.label.proofs.Scanned.{Clear}
use Rattle.plan.proofs.bad_tag.Given as goal

abbrev pub invariant-loop-i : goal.invariant-loop-i
invariant-loop-i l = Clear (λ k. bad_tag ((labels_of l.flash.tags.now l.flash.paths.now).tag k)) l.i
