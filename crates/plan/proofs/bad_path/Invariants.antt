use Rattle.meaning.specs.Flash.{bad_path, labels_of}
use Rattle.label.proofs.Scanned.{Clear}
use Rattle.plan.proofs.bad_path.Given as goal

abbrev pub invariant-loop-i : goal.invariant-loop-i
invariant-loop-i l = Clear (λ k. bad_path ((labels_of l.flash.tags.now l.flash.paths.now).tag k) ((labels_of l.flash.tags.now l.flash.paths.now).path k)) l.i
