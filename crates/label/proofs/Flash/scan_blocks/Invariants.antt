use lib.ListN.{length}
use Rattle.meaning.specs.Flash.{labels_of}
use Rattle.meaning.specs.Labels.{is, view}
use Rattle.label.proofs.Scanned.{Clear}
use Rattle.label.proofs.Flash.scan_blocks.Given as goal

abbrev pub invariant-loop-i : goal.invariant-loop-i
invariant-loop-i l = Clear (λ k. is (view (length l.self.tags.now) (labels_of l.self.tags.now l.self.paths.now) l.t k) l.r) l.i
