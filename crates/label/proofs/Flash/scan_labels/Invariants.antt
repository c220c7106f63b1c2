use Rattle.meaning.specs.Flash.{labels_of}
use Rattle.label.specs.Search.{labelled}
use Rattle.label.proofs.Scanned.{Clear}
use Rattle.label.proofs.Flash.scan_labels.Given as goal

abbrev pub invariant-loop-i : goal.invariant-loop-i
invariant-loop-i l = Clear (labelled (labels_of l.self.tags.now l.self.paths.now) l.t l.path) l.i
