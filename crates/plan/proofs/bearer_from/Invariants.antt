use Rattle.meaning.specs.Flash.{labels_of}
use Rattle.plan.specs.Ask.{bearer}
use Rattle.label.proofs.Scanned.{Clear}
use Rattle.plan.proofs.bearer_from.Given as goal

abbrev pub invariant-loop-i : goal.invariant-loop-i
invariant-loop-i l = Clear (bearer (labels_of l.flash.tags.now l.flash.paths.now) l.t l.r l.from) l.i
