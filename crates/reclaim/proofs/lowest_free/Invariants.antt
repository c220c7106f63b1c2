use Rattle.meaning.specs.Services.{is_free}
use Rattle.label.specs.Lent.{labels}
use Rattle.label.proofs.Scanned.{Clear}
use Rattle.reclaim.proofs.lowest_free.Given as goal

abbrev pub invariant-loop-i : goal.invariant-loop-i
invariant-loop-i l = Clear (is_free (labels l.flash)) l.i
