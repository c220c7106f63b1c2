use Rattle.extent.proofs.Halves.{Search}
use Rattle.extent.proofs.by_halves.Given as goal

abbrev pub invariant-loop-left : goal.invariant-loop-left
invariant-loop-left l = Search l.rows l.n l.key l.lo l.left

abbrev pub decreases-loop-left : goal.decreases-loop-left
decreases-loop-left l = l.left
