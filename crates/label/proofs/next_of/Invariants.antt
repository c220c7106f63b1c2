-- The invariant: no path from `from` up to i is of r.
use Rattle.label.proofs.Passed.{Other}
use Rattle.label.proofs.next_of.Given as goal

abbrev pub invariant-loop-i : goal.invariant-loop-i
invariant-loop-i l = Other l.paths l.r l.from l.i
