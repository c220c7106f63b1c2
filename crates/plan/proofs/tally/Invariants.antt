-- The invariant: the paths before k are counted.
use Rattle.plan.specs.Ask.{Tallied}
use Rattle.plan.proofs.tally.Given as goal

abbrev pub invariant-loop-path : goal.invariant-loop-path
invariant-loop-path l = Tallied l.paths l.path-index l.counts
