use Rattle.tree.proofs.Laws.{NoneBefore}
use Rattle.tree.proofs.is_empty.Given as goal

abbrev pub invariant-loop-s : goal.invariant-loop-s
invariant-loop-s l = NoneBefore l.t l.p l.s-index
