use native.Mathlib.Omega.{arith}
use Rattle.settle.proofs.Each.{next_done}
use Rattle.reclaim.proofs.do_all.Goals as goal

pub loop-s-preserved : goal.loop-s-preserved
loop-s-preserved c = next_done _ _ _ _ _ (omega arith) c.loop-s.invariant c.do_step.ensures.1
