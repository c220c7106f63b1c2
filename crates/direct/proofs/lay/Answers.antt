use native.Mathlib.Omega.{arith}
use Rattle.direct.proofs.Lays.{laid_some, laid_none}
use Rattle.direct.proofs.lay.Goals as goal

pub returns-then-from-to : goal.returns-then-from-to
returns-then-from-to c = laid_some _ _ _ c.start_of-s.ensures c.max-from.ensures (omega arith) _ _ c.args.buffer.now c.if-from-to.true c.put.ensures

pub returns-else-from-to : goal.returns-else-from-to
returns-else-from-to c = laid_none _ _ _ c.start_of-s.ensures c.max-from.ensures (omega arith) _ _ _ c.if-from-to.false
