use Rattle.std.proofs.Common.{arith}
use Rattle.used.proofs.Touch.{flags_start, flags_more, flags_done}
use Rattle.used.proofs.flags_of.Goals as goal

pub loop-row-init : goal.loop-row-init
loop-row-init c = flags_start _ _ _ c.requires

pub loop-row-preserved : goal.loop-row-preserved
loop-row-preserved c = flags_more _ _ _ c.loop-row.row-index c.loop-row.invariant c.requires (omega arith) c.touched.ensures c.mark.ensures

pub returns : goal.returns
returns c = flags_done _ _ _ _ c.loop-row.invariant (omega arith)
