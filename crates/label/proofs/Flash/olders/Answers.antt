use native.Mathlib.Omega.{arith}
use Rattle.label.proofs.Noted.{olders_none, olders_more, olders_all}
use Rattle.label.proofs.Flash.olders.Goals as goal

pub loop-i-init : goal.loop-i-init
loop-i-init c = olders_none _ _

pub loop-i-preserved : goal.loop-i-preserved
loop-i-preserved c = olders_more _ _ c.loop-i.i c.loop-i.flags c.loop-i.invariant c.is_older_noted.result (omega arith) c.is_older_noted.ensures

pub returns : goal.returns
returns c = olders_all _ _ c.loop-i.i c.loop-i.flags c.loop-i.invariant (omega arith) (omega arith)
