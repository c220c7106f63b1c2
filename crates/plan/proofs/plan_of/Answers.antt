use native.Mathlib.Omega.{arith}
use Rattle.plan.proofs.Runs.{plan_is}
use Rattle.plan.proofs.plan_of.Goals as goal

pub returns : goal.returns
returns c = plan_is _ _ c.active_generation-g.ensures.0 c.lowest_number-start.ensures c.successor.ensures c.unbroken-swept.ensures c.unbroken-active.ensures (omega arith)
