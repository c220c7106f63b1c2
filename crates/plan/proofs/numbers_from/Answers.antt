use mathlib.Core.Path.{◌≡◌}
use native.Mathlib.Omega.{arith}
use lib.ListN.{length}
use Rattle.plan.proofs.Numbers.{numbers_none, numbers_more}
use Rattle.plan.proofs.numbers_from.Goals as goal

pub loop-i-init : goal.loop-i-init
loop-i-init c = (omega arith, numbers_none _ _ _)

pub bounds-numbers-above : goal.bounds-numbers-above
bounds-numbers-above c = omega (arith, c.loop-i.invariant.1.long, c.number_from-above.ensures.0)

pub loop-i-preserved : goal.loop-i-preserved
loop-i-preserved c = (omega arith, numbers_more _ _ _ c.loop-i.i c.number_from-above.result c.loop-i.numbers c.loop-i.invariant.1 c.number_from-above.ensures)

pub returns : goal.returns
returns c = let e : c.loop-i.i ≡ length c.args.flash.now.tags.now = omega arith in rw e at c.loop-i.invariant.1
