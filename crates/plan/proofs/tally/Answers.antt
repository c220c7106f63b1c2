use native.Mathlib.Omega.{arith}
use Rattle.plan.proofs.Shared.{tallied_none, tallied_more}
use Rattle.plan.proofs.tally.Goals as goal

pub loop-path-init : goal.loop-path-init
loop-path-init c = tallied_none _

pub bounds-counts-low : goal.bounds-counts-low
bounds-counts-low c = omega (arith, c.loop-path.invariant.long)

pub loop-path-preserved : goal.loop-path-preserved
loop-path-preserved c = tallied_more _ c.loop-path.counts c.loop-path.path-index c.loop-path.invariant c.low_bits-low.result _ c.low_bits-low.ensures (omega (arith, c.min.ensures))
