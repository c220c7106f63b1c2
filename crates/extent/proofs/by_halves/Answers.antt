use native.Mathlib.Omega.{arith}
use Rattle.extent.proofs.Halves.{search_begin, search_high, search_low, search_end}
use Rattle.extent.proofs.by_halves.Goals as goal

pub loop-left-init : goal.loop-left-init
loop-left-init c = search_begin c.args.rows.now c.args.n c.args.key

pub loop-left-preserved-then-start_of-key : goal.loop-left-preserved-then-start_of-key
loop-left-preserved-then-start_of-key c = search_high _ _ _ c.loop-left.lo c.loop-left.left c.loop-left.invariant c.loop-left-test.true (omega (arith, c.start_of.ensures, c.if-start_of-key.true))

pub loop-left-preserved : goal.loop-left-preserved
loop-left-preserved c = search_low _ _ _ c.loop-left.lo c.loop-left.left c.loop-left.invariant c.loop-left-test.true (omega (arith, c.start_of.ensures, c.if-start_of-key.false))

pub returns : goal.returns
returns c = search_end _ _ _ _ _ c.loop-left.invariant c.loop-left-test.false
