use mathlib.Core.Path.{refl}
use native.Mathlib.Omega.{arith}
use Rattle.runs.proofs.Slots.{slot_in, turn_total, turn_few, turn_closed}
use Rattle.runs.proofs.close_up.Goals as goal

pub bounds-spans-s : goal.bounds-spans-s
bounds-spans-s c = omega (arith, c.requires.2 _ (slot_in c.args.slots.now c.args.n c.requires.0 c.loop-s.s-index _ c.loop-s-test.true refl))

pub bounds-spans-s-in-loop-s : goal.bounds-spans-s-in-loop-s
bounds-spans-s-in-loop-s c = omega (arith, c.requires.2 _ (slot_in c.args.slots.now c.args.n c.requires.0 c.loop-s.s-index _ c.loop-s-test.true refl))

pub overflow_add-at : goal.overflow_add-at
overflow_add-at c = omega (arith, turn_few c.args.slots.now c.args.n c.requires.0 c.loop-s.s-index _ c.loop-s-test.true refl c.args.spans.now c.loop-s.spans c.loop-s.at c.requires.1 c.loop-s.invariant.1 c.loop-s.invariant.0)

pub loop-s-preserved : goal.loop-s-preserved
loop-s-preserved c = (
  turn_total c.args.slots.now c.args.n c.requires.0 c.loop-s.s-index _ c.loop-s-test.true refl c.args.spans.now c.loop-s.spans c.loop-s.at c.requires.1 c.loop-s.invariant.1 c.loop-s.invariant.0,
  turn_closed c.args.slots.now c.args.n c.requires.0 c.loop-s.s-index _ c.loop-s-test.true refl c.args.spans.now c.loop-s.spans c.loop-s.at c.requires.1 c.loop-s.invariant.1 c.loop-s.invariant.0,
)
