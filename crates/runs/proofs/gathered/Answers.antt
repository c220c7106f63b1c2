use mathlib.Core.Path.{refl}
use native.Mathlib.Omega.{arith}
use Rattle.runs.proofs.Slots.{slot_in, next_few, next_total, turn_rows}
use Rattle.runs.proofs.gathered.Goals as goal

pub bounds-spans-s : goal.bounds-spans-s
bounds-spans-s c = omega (arith, (c.requires.1 _ (slot_in c.args.slots.now c.args.n c.requires.0 c.loop-s.s-index _ c.loop-s-test.true refl)).0)

pub overflow_add-at : goal.overflow_add-at
overflow_add-at c = omega (arith, next_few c.args.slots.now c.args.n c.requires.0 c.loop-s.s-index _ c.loop-s-test.true refl c.args.spans.now)

pub offset_bounds-out-at : goal.offset_bounds-out-at
offset_bounds-out-at c = omega (arith, next_few c.args.slots.now c.args.n c.requires.0 c.loop-s.s-index _ c.loop-s-test.true refl c.args.spans.now)

pub slice_bounds-copy_from_slice-end : goal.slice_bounds-copy_from_slice-end
slice_bounds-copy_from_slice-end c = omega (arith, next_few c.args.slots.now c.args.n c.requires.0 c.loop-s.s-index _ c.loop-s-test.true refl c.args.spans.now)

pub slice_bounds-copy_from_slice-end-in-loop-s : goal.slice_bounds-copy_from_slice-end-in-loop-s
slice_bounds-copy_from_slice-end-in-loop-s c = omega (arith, (c.requires.1 _ (slot_in c.args.slots.now c.args.n c.requires.0 c.loop-s.s-index _ c.loop-s-test.true refl)).1)

pub loop-s-preserved : goal.loop-s-preserved
loop-s-preserved c = (
  omega (arith, next_total c.args.slots.now c.args.n c.requires.0 c.loop-s.s-index _ c.loop-s-test.true refl c.args.spans.now),
  turn_rows c.args.slots.now c.args.n c.requires.0 c.loop-s.s-index _ c.loop-s-test.true refl c.args.spans.now c.args.rows.now c.args.out.now _ _ _ _ _ c.requires.1 c.requires.2 c.loop-s.invariant.0 c.loop-s.invariant.1 (omega arith) (omega arith) c.copy_from_slice.ensures.after,
)
