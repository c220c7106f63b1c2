use native.Mathlib.Omega.{arith}
use Rattle.read.proofs.Runs.{ran_none, ran_more, ran_full, part_long, in_block_few, in_block_room, in_block_some}
use Rattle.read.proofs.copy_run.Goals as goal

pub loop-i-init : goal.loop-i-init
loop-i-init c = ran_none _ _ _

pub overflow_add-here : goal.overflow_add-here
overflow_add-here c = record { fits = omega (arith, c.requires.1, c.loop-i.invariant.few) }

pub overflow_add-end : goal.overflow_add-end
overflow_add-end c = record { fits = omega (arith, in_block_few _ _ _ c.in_block.ensures) }

pub slice_bounds-copy_piece-count : goal.slice_bounds-copy_piece-count
slice_bounds-copy_piece-count c = omega arith

pub slice_bounds-copy_piece-end : goal.slice_bounds-copy_piece-end
slice_bounds-copy_piece-end c = omega (arith, in_block_few _ _ _ c.in_block.ensures, c.loop-i.invariant.long, c.loop-i.invariant.few)

pub copy_piece-requires : goal.copy_piece-requires
copy_piece-requires c = let long = part_long c.loop-i.i c.in_block.result c.loop-i.part (omega (arith, in_block_few _ _ _ c.in_block.ensures, c.loop-i.invariant.long, c.loop-i.invariant.few)) in
    (c.requires.0, omega (arith, long, in_block_room _ _ _ c.in_block.ensures))

pub loop-i-smaller : goal.loop-i-smaller
loop-i-smaller c = omega (arith, in_block_few _ _ _ c.in_block.ensures, in_block_some _ _ _ c.in_block.ensures _ c.requires.0.fit (omega arith))

pub loop-i-preserved : goal.loop-i-preserved
loop-i-preserved c = ran_more _ _ _ _ c.loop-i.i c.loop-i.invariant _ (omega (arith, in_block_few _ _ _ c.in_block.ensures)) c.copy_piece.ensures

pub returns : goal.returns
returns c = ran_full _ _ _ _ _ c.loop-i.invariant c.loop-i-test.false
