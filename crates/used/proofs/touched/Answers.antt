-- Past all addresses, past the block, before it, in the log, or here.
use Rattle.std.proofs.Common.{arith, ap₂, ◌/◌}
use Rattle.used.proofs.Touch.{touched_far, touched_past, touched_before, touched_log, touched_here}
use Rattle.used.proofs.touched.Goals as goal
use Rattle.used.proofs.touched.Goals.{then-begin-block-via-then-begin-block, then-begin-block-via-else-begin-block+then-end-begin, then-begin-block-via-else-begin-block+else-end-begin+then-not-in_data}

pub returns-then-d-ge-NUMBERS : goal.returns-then-d-ge-NUMBERS
returns-then-d-ge-NUMBERS c = touched_far _ _ _ (omega arith) (omega arith) (omega arith)

pub returns-then-begin-block : goal.returns-then-begin-block
returns-then-begin-block c = elim c.then-begin-block.branch [
  | then-begin-block-via-then-begin-block w ↦ touched_past _ _ _ c.block_size-block.ensures c.from-start.ensures c.from.ensures (omega arith)
  | then-begin-block-via-else-begin-block+then-end-begin w ↦ touched_before _ _ _ c.block_size-block.ensures c.from-start.ensures c.from.ensures (omega arith)
  | then-begin-block-via-else-begin-block+else-end-begin+then-not-in_data w ↦ touched_log _ _ _ c.block_size-block.ensures c.from-start.ensures c.from.ensures w.in_data.ensures w.if-not-in_data.true
]

pub returns : goal.returns
returns c = touched_here _ _ _ c.block_size-block.ensures c.from-start.ensures c.from.ensures _ _ _
    c.in_data.ensures c.if-not-in_data.false (omega arith) (omega arith)
    (ap₂ ◌/◌ c.saturating_sub.ensures c.from-size.ensures) (ap₂ ◌/◌ c.saturating_sub-2.ensures c.from-size.ensures)
    (omega arith) (omega arith) (omega arith)
