-- The last of the rows is cut.
use native.Mathlib.Omega.{arith}
use Rattle.extent.proofs.Parts.{row_sound, row_low, cut_last, cut_none}
use Rattle.extent.proofs.cut.Goals as goal

pub front_of-requires : goal.front_of-requires
front_of-requires c = (row_sound c.args.rows.now c.args.p c.args.s c.requires (omega arith), omega (arith, row_low c.args.rows.now c.args.p c.args.s c.requires (omega arith)))

pub returns-then-p-gt0 : goal.returns-then-p-gt0
returns-then-p-gt0 c = rw c.front_of.ensures (cut_last c.args.rows.now c.args.p c.args.s c.requires (omega arith))

pub returns-else-p-gt0 : goal.returns-else-p-gt0
returns-else-p-gt0 c = cut_none c.args.rows.now c.args.p c.args.s (omega arith)
