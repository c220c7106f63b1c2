-- What stands from e on is of the last of the rows.
use native.Mathlib.Omega.{arith}
use Rattle.extent.proofs.Parts.{row_sound, row_low, piece_left, piece_gone, piece_none}
use Rattle.extent.proofs.last_piece.Goals as goal

pub end_of-requires : goal.end_of-requires
end_of-requires c = row_sound c.args.rows.now c.args.q c.args.e c.requires (omega arith)

pub back_of-requires : goal.back_of-requires
back_of-requires c = (row_sound c.args.rows.now c.args.q c.args.e c.requires (omega arith), omega (arith, row_low c.args.rows.now c.args.q c.args.e c.requires (omega arith)), omega arith)

pub returns-then-e-end_of : goal.returns-then-e-end_of
returns-then-e-end_of c = rw c.back_of.ensures (piece_left c.args.rows.now c.args.q c.args.e c.requires (omega arith) (omega arith))

pub returns-else-e-end_of : goal.returns-else-e-end_of
returns-else-e-end_of c = piece_gone c.args.rows.now c.args.q c.args.e c.requires (omega arith) (omega arith)

pub returns-then-q-eq0 : goal.returns-then-q-eq0
returns-then-q-eq0 c = piece_none c.args.rows.now c.args.q c.args.e (omega arith)
