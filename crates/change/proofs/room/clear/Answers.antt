use Rattle.change.proofs.Rooms.{slot_there, many_most, cleared_so}
use native.Mathlib.Omega.{arith}
use Rattle.change.proofs.room.clear.Goals as goal

pub many_at-had-requires : goal.many_at-had-requires
many_at-had-requires c = slot_there c.requires.0

pub clear-requires : goal.clear-requires
clear-requires c = slot_there c.requires.0

pub overflow_sub-result : goal.overflow_sub-result
overflow_sub-result c = omega (arith, many_most c.requires.0 c.requires.1 _ c.many_at-had.ensures)

pub returns : goal.returns
returns c = cleared_so c.requires.0 _ _ _ _ c.clear.ensures (omega arith) c.many_at-had.ensures
