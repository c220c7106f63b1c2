use Rattle.change.proofs.Rooms.{slot_in, opens_so, sums_so, laid_so}
use native.Mathlib.Omega.{arith}
use Rattle.change.proofs.room.lay_run.Goals as goal

pub make_room-bump-requires : goal.make_room-bump-requires
make_room-bump-requires c = (c.requires.0, c.requires.1, c.requires.2.placed, c.requires.2.one)

pub many_at-had-requires : goal.many_at-had-requires
many_at-had-requires c = slot_in c.requires.2 c.requires.4 c.make_room-bump.ensures

pub lay_at-requires : goal.lay_at-requires
lay_at-requires c = opens_so c.requires.2 c.requires.4 c.make_room-bump.ensures c.requires.3

pub overflow_sub-result : goal.overflow_sub-result
overflow_sub-result c = omega (arith, (sums_so c.requires.2 c.requires.4 c.make_room-bump.ensures c.requires.3 _ _ _ c.lay_at.ensures.0 c.many_at-had.ensures c.many_at-has.ensures).1)

pub returns : goal.returns
returns c = laid_so c.requires.2 c.requires.4 c.make_room-bump.ensures _ _ _ _ _ c.lay_at.ensures.0 c.lay_at.ensures.1 (omega arith) c.many_at-had.ensures c.many_at-has.ensures
