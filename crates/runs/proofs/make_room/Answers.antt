-- Room is there, or at bump, or at bump once all parts are packed.
use native.Mathlib.Omega.{arith}
use lib.ListN.{take}
use Rattle.runs.proofs.Moves.{stand_of, roomed_already, movable, moved_roomed, few_rows, packed_movable, packed_roomed}
use Rattle.runs.proofs.make_room.Goals as goal

pub offset_bounds-spans-s : goal.offset_bounds-spans-s
offset_bounds-spans-s c = omega (arith, (c.requires.2.parts.part c.args.s c.requires.3).slot)

pub slice_copy_out-p : goal.slice_copy_out-p
slice_copy_out-p c = omega (arith, (c.requires.2.parts.part c.args.s c.requires.3).slot, c.requires.2.parts.slots)

pub returns-then-many-p : goal.returns-then-many-p
returns-then-many-p c = let ss = take c.args.n c.args.slots.now in
    roomed_already c.args.spans.now c.args.rows.now c.args.bump ss c.args.s c.requires.2 (omega arith)

pub move_part-requires : goal.move_part-requires
move_part-requires c = let ss = take c.args.n c.args.slots.now in
    movable c.args.spans.now c.args.rows.now c.args.bump ss c.args.s c.requires.2 c.requires.3 (omega arith)

pub returns-then-bump-many-lt4097 : goal.returns-then-bump-many-lt4097
returns-then-bump-many-lt4097 c = let ss = take c.args.n c.args.slots.now in
    moved_roomed c.args.spans.now c.args.rows.now c.args.bump ss c.args.s c.requires.2 c.requires.3 (omega arith) _ _ _ c.move_part.ensures

pub pack-b-requires : goal.pack-b-requires
pack-b-requires c = let ss = take c.args.n c.args.slots.now in (
  c.requires.0,
  c.requires.2.parts.distinct,
  stand_of c.args.spans.now c.args.rows.now c.args.bump ss c.requires.2.parts,
  few_rows c.args.spans.now c.args.rows.now c.args.bump ss c.requires.2,
  c.requires.1,
  omega (arith, c.requires.2.parts.arena),
)

pub move_part-requires-2 : goal.move_part-requires-2
move_part-requires-2 c = let ss = take c.args.n c.args.slots.now in
    packed_movable c.args.spans.now c.args.rows.now c.args.bump ss c.requires.2 c.args.s c.requires.3 _ _ _ c.pack-b.ensures

pub returns : goal.returns
returns c = let ss = take c.args.n c.args.slots.now in
    packed_roomed c.args.spans.now c.args.rows.now c.args.bump ss c.requires.2 c.args.s c.requires.3 _ _ _ c.pack-b.ensures _ _ _ c.move_part-2.ensures
