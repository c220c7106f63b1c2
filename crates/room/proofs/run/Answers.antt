-- A dump has at most 32 blocks and 32,768 content bytes.
use mathlib.Core.Path.{sym}
use lib.Seq.{length-take-le}
use Rattle.std.proofs.Common.{arith}
use Rattle.lister.proofs.Whole.{blocks_few, bytes_few}
use Rattle.room.proofs.run.Goals as goal

pub overflow_mul-bytes : goal.overflow_mul-bytes
overflow_mul-bytes g c = record { fits = omega (arith, bytes_few _ _ _ _ _ c.parse.ensures.value c.in-Ok.is c.from-n.ensures c.block_size.ensures) }

pub slice_bounds-tags-end : goal.slice_bounds-tags-end
slice_bounds-tags-end g c = omega (arith, blocks_few _ _ _ _ _ c.parse.ensures.value c.in-Ok.is c.from-n.ensures, c.parse.auto.tags)

pub slice_bounds-paths-end : goal.slice_bounds-paths-end
slice_bounds-paths-end g c = omega (arith, blocks_few _ _ _ _ _ c.parse.ensures.value c.in-Ok.is c.from-n.ensures, c.parse.auto.paths)

pub slice_bounds-contents-end : goal.slice_bounds-contents-end
slice_bounds-contents-end g c = omega (arith, bytes_few _ _ _ _ _ c.parse.ensures.value c.in-Ok.is c.from-n.ensures c.block_size.ensures, c.parse.auto.contents)

pub slice_bounds-make_room-end : goal.slice_bounds-make_room-end
slice_bounds-make_room-end g c = sym (length-take-le _ _ (omega (arith, blocks_few _ _ _ _ _ c.parse.ensures.value c.in-Ok.is c.from-n.ensures, c.parse.auto.tags)))

pub slice_bounds-make_room-end-in-Ok : goal.slice_bounds-make_room-end-in-Ok
slice_bounds-make_room-end-in-Ok g c = sym (length-take-le _ _ (omega (arith, blocks_few _ _ _ _ _ c.parse.ensures.value c.in-Ok.is c.from-n.ensures, c.parse.auto.paths)))

pub slice_bounds-make_room-end-in-Ok-2 : goal.slice_bounds-make_room-end-in-Ok-2
slice_bounds-make_room-end-in-Ok-2 g c = sym (length-take-le _ _ (omega (arith, bytes_few _ _ _ _ _ c.parse.ensures.value c.in-Ok.is c.from-n.ensures c.block_size.ensures, c.parse.auto.contents)))
