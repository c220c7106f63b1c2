use native.Mathlib.Omega.{arith}
use mathlib.Core.Path.{sym}
use lib.Seq.{length-take-le}
use Rattle.lister.proofs.Whole.{good_wrote, bad_wrote, blocks_few, bytes_few}
use Rattle.lister.proofs.list.Goals as goal

pub overflow_mul-bytes : goal.overflow_mul-bytes
overflow_mul-bytes c = record { fits = omega (arith, bytes_few _ _ _ _ _ c.parse_from.ensures.value c.in-Ok.is c.from-n.ensures c.block_size.ensures) }

pub slice_bounds-tags-end : goal.slice_bounds-tags-end
slice_bounds-tags-end c = omega (arith, blocks_few _ _ _ _ _ c.parse_from.ensures.value c.in-Ok.is c.from-n.ensures, c.parse_from.auto.tags)

pub slice_bounds-paths-end : goal.slice_bounds-paths-end
slice_bounds-paths-end c = omega (arith, blocks_few _ _ _ _ _ c.parse_from.ensures.value c.in-Ok.is c.from-n.ensures, c.parse_from.auto.paths)

pub slice_bounds-contents-end : goal.slice_bounds-contents-end
slice_bounds-contents-end c = omega (arith, bytes_few _ _ _ _ _ c.parse_from.ensures.value c.in-Ok.is c.from-n.ensures c.block_size.ensures, c.parse_from.auto.contents)

pub slice_bounds-flash-end : goal.slice_bounds-flash-end
slice_bounds-flash-end c = sym (length-take-le _ _ (omega (arith, blocks_few _ _ _ _ _ c.parse_from.ensures.value c.in-Ok.is c.from-n.ensures, c.parse_from.auto.tags)))

pub slice_bounds-flash-end-in-Ok : goal.slice_bounds-flash-end-in-Ok
slice_bounds-flash-end-in-Ok c = sym (length-take-le _ _ (omega (arith, blocks_few _ _ _ _ _ c.parse_from.ensures.value c.in-Ok.is c.from-n.ensures, c.parse_from.auto.paths)))

pub slice_bounds-flash-end-in-Ok-2 : goal.slice_bounds-flash-end-in-Ok-2
slice_bounds-flash-end-in-Ok-2 c = sym (length-take-le _ _ (omega (arith, bytes_few _ _ _ _ _ c.parse_from.ensures.value c.in-Ok.is c.from-n.ensures c.block_size.ensures, c.parse_from.auto.contents)))

pub returns-in-Ok : goal.returns-in-Ok
returns-in-Ok c = good_wrote _ _ _ _ _ c.parse_from.ensures.value c.in-Ok.is c.parse_from.ensures.tags_after
    c.parse_from.ensures.paths_after c.parse_from.ensures.contents_after c.from-n.ensures c.block_size.ensures c.put_listing.ensures

pub returns-in-Err : goal.returns-in-Err
returns-in-Err c = bad_wrote _ _ _ _ _ c.parse_from.ensures.value c.in-Err.is (omega arith) (omega arith) (omega arith)
    c.put_refusal.ensures
