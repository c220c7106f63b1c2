use mathlib.Core.Path.{◌∙◌}
use native.Mathlib.Omega.{arith}
use lib.ListN.{length-set}
use Rattle.std.proofs.lemmas.Result.{err_from_is_err_and}
use Rattle.tree.proofs.Laws.{slot_there}
use Rattle.shown.proofs.Order.{order_on, order_end}
use Rattle.shown.proofs.Mounts.{gather_asks, whole_told, whole_answer, later_stopped, later_lacking, later_whole, whole_answered, part_is, part_length, pages_few, tags_few}
use Rattle.shown.proofs.planned.Goals as goal

pub returns-in_err-r-clause-extents_after : goal.returns-in_err-r-clause-extents_after
returns-in_err-r-clause-extents_after c = let p = err_from_is_err_and c.from_residual.result c.from_residual.ensures.1 in rw (p.1, p.2) (later_stopped _ _ c.in_err-r.ensures.rows_after)

pub gathered-requires : goal.gathered-requires
gathered-requires c = gather_asks c.in_ok-r.r c.replay.new.spans c.replay.new.rows c.in_ok-r.ensures.whole_held c.replay.new.scratch (omega (arith, c.replay.auto.scratch, c.requires.1))

pub returns-in-Some-clause-extents_after : goal.returns-in-Some-clause-extents_after
returns-in-Some-clause-extents_after c = let a = whole_answer c.in_ok-r.r c.replay.new.spans c.replay.new.rows c.in_ok-r.ensures.whole_held c.replay.new.scratch c.gathered.ensures c.in_ok-r.ensures.rows_after in
    let p = part_is c.gathered.new.out c.in_ok-r.r.room.used in
    later_lacking _ _ _ c.requires.0 c.in_ok-r.r c.gathered.new.out a p _ c.absent.ensures c.in-Some.is

pub used_bits-shown-requires : goal.used_bits-shown-requires
used_bits-shown-requires c = pages_few _ _ _ c.requires.0

pub erase_list-shown-requires : goal.erase_list-shown-requires
erase_list-shown-requires c = tags_few _ _ _ c.requires.0

pub bounds-t-s : goal.bounds-t-s
bounds-t-s c = slot_there _ c.loop-k.invariant.1 c.loop-k.k (omega arith)

pub loop-k-preserved : goal.loop-k-preserved
loop-k-preserved c = (c.loop-k.invariant.0, c.loop-k.invariant.1, length-set c.loop-k.shown.records c.loop-k.k _ ∙ c.loop-k.invariant.2, order_on _ c.loop-k.invariant.1 c.loop-k.shown.records c.loop-k.k c.loop-k.invariant.3 c.loop-k.invariant.2 (omega arith))

pub returns-clause-extents_after : goal.returns-clause-extents_after
returns-clause-extents_after c = let told = whole_told c.in_ok-r.r c.replay.new.spans c.replay.new.rows c.in_ok-r.ensures.whole_held c.replay.new.scratch c.gathered.ensures in
    let a = whole_answer c.in_ok-r.r c.replay.new.spans c.replay.new.rows c.in_ok-r.ensures.whole_held c.replay.new.scratch c.gathered.ensures c.in_ok-r.ensures.rows_after in
    let p = part_is c.gathered.new.out c.in_ok-r.r.room.used in
    let z = later_whole _ _ _ c.requires.0 c.in_ok-r.r c.gathered.new.out a p _ c.absent.ensures c.in_default.is in
    let n = part_length c.gathered.new.out c.in_ok-r.r.room.used told.1 (omega (arith, c.gathered.auto.out, c.replay.auto.scratch, c.requires.1)) in
    let in_order = order_end c.in_ok-r.r.tree told.0 c.loop-k.shown.records c.loop-k.k c.loop-k.invariant.3 (omega arith) in
    let h = whole_answered _ _ _ c.requires.0 c.in_ok-r.r _ n c.loop-k.shown.records c.used_bits-shown.ensures c.erase_list-shown.ensures c.insertion-shown.ensures in_order c.gathered.new.out p told z _ (omega arith) in h.0

pub returns-clause-sized : goal.returns-clause-sized
returns-clause-sized c = let told = whole_told c.in_ok-r.r c.replay.new.spans c.replay.new.rows c.in_ok-r.ensures.whole_held c.replay.new.scratch c.gathered.ensures in
    let a = whole_answer c.in_ok-r.r c.replay.new.spans c.replay.new.rows c.in_ok-r.ensures.whole_held c.replay.new.scratch c.gathered.ensures c.in_ok-r.ensures.rows_after in
    let p = part_is c.gathered.new.out c.in_ok-r.r.room.used in
    let z = later_whole _ _ _ c.requires.0 c.in_ok-r.r c.gathered.new.out a p _ c.absent.ensures c.in_default.is in
    let n = part_length c.gathered.new.out c.in_ok-r.r.room.used told.1 (omega (arith, c.gathered.auto.out, c.replay.auto.scratch, c.requires.1)) in
    let in_order = order_end c.in_ok-r.r.tree told.0 c.loop-k.shown.records c.loop-k.k c.loop-k.invariant.3 (omega arith) in
    let h = whole_answered _ _ _ c.requires.0 c.in_ok-r.r _ n c.loop-k.shown.records c.used_bits-shown.ensures c.erase_list-shown.ensures c.insertion-shown.ensures in_order c.gathered.new.out p told z _ (omega arith) in h.1
