use mathlib.Core.Path.{refl, ◌∙◌}
use native.Mathlib.Omega.{arith}
use Rattle.replay.proofs.Turns.{start_held, start_bare, going_first, nowhere_so, sums_low, heard, ends_so, stops_so, as_long}
use Rattle.replay.proofs.Moves.{removed_is, may_find, at_slot, less_kept, free_slot, at_ignored, at_run, at_written, at_full, at_clear, at_truncated, at_restated, at_removed, at_stamped, at_kept, may_empty, may_plain, gap_ignored, gap_orphan, gap_plain, gap_full, gap_opened}
use Rattle.replay.proofs.replay.Goals as goal
use Rattle.replay.proofs.replay.Goals.{else-is_dir-via-then-is_dir+else-not-is_empty, else-is_dir-via-else-is_dir}

pub returns-in_default : goal.returns-in_default
returns-in_default c = record { rows_after = nowhere_so _ _ _ c.bare-t.result _ c.args.rows.now c.first.ensures.ahead c.in_default.is (start_bare c.bare-t.result c.bare-t.ensures.0 c.bare-t.ensures.1 c.args.spans.now c.args.rows.now c.requires.1 c.requires.2 c.fresh.ensures); whole_held = start_held c.bare-t.result c.bare-t.ensures.0 c.bare-t.ensures.1 c.args.spans.now c.args.rows.now c.requires.1 c.requires.2 c.fresh.ensures }

pub loop-t-init : goal.loop-t-init
loop-t-init c = (
  going_first _ _ _ c.first.ensures.ahead c.in-Some.is (start_held c.bare-t.result c.bare-t.ensures.0 c.bare-t.ensures.1 c.args.spans.now c.args.rows.now c.requires.1 c.requires.2 c.fresh.ensures) (start_bare c.bare-t.result c.bare-t.ensures.0 c.bare-t.ensures.1 c.args.spans.now c.args.rows.now c.requires.1 c.requires.2 c.fresh.ensures),
  refl,
  c.requires.3,
)

pub returns-in-End : goal.returns-in-End
returns-in-End c = record { rows_after = ends_so c.loop-t.invariant.0 c.next.ensures.ahead c.in-End.is; whole_held = c.loop-t.invariant.0.held }

pub returns-in-Refused : goal.returns-in-Refused
returns-in-Refused c = record { rows_after = stops_so c.loop-t.invariant.0 c.next.ensures.ahead c.in-Refused.is; whole_held = tt }

pub find-requires : goal.find-requires
find-requires c = may_find c.loop-t.invariant.0.held.kept

pub overflow_cast-near : goal.overflow_cast-near
overflow_cast-near c = omega (arith, at_slot c.loop-t.invariant.0.held.kept _ c.find.ensures c.in-Ok.is)

pub bounds-place-s : goal.bounds-place-s
bounds-place-s c = at_slot c.loop-t.invariant.0.held.kept _ c.find.ensures c.in-Ok.is

pub bounds-t-s : goal.bounds-t-s
bounds-t-s c = at_slot c.loop-t.invariant.0.held.kept _ c.find.ensures c.in-Ok.is

pub overflow_add-ignored : goal.overflow_add-ignored
overflow_add-ignored c = omega (arith, (sums_low _ _ _ c.requires.0 _ _ _ c.loop-t.invariant.0.counts).1)

pub loop-t-preserved-in-Ignored : goal.loop-t-preserved-in-Ignored
loop-t-preserved-in-Ignored c = let y = heard c.loop-t.invariant.0 c.next.ensures.ahead c.in-Told.is in
    (at_ignored c.loop-t.invariant.0 y c.find.ensures c.in-Ok.is c.path_of-path.ensures c.edit_of.ensures c.in-Ignored.is (omega arith), c.loop-t.invariant.1, c.loop-t.invariant.2)

pub lay_run-room-requires : goal.lay_run-room-requires
lay_run-room-requires c = let y = heard c.loop-t.invariant.0 c.next.ensures.ahead c.in-Told.is in
    let z = at_run c.loop-t.invariant.0 y c.find.ensures c.in-Ok.is c.path_of-path.ensures c.edit_of.ensures c.in-Written.is in (z.0, c.loop-t.invariant.2, z.1, z.2, z.3)

pub returns-then-room-gt1024 : goal.returns-then-room-gt1024
returns-then-room-gt1024 c = let y = heard c.loop-t.invariant.0 c.next.ensures.ahead c.in-Told.is in
    record { rows_after = at_full c.loop-t.invariant.0 y c.find.ensures c.in-Ok.is c.path_of-path.ensures c.edit_of.ensures c.in-Written.is c.lay_run-room.ensures (omega (arith, c.if-room-gt1024.true)); whole_held = tt }

pub bounds-t-s-in-Written : goal.bounds-t-s-in-Written
bounds-t-s-in-Written c = at_slot c.loop-t.invariant.0.held.kept _ c.find.ensures c.in-Ok.is

pub overflow_add-applied : goal.overflow_add-applied
overflow_add-applied c = omega (arith, (sums_low _ _ _ c.requires.0 _ _ _ c.loop-t.invariant.0.counts).0)

pub loop-t-preserved-in-Written : goal.loop-t-preserved-in-Written
loop-t-preserved-in-Written c = let y = heard c.loop-t.invariant.0 c.next.ensures.ahead c.in-Told.is in (
  at_written c.loop-t.invariant.0 y c.find.ensures c.in-Ok.is c.path_of-path.ensures c.edit_of.ensures c.in-Written.is c.lay_run-room.ensures (omega arith) (omega arith),
  c.lay_run-room.auto.scratch ∙ c.loop-t.invariant.1,
  as_long c.lay_run-room.auto.scratch c.loop-t.invariant.2,
)

pub clear-room-requires : goal.clear-room-requires
clear-room-requires c = let y = heard c.loop-t.invariant.0 c.next.ensures.ahead c.in-Told.is in
    at_clear c.loop-t.invariant.0 y c.find.ensures c.in-Ok.is c.path_of-path.ensures

pub bounds-t-s-in-Truncated : goal.bounds-t-s-in-Truncated
bounds-t-s-in-Truncated c = at_slot c.loop-t.invariant.0.held.kept _ c.find.ensures c.in-Ok.is

pub overflow_add-applied-in-Truncated : goal.overflow_add-applied-in-Truncated
overflow_add-applied-in-Truncated c = omega (arith, (sums_low _ _ _ c.requires.0 _ _ _ c.loop-t.invariant.0.counts).0)

pub loop-t-preserved-in-Truncated : goal.loop-t-preserved-in-Truncated
loop-t-preserved-in-Truncated c = let y = heard c.loop-t.invariant.0 c.next.ensures.ahead c.in-Told.is in
    (at_truncated c.loop-t.invariant.0 y c.find.ensures c.in-Ok.is c.path_of-path.ensures c.clear-room.ensures c.edit_of.ensures c.in-Truncated.is (omega arith), c.loop-t.invariant.1, c.loop-t.invariant.2)

pub bounds-t-s-in-Restated : goal.bounds-t-s-in-Restated
bounds-t-s-in-Restated c = at_slot c.loop-t.invariant.0.held.kept _ c.find.ensures c.in-Ok.is

pub overflow_add-applied-in-Restated : goal.overflow_add-applied-in-Restated
overflow_add-applied-in-Restated c = omega (arith, (sums_low _ _ _ c.requires.0 _ _ _ c.loop-t.invariant.0.counts).0)

pub loop-t-preserved-in-Restated : goal.loop-t-preserved-in-Restated
loop-t-preserved-in-Restated c = let y = heard c.loop-t.invariant.0 c.next.ensures.ahead c.in-Told.is in
    (at_restated c.loop-t.invariant.0 y c.find.ensures c.in-Ok.is c.path_of-path.ensures c.edit_of.ensures c.in-Restated.is (omega arith), c.loop-t.invariant.1, c.loop-t.invariant.2)

pub overflow_add-ignored-then-not-is_empty : goal.overflow_add-ignored-then-not-is_empty
overflow_add-ignored-then-not-is_empty c = omega (arith, (sums_low _ _ _ c.requires.0 _ _ _ c.loop-t.invariant.0.counts).1)

pub loop-t-preserved-then-not-is_empty : goal.loop-t-preserved-then-not-is_empty
loop-t-preserved-then-not-is_empty c = let y = heard c.loop-t.invariant.0 c.next.ensures.ahead c.in-Told.is in (
  at_kept c.loop-t.invariant.0 y c.find.ensures c.in-Ok.is c.path_of-path.ensures c.edit_of.ensures c.in-Removed.is c.is_dir.ensures c.if-is_dir.true c.is_empty.ensures c.if-not-is_empty.true
      (omega arith),
  c.loop-t.invariant.1,
  c.loop-t.invariant.2,
)

pub clear-room-requires-in-Removed : goal.clear-room-requires-in-Removed
clear-room-requires-in-Removed c = let y = heard c.loop-t.invariant.0 c.next.ensures.ahead c.in-Told.is in
    at_clear c.loop-t.invariant.0 y c.find.ensures c.in-Ok.is c.path_of-path.ensures

pub overflow_add-applied-in-Removed : goal.overflow_add-applied-in-Removed
overflow_add-applied-in-Removed c = omega (arith, (sums_low _ _ _ c.requires.0 _ _ _ c.loop-t.invariant.0.counts).0)

pub find-requires-in-Removed : goal.find-requires-in-Removed
find-requires-in-Removed c = let h = may_find (less_kept c.loop-t.invariant.0.held.kept _ c.find.ensures c.in-Ok.is (removed_is _ _ c.close_at.ensures c.close_slot.ensures.slots_after)) in record { n_bound = h.0; rising = h.1 }

pub loop-t-preserved-in_default-find : goal.loop-t-preserved-in_default-find
loop-t-preserved-in_default-find c = let y = heard c.loop-t.invariant.0 c.next.ensures.ahead c.in-Told.is in (
  at_removed c.loop-t.invariant.0 y c.find.ensures c.in-Ok.is c.path_of-path.ensures c.clear-room-in-Removed.ensures c.edit_of.ensures c.in-Removed.is (elim c.else-is_dir.branch [ else-is_dir-via-then-is_dir+else-not-is_empty w ↦ may_empty c.loop-t.invariant.0 y c.find.ensures c.in-Ok.is c.path_of-path.ensures w.is_empty.ensures w.if-not-is_empty.false | else-is_dir-via-else-is_dir w ↦ may_plain c.loop-t.invariant.0 y c.find.ensures c.in-Ok.is c.path_of-path.ensures c.is_dir.ensures w.if-is_dir.false ]) (removed_is _ _ c.close_at.ensures c.close_slot.ensures.slots_after) c.find-in-Removed.ensures c.in_default-find.is (omega arith),
  c.loop-t.invariant.1,
  c.loop-t.invariant.2,
)

pub bounds-t-h : goal.bounds-t-h
bounds-t-h c = at_slot (less_kept c.loop-t.invariant.0.held.kept _ c.find.ensures c.in-Ok.is (removed_is _ _ c.close_at.ensures c.close_slot.ensures.slots_after)) _ c.find-in-Removed.ensures c.in-Ok-find.is

pub bounds-t-h-in-Removed : goal.bounds-t-h-in-Removed
bounds-t-h-in-Removed c = at_slot (less_kept c.loop-t.invariant.0.held.kept _ c.find.ensures c.in-Ok.is (removed_is _ _ c.close_at.ensures c.close_slot.ensures.slots_after)) _ c.find-in-Removed.ensures c.in-Ok-find.is

pub loop-t-preserved-in-Removed : goal.loop-t-preserved-in-Removed
loop-t-preserved-in-Removed c = let y = heard c.loop-t.invariant.0 c.next.ensures.ahead c.in-Told.is in (
  at_stamped c.loop-t.invariant.0 y c.find.ensures c.in-Ok.is c.path_of-path.ensures c.clear-room-in-Removed.ensures c.edit_of.ensures c.in-Removed.is (elim c.else-is_dir.branch [ else-is_dir-via-then-is_dir+else-not-is_empty w ↦ may_empty c.loop-t.invariant.0 y c.find.ensures c.in-Ok.is c.path_of-path.ensures w.is_empty.ensures w.if-not-is_empty.false | else-is_dir-via-else-is_dir w ↦ may_plain c.loop-t.invariant.0 y c.find.ensures c.in-Ok.is c.path_of-path.ensures c.is_dir.ensures w.if-is_dir.false ]) (removed_is _ _ c.close_at.ensures c.close_slot.ensures.slots_after) c.find-in-Removed.ensures c.in-Ok-find.is c.stamped_by.ensures (omega arith),
  c.loop-t.invariant.1,
  c.loop-t.invariant.2,
)

pub overflow_add-ignored-in_default-made_by : goal.overflow_add-ignored-in_default-made_by
overflow_add-ignored-in_default-made_by c = omega (arith, (sums_low _ _ _ c.requires.0 _ _ _ c.loop-t.invariant.0.counts).1)

pub loop-t-preserved-in_default-made_by : goal.loop-t-preserved-in_default-made_by
loop-t-preserved-in_default-made_by c = let y = heard c.loop-t.invariant.0 c.next.ensures.ahead c.in-Told.is in
    (gap_ignored c.loop-t.invariant.0 y c.find.ensures c.in-Err.is c.path_of-path.ensures c.made_by.ensures c.in_default-made_by.is (omega arith), c.loop-t.invariant.1, c.loop-t.invariant.2)

pub find-requires-in-Err : goal.find-requires-in-Err
find-requires-in-Err c = let h = may_find c.loop-t.invariant.0.held.kept in record { n_bound = h.0; rising = h.1 }

pub overflow_add-ignored-in_default-find-2 : goal.overflow_add-ignored-in_default-find-2
overflow_add-ignored-in_default-find-2 c = omega (arith, (sums_low _ _ _ c.requires.0 _ _ _ c.loop-t.invariant.0.counts).1)

pub loop-t-preserved-in_default-find-2 : goal.loop-t-preserved-in_default-find-2
loop-t-preserved-in_default-find-2 c = let y = heard c.loop-t.invariant.0 c.next.ensures.ahead c.in-Told.is in (
  gap_orphan c.loop-t.invariant.0 y c.find.ensures c.in-Err.is c.path_of-path.ensures c.made_by.ensures c.in-Some-made_by.is c.find-in-Err.ensures c.in_default-find-2.is (omega arith),
  c.loop-t.invariant.1,
  c.loop-t.invariant.2,
)

pub bounds-t-h-in-Err : goal.bounds-t-h-in-Err
bounds-t-h-in-Err c = at_slot c.loop-t.invariant.0.held.kept _ c.find-in-Err.ensures c.in-Ok-find-2.is

pub overflow_add-ignored-then-not-is_dir : goal.overflow_add-ignored-then-not-is_dir
overflow_add-ignored-then-not-is_dir c = omega (arith, (sums_low _ _ _ c.requires.0 _ _ _ c.loop-t.invariant.0.counts).1)

pub loop-t-preserved-then-not-is_dir : goal.loop-t-preserved-then-not-is_dir
loop-t-preserved-then-not-is_dir c = let y = heard c.loop-t.invariant.0 c.next.ensures.ahead c.in-Told.is in (
  gap_plain c.loop-t.invariant.0 y c.find.ensures c.in-Err.is c.path_of-path.ensures c.made_by.ensures c.in-Some-made_by.is c.find-in-Err.ensures c.in-Ok-find-2.is c.is_dir-in-Err.ensures c.if-not-is_dir.true
      (omega arith),
  c.loop-t.invariant.1,
  c.loop-t.invariant.2,
)

pub returns-then-n-eq256 : goal.returns-then-n-eq256
returns-then-n-eq256 c = let y = heard c.loop-t.invariant.0 c.next.ensures.ahead c.in-Told.is in record {
  rows_after = gap_full c.loop-t.invariant.0 y c.find.ensures c.in-Err.is c.path_of-path.ensures c.made_by.ensures c.in-Some-made_by.is c.find-in-Err.ensures c.in-Ok-find-2.is c.is_dir-in-Err.ensures c.if-not-is_dir.false (omega
      (arith, c.if-n-eq256.true));
  whole_held = tt;
}

pub overflow_cast-near-in-Err : goal.overflow_cast-near-in-Err
overflow_cast-near-in-Err c = omega (arith, (free_slot c.loop-t.invariant.0.held (omega (arith, c.loop-t.invariant.0.held.kept.few, c.if-n-eq256.false)) c.open_slot-s.ensures.value.0).1)

pub fresh-requires-in-Err : goal.fresh-requires-in-Err
fresh-requires-in-Err c = (free_slot c.loop-t.invariant.0.held (omega (arith, c.loop-t.invariant.0.held.kept.few, c.if-n-eq256.false)) c.open_slot-s.ensures.value.0).0

pub bounds-t-s-in-Err : goal.bounds-t-s-in-Err
bounds-t-s-in-Err c = (free_slot c.loop-t.invariant.0.held (omega (arith, c.loop-t.invariant.0.held.kept.few, c.if-n-eq256.false)) c.open_slot-s.ensures.value.0).1

pub overflow_add-applied-in-Err : goal.overflow_add-applied-in-Err
overflow_add-applied-in-Err c = omega (arith, (sums_low _ _ _ c.requires.0 _ _ _ c.loop-t.invariant.0.counts).0)

pub loop-t-preserved : goal.loop-t-preserved
loop-t-preserved c = let y = heard c.loop-t.invariant.0 c.next.ensures.ahead c.in-Told.is in (
  gap_opened c.loop-t.invariant.0 y c.find.ensures c.in-Err.is c.path_of-path.ensures c.made_by.ensures c.in-Some-made_by.is c.find-in-Err.ensures c.in-Ok-find-2.is c.is_dir-in-Err.ensures c.if-not-is_dir.false
      (omega (arith, c.loop-t.invariant.0.held.kept.few, c.if-n-eq256.false)) c.open_slot-s.ensures.value.0 c.open_at.ensures c.open_slot-s.ensures.value.1 c.fresh-in-Err.ensures (omega arith),
  c.loop-t.invariant.1,
  c.loop-t.invariant.2,
)
