use mathlib.Core.Path.{◌∙◌}
use native.Mathlib.Omega.{arith}
use Rattle.extent.specs.Rows.{extent_of}
use Rattle.read.proofs.Address.{piece_low}
use Rattle.direct.proofs.Begun.{begin_absent, begin_leaves, begin_there, room_is, offset_low}
use Rattle.direct.proofs.begin_of.Goals as goal

pub returns-in_err-b : goal.returns-in_err-b
returns-in_err-b c = c.from_residual.ensures ∙ begin_absent _ _ _ c.place_at.ensures c.in_err-b.was

pub overflow_add-offset : goal.overflow_add-offset
overflow_add-offset c = omega (arith, offset_low _ _ c.requires.fit _ c.offset_at-offset.ensures)

pub returns-then-size-offset : goal.returns-then-size-offset
returns-then-size-offset c = begin_leaves _ _ _ c.place_at.ensures
    c.in_ok-b.was c.block_size-size.ensures c.offset_at-offset.ensures
    c.bare.ensures (omega arith)

pub overflow_mul-result : goal.overflow_mul-result
overflow_mul-result c = let h = piece_low _ _ _ c.requires _ _
    (room_is _ _ (extent_of c.args.row) c.place_at.ensures c.in_ok-b.was c.block_size-size.ensures c.offset_at-offset.ensures c.bare.ensures
    (omega arith)) c.place_at.ensures c.in_ok-b.was c.block_size-size.ensures c.offset_at-offset.ensures c.bare.ensures in
    record { fits = omega (arith, h) }

pub overflow_add-result : goal.overflow_add-result
overflow_add-result c = let h = piece_low _ _ _ c.requires _ _
    (room_is _ _ (extent_of c.args.row) c.place_at.ensures c.in_ok-b.was c.block_size-size.ensures c.offset_at-offset.ensures c.bare.ensures
    (omega arith)) c.place_at.ensures c.in_ok-b.was c.block_size-size.ensures c.offset_at-offset.ensures c.bare.ensures in
    record { fits = omega (arith, h) }

pub overflow_cast-result : goal.overflow_cast-result
overflow_cast-result c = let h = piece_low _ _ _ c.requires _ _
    (room_is _ _ (extent_of c.args.row) c.place_at.ensures c.in_ok-b.was c.block_size-size.ensures c.offset_at-offset.ensures c.bare.ensures
    (omega arith)) c.place_at.ensures c.in_ok-b.was c.block_size-size.ensures c.offset_at-offset.ensures c.bare.ensures in
    omega (arith, h)

pub returns : goal.returns
returns c = begin_there _ _ _ c.place_at.ensures
    c.in_ok-b.was c.block_size-size.ensures c.offset_at-offset.ensures
    c.bare.ensures (omega arith) (omega arith)
