-- No log, or the first blank page of its last block, which is there.
use Prim.Native.Nat.{◌+◌, ◌-◌}
use native.Mathlib.Omega.{arith}
use mathlib.Core.Path.{refl, ◌∙◌}
use Rattle.flash_log.proofs.Told.{active_low, start_low}
use Rattle.flash_log.proofs.Blank.{nowhere, not_nothing, begin_room, insertion_is}
use Rattle.flash_log.proofs.insertion.insertion.Goals as goal

pub returns-then-p-eq0 : goal.returns-then-p-eq0
returns-then-p-eq0 c = nowhere _ _ _ c.requires c.if-p-eq0.true

pub overflow_cast-last : goal.overflow_cast-last
overflow_cast-last c = omega (arith, active_low _ _ _ c.requires)

pub overflow_add-last : goal.overflow_add-last
overflow_add-last c = omega (arith, active_low _ _ _ c.requires, start_low _ _ _ c.requires)

pub returns-in_err-b : goal.returns-in_err-b
returns-in_err-b c = absurd (not_nothing _ _ _ c.requires _ (omega arith) refl c.find_log.ensures c.in_err-b.was)

pub overflow_mul-begin : goal.overflow_mul-begin
overflow_mul-begin c = omega (
  arith,
  begin_room _ _ _ c.requires (c.args.p.start.0 + (c.args.p.active - 1)) (omega arith) refl
      c.find_log.ensures c.in_ok-b.was c.block_size.ensures,
)

pub first_blank-requires : goal.first_blank-requires
first_blank-requires c = begin_room _ _ _ c.requires (c.args.p.start.0 + (c.args.p.active - 1)) (omega arith) refl
    c.find_log.ensures c.in_ok-b.was c.block_size.ensures

pub returns : goal.returns
returns c = c.first_blank.ensures ∙ insertion_is _ _ _ c.requires _ (omega arith) (omega arith)
    c.find_log.ensures c.in_ok-b.was c.block_size.ensures
