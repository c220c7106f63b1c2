use Rattle.flash_log.proofs.Blank.{blank_hit}
use Rattle.flash_log.proofs.insertion.first_blank.Goals as goal
use Rattle.std.proofs.Common.{arith}

pub returns-then-is_blank : goal.returns-then-is_blank
returns-then-is_blank c = blank_hit _ _ _ _ _ c.loop-page.invariant (omega arith) (omega arith) c.is_blank.ensures c.if-is_blank.true c.address_of.ensures
