use Rattle.std.proofs.Common.{arith}
use Rattle.used.specs.Bits.{listed}
use Rattle.used.proofs.Masks.{pad_none, list_done, past_all}
use Rattle.used.proofs.used_bits.Goals as goal

pub loop-i-init : goal.loop-i-init
unfolding listed
loop-i-init c = pad_none 1024

pub returns : goal.returns
returns c = list_done _ 1024 _ _ _ c.loop-i.invariant (omega arith) (past_all _ c.args.flash.now.geometry _ _)
