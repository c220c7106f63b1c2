use Rattle.std.proofs.Common.{arith}
use Rattle.used.proofs.Touch.{marked_fill}
use Rattle.used.proofs.mark.Goals as goal

pub returns : goal.returns
returns c = marked_fill _ _ _ c.requires.0 (omega arith) (c.fill.ensures.after (λ y e. e))
