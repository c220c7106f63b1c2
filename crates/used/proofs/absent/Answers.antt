use Rattle.std.proofs.Common.{refl}
use Rattle.used.proofs.Needed.{seen_none}
use Rattle.used.proofs.absent.Goals as goal

pub loop-row-init : goal.loop-row-init
loop-row-init c = (refl, seen_none _ _)
