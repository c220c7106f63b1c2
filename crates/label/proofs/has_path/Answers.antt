use mathlib.Core.Path.{refl}
use Rattle.label.proofs.Paths.{any_none, any_more}
use Rattle.label.proofs.has_path.Goals as goal

pub loop-p-init : goal.loop-p-init
loop-p-init c = any_none _

pub loop-p-preserved : goal.loop-p-preserved
loop-p-preserved c = any_more _ c.loop-p.p-index c.loop-p.invariant refl
