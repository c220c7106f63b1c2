use native.Mathlib.Omega.{arith}
use Rattle.meaning.specs.Labels.{active_generation}
use Rattle.label.proofs.Scanned.{scans}
use Rattle.plan.proofs.active_generation.Goals as goal

pub loop-g-init : goal.loop-g-init
unfolding active_generation
loop-g-init c = search scans

pub returns-then-leads : goal.returns-then-leads
unfolding active_generation
returns-then-leads c = (search scans, omega arith)

pub loop-g-preserved : goal.loop-g-preserved
unfolding active_generation
loop-g-preserved c = search scans

pub returns : goal.returns
unfolding active_generation
returns c = (search scans, omega arith)
