use Rattle.meaning.specs.Labels.{has_generation}
use Rattle.meaning.specs.Labels.{of_generation}
use Rattle.label.proofs.Scanned.{scans}
use Rattle.plan.proofs.has_generation.Goals as goal

pub loop-i-init : goal.loop-i-init
unfolding has_generation of_generation
loop-i-init c = search scans

pub returns-then-is_generation : goal.returns-then-is_generation
unfolding has_generation of_generation
returns-then-is_generation c = search scans

pub loop-i-preserved : goal.loop-i-preserved
unfolding has_generation of_generation
loop-i-preserved c = search scans

pub returns : goal.returns
unfolding has_generation of_generation
returns c = search scans
