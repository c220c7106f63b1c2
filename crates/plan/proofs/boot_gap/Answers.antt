use Rattle.meaning.specs.Labels.{boot_gap}
use Rattle.label.proofs.Scanned.{scans}
use Rattle.plan.proofs.boot_gap.Goals as goal

pub loop-i-init : goal.loop-i-init
unfolding boot_gap
loop-i-init c = search scans

pub returns-then-boot_gap_at : goal.returns-then-boot_gap_at
unfolding boot_gap
returns-then-boot_gap_at c = search scans

pub loop-i-preserved : goal.loop-i-preserved
unfolding boot_gap
loop-i-preserved c = search scans

pub returns : goal.returns
unfolding boot_gap
returns c = search scans
