use Rattle.label.proofs.Scanned.{scans}
use Rattle.plan.proofs.bad_path.Goals as goal

pub loop-i-init : goal.loop-i-init
loop-i-init c = search scans

pub returns-then-bad_path_at : goal.returns-then-bad_path_at
returns-then-bad_path_at c = search scans

pub loop-i-preserved : goal.loop-i-preserved
loop-i-preserved c = search scans

pub returns : goal.returns
returns c = search scans
