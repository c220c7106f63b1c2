use Rattle.plan.proofs.Told.{clear_from}
use Rattle.label.proofs.Scanned.{scans}
use Rattle.plan.proofs.bearer_from.Goals as goal

pub loop-i-init : goal.loop-i-init
loop-i-init c = search (scans, clear_from)

pub returns-then-is_bearer : goal.returns-then-is_bearer
returns-then-is_bearer c = search (scans, clear_from)

pub loop-i-preserved : goal.loop-i-preserved
loop-i-preserved c = search (scans, clear_from)

pub returns : goal.returns
returns c = search (scans, clear_from)
