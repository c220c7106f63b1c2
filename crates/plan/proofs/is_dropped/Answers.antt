use Rattle.plan.proofs.Told.{told_log}
use Rattle.label.proofs.Sure.{fails}
use Rattle.plan.proofs.is_dropped.Goals as goal

pub returns-then-drops : goal.returns-then-drops
returns-then-drops c = search told_log

pub returns-else-drops : goal.returns-else-drops
returns-else-drops c = search (told_log, fails)
