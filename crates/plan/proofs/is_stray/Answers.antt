use Rattle.plan.proofs.Told.{told_log}
use Rattle.label.proofs.Sure.{fails}
use Rattle.plan.proofs.is_stray.Goals as goal

pub returns-then-not-placed : goal.returns-then-not-placed
returns-then-not-placed c = search told_log

pub returns-else-not-placed : goal.returns-else-not-placed
returns-else-not-placed c = search (told_log, fails)
