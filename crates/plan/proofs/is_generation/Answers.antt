use Rattle.plan.proofs.Told.{told_log}
use Rattle.label.proofs.Sure.{eq_fails}
use Rattle.plan.proofs.is_generation.Goals as goal

pub returns-then-path_at-g : goal.returns-then-path_at-g
returns-then-path_at-g c = search told_log

pub returns-else-path_at-g : goal.returns-else-path_at-g
returns-else-path_at-g c = search (told_log, eq_fails)
