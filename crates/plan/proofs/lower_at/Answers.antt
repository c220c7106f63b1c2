use Rattle.plan.proofs.Told.{told_log}
use Rattle.plan.proofs.lower_at.Goals as goal

pub returns-then-r-g : goal.returns-then-r-g
returns-then-r-g c = search told_log

pub returns-then-r-best : goal.returns-then-r-best
returns-then-r-best c = search told_log

pub returns-then-not-counts : goal.returns-then-not-counts
returns-then-not-counts c = search told_log

pub returns : goal.returns
returns c = search told_log
