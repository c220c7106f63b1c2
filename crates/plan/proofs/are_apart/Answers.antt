use Rattle.plan.proofs.Told.{told_label}
use Rattle.plan.proofs.are_apart.Goals as goal

pub returns-then-not-newer : goal.returns-then-not-newer
returns-then-not-newer c = search told_label

pub returns-else-not-newer : goal.returns-else-not-newer
returns-else-not-newer c = search told_label
