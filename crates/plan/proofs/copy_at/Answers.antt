use Rattle.plan.proofs.Told.{told_label}
use Rattle.plan.proofs.copy_at.Goals as goal

pub returns : goal.returns
returns c = search told_label
