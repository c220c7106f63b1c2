use Rattle.meaning.specs.Labels.{gap}
use Rattle.label.proofs.Sure.{sure}
use Rattle.plan.proofs.is_gap.Goals as goal

pub returns-then-r-ne0 : goal.returns-then-r-ne0
unfolding gap
returns-then-r-ne0 c = search sure

pub returns-else-r-ne0 : goal.returns-else-r-ne0
unfolding gap
returns-else-r-ne0 c = search sure
