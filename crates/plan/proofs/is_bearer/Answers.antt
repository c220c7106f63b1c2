use Rattle.plan.specs.Ask.{bearer}
use Rattle.label.proofs.Sure.{sure}
use Rattle.plan.proofs.is_bearer.Goals as goal

pub returns-then-from-b : goal.returns-then-from-b
unfolding bearer
returns-then-from-b c = search sure

pub returns-else-from-b : goal.returns-else-from-b
unfolding bearer
returns-else-from-b c = search sure
