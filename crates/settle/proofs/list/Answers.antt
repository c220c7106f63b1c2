use Rattle.settle.proofs.Room.{roomy}
use Rattle.settle.proofs.list.Goals as goal

pub returns-clause-counted : goal.returns-clause-counted
returns-clause-counted c = let z = c.in_ok-show.ensures.sized in (z.2, roomy _ _ z.4 z.2)
