use Rattle.plan.proofs.Told.{find_is}
use Rattle.plan.proofs.find_log.Goals as goal

pub returns : goal.returns
returns c = search find_is
