use Rattle.report.specs.Lines.{step_head}
use Rattle.listing.proofs.Ways.{ways}
use Rattle.report.proofs.put_step_head.Goals as goal

pub returns : goal.returns
unfolding step_head
returns c = search ways depth 20
