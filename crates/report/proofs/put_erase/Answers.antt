use Rattle.report.specs.Lines.{erase_line}
use Rattle.listing.proofs.Ways.{ways}
use Rattle.report.proofs.put_erase.Goals as goal

pub returns : goal.returns
unfolding erase_line
returns c = search ways depth 20
