use Rattle.report.specs.Lines.{line_of}
use Rattle.listing.proofs.Ways.{ways}
use Rattle.report.proofs.put_line.Goals as goal

pub returns : goal.returns
unfolding line_of
returns c = search ways depth 20
