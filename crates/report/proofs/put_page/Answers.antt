use Rattle.report.specs.Lines.{page_line}
use Rattle.listing.proofs.Ways.{ways}
use Rattle.report.proofs.put_page.Goals as goal

pub returns : goal.returns
unfolding page_line
returns c = search ways depth 20
