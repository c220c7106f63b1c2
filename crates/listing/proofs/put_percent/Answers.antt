use Rattle.listing.specs.Lines.{percent}
use Rattle.listing.proofs.Ways.{ways}
use Rattle.listing.proofs.put_percent.Goals as goal

pub returns : goal.returns
unfolding percent
returns c = search ways depth 20
