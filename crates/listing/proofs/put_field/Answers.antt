use Rattle.listing.specs.Lines.{field}
use Rattle.listing.proofs.Ways.{ways}
use Rattle.listing.proofs.put_field.Goals as goal

pub returns : goal.returns
unfolding field
returns c = search ways depth 20
