use Rattle.listing.proofs.Ways.{ways}
use Rattle.listing.proofs.put_insertion.Goals as goal

pub returns-in-Some : goal.returns-in-Some
returns-in-Some c = search ways depth 20

pub returns-in-None : goal.returns-in-None
returns-in-None c = search ways depth 20
