use Rattle.listing.specs.Lines.{hex_text}
use Rattle.listing.proofs.Ways.{ways}
use Rattle.listing.proofs.put_hex.Goals as goal

pub returns : goal.returns
unfolding hex_text
returns c = search ways depth 20
