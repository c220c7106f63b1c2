use Rattle.listing.specs.Lines.{refusal_line}
use Rattle.listing.proofs.Ways.{ways}
use Rattle.listing.proofs.put_refusal.Goals as goal

pub returns : goal.returns
unfolding refusal_line
returns c = search ways depth 20
