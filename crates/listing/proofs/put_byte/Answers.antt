use Rattle.listing.proofs.Ways.{ways}
use Rattle.listing.proofs.put_byte.Goals as goal

pub returns-then-at-buf : goal.returns-then-at-buf
returns-then-at-buf c = search ways depth 20

pub returns-else-at-buf : goal.returns-else-at-buf
returns-else-at-buf c = search ways depth 20
