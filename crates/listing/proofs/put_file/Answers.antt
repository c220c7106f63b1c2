use Rattle.listing.specs.Lines.{file_line}
use Rattle.listing.proofs.Ways.{ways}
use Rattle.listing.proofs.put_file.Goals as goal

pub returns : goal.returns
unfolding file_line
returns c = search ways depth 20
