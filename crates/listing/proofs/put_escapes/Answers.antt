use Rattle.listing.proofs.Ways.{name_ways}
use Rattle.listing.proofs.put_escapes.Goals as goal

pub loop-b-init : goal.loop-b-init
loop-b-init c = search name_ways

pub loop-b-preserved : goal.loop-b-preserved
loop-b-preserved c = search name_ways

pub returns : goal.returns
returns c = search name_ways depth 20
