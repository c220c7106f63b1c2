use Rattle.lister.proofs.Lists.{rows_ways}
use Rattle.lister.proofs.put_extents.Goals as goal

pub loop-row-init : goal.loop-row-init
loop-row-init c = search rows_ways

pub loop-row-preserved : goal.loop-row-preserved
loop-row-preserved c = search rows_ways

pub returns : goal.returns
returns c = search rows_ways depth 20
