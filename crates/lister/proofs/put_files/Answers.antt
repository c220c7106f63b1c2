use Rattle.lister.proofs.Lists.{files_ways}
use Rattle.lister.proofs.put_files.Goals as goal

pub loop-f-init : goal.loop-f-init
loop-f-init c = search files_ways

pub loop-f-preserved : goal.loop-f-preserved
loop-f-preserved c = search files_ways

pub returns : goal.returns
returns c = search files_ways depth 20
