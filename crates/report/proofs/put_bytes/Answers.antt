use Rattle.report.proofs.Ways.{bytes_ways}
use Rattle.report.proofs.put_bytes.Goals as goal

pub loop-b-init : goal.loop-b-init
loop-b-init c = search bytes_ways

pub loop-b-preserved : goal.loop-b-preserved
loop-b-preserved c = search bytes_ways

pub returns : goal.returns
returns c = search bytes_ways depth 20
