use Rattle.host.proofs.Numbers.{reads}
use Rattle.host.proofs.chimecorona_read_mounted.Goals as goal

pub returns-clause-result_value : goal.returns-clause-result_value
returns-clause-result_value c = reads c.read.result c.from.ensures c.read.ensures.result_value
