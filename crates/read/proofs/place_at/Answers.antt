use Rattle.std.proofs.Common.{arith}
use Rattle.read.proofs.Address.{place_data, place_log}
use Rattle.read.proofs.place_at.Goals as goal

pub returns-then-a-ge-IN_LOG : goal.returns-then-a-ge-IN_LOG
returns-then-a-ge-IN_LOG c = place_log _ _ _ c.requires c.args.a (omega arith) c.bare.ensures c.number_at-n.ensures (omega arith) c.find_log.ensures

pub returns-else-a-ge-IN_LOG : goal.returns-else-a-ge-IN_LOG
returns-else-a-ge-IN_LOG c = place_data _ _ _ c.requires c.args.a (omega arith) c.bare.ensures c.number_at-n.ensures (omega arith) c.find_data.ensures
