use Rattle.std.proofs.Common.{arith}
use Rattle.step.proofs.Place.{block_ends, page_ends}
use Rattle.step.proofs.Written.{page_done}
use Rattle.step.proofs.write.Goals as goal

pub returns : goal.returns
returns c = page_done _ _ _ _ _ _ c.block_size-block.ensures (page_ends _ _ _ c.block_size-block.ensures c.requires.4) (block_ends _ c.args.from.0 _ _ c.block_size-block.ensures c.requires.1 c.requires.2) (omega arith) (omega arith) c.copy_page.ensures
