use Rattle.std.proofs.Common.{arith}
use Rattle.plan.specs.Select.{lent}
use Rattle.step.proofs.Place.{block_ends}
use Rattle.step.proofs.Whole.{fit_contents}
use Rattle.step.proofs.Written.{erase_done}
use Rattle.step.proofs.erase.Goals as goal

pub returns : goal.returns
returns c = erase_done _ _ _ _ _ _ c.block_size-size.ensures (block_ends _ c.args.b.0 _ _ c.block_size-size.ensures (fit_contents c.args.g (lent c.args.tags.now c.args.paths.now c.args.contents.now) c.requires.0) c.requires.1) (omega arith) (omega arith) c.write_label.ensures.0 c.write_label.ensures.1 (c.fill.ensures.after (λ y e. e))
