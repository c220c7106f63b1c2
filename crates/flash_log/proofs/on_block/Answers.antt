use Rattle.flash_log.proofs.Told.{nothing_is, at_is, begin_low}
use Rattle.std.proofs.Common.{arith, ◌∙◌}
use Rattle.flash_log.proofs.on_block.Goals as goal

pub returns-in_err-b : goal.returns-in_err-b
returns-in_err-b c = c.from_residual.ensures ∙ nothing_is _ _ _ c.requires _ _ c.find_log.ensures c.in_err-b.was

pub overflow_mul-begin : goal.overflow_mul-begin
overflow_mul-begin c = omega (arith, begin_low _ _ _ c.requires c.args.k c.args.n.0 c.find_log.ensures c.in_ok-b.was c.block_size.ensures)

pub overflow_cast-result : goal.overflow_cast-result
overflow_cast-result c = omega (arith, begin_low _ _ _ c.requires c.args.k c.args.n.0 c.find_log.ensures c.in_ok-b.was c.block_size.ensures)

pub returns : goal.returns
returns c = at_is _ _ _ c.requires _ _ c.find_log.ensures c.in_ok-b.was c.block_size.ensures
