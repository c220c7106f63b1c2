use native.Mathlib.Omega.{arith}
use Rattle.meaning.specs.Flash.{block_size}
use Rattle.label.proofs.Said.{pages_below}
use borrow.Author.Rules.{rules}
use Rattle.label.proofs.block_size.Goals as goal

pub overflow_mul-result : goal.overflow_mul-result
unfolding block_size
overflow_mul-result c = record { fits = omega (arith, pages_below c.args.g.size c.args.g.pages (omega arith) (omega arith)) }

pub returns : goal.returns
unfolding block_size
returns c = search rules
