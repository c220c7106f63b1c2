use native.Mathlib.Omega.{arith}
use Rattle.dump.proofs.Sizes.{contents_below}
use Rattle.dump.proofs.first_at.Goals as goal

pub overflow_mul-from : goal.overflow_mul-from
overflow_mul-from c = grind (arith, contents_below _ c.block_size.ensures (omega arith) (omega arith) (omega arith))
