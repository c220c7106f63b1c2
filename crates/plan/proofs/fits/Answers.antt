use native.Mathlib.Omega.{arith}
use Rattle.meaning.specs.Flash.{block_size}
use Rattle.plan.proofs.Told.{contents_below}
use Rattle.plan.proofs.fits.Goals as goal

pub overflow_mul-result : goal.overflow_mul-result
unfolding block_size
overflow_mul-result c = record { fits = omega (arith, contents_below c.args.flash.now.geometry.blocks c.args.flash.now.geometry.size c.args.flash.now.geometry.pages c.block_size.result c.block_size.ensures (omega arith) (omega arith) (omega arith)) }
