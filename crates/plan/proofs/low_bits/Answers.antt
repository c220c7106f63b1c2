use native.Mathlib.Omega.{arith}
use Rattle.meaning.specs.Flash.{r_of}
use Rattle.plan.specs.Ask.{low_bits}
use Rattle.plan.proofs.low_bits.Goals as goal

pub returns : goal.returns
unfolding low_bits r_of
returns c = (omega arith, omega arith)
