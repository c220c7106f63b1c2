use Rattle.std.proofs.Common.{arith}
use Rattle.std.proofs.lemmas.Bool.Decides.{nat_tests}
use Rattle.meaning.specs.Flash.{good_size}
use Rattle.label.proofs.good_size.Goals as goal

pub returns-in-256 : goal.returns-in-256
unfolding good_size
returns-in-256 c = grind (arith, nat_tests)

pub returns-in_default : goal.returns-in_default
unfolding good_size
returns-in_default c = grind (arith, nat_tests)
