use Rattle.std.proofs.Common.{arith}
use Rattle.std.proofs.lemmas.Bool.Decides.{nat_tests}
use Rattle.meaning.specs.Flash.{good_pages}
use Rattle.label.proofs.good_pages.Goals as goal

pub returns-in-4 : goal.returns-in-4
unfolding good_pages
returns-in-4 c = grind (arith, nat_tests)

pub returns-in_default : goal.returns-in_default
unfolding good_pages
returns-in_default c = grind (arith, nat_tests)
