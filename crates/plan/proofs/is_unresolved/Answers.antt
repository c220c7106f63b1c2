use native.Mathlib.Omega.{arith}
use Rattle.plan.proofs.Copies.{copies}
use Rattle.label.proofs.Answered.{at_below}
use Rattle.label.proofs.Said.{r_is}
use Rattle.plan.proofs.is_unresolved.Goals as goal

pub returns-then-eq : goal.returns-then-eq
returns-then-eq c = search (copies, r_is)

pub returns-in_default : goal.returns-in_default
returns-in_default c = search (copies, r_is)

pub overflow_add-one : goal.overflow_add-one
overflow_add-one c = omega (arith, at_below _ _ c.bearer_from.ensures c.in-Some.is)

pub returns-in_default-bearer_from : goal.returns-in_default-bearer_from
returns-in_default-bearer_from c = search (copies, r_is)

pub overflow_add-two : goal.overflow_add-two
overflow_add-two c = omega (arith, at_below _ _ c.bearer_from-2.ensures c.in-Some-bearer_from.is)

pub returns-in-Some-bearer_from-2 : goal.returns-in-Some-bearer_from-2
returns-in-Some-bearer_from-2 c = search (copies, r_is)

pub returns : goal.returns
returns c = search (copies, r_is)
