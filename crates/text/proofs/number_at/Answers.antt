use native.Mathlib.Omega.{arith}
use Rattle.base.specs.Choice.{if_less, if_eq, if_true, bind}
use Rattle.text.specs.Piece.{on_read, number_step}
use Rattle.text.proofs.Loops.{number_turn}
use Rattle.text.proofs.number_at.Goals as goal

pub returns-in_err-checked_mul : goal.returns-in_err-checked_mul
unfolding if_less if_eq if_true bind on_read number_step
returns-in_err-checked_mul c = grind (arith, number_turn)

pub returns-in_err-n : goal.returns-in_err-n
unfolding if_less if_eq if_true bind on_read number_step
returns-in_err-n c = grind (arith, number_turn)

pub loop-k-preserved : goal.loop-k-preserved
unfolding if_less if_eq if_true bind on_read number_step
loop-k-preserved c = grind (arith, number_turn)

pub returns-in_err-d : goal.returns-in_err-d
unfolding if_less if_eq if_true bind on_read number_step
returns-in_err-d c = grind (arith, number_turn)

pub returns-then-d-gt9 : goal.returns-then-d-gt9
unfolding if_less if_eq if_true bind on_read number_step
returns-then-d-gt9 c = grind (arith, number_turn)
