use native.Mathlib.Omega.{arith}
use Rattle.base.specs.Choice.{if_eq, if_true, bind}
use Rattle.text.specs.Piece.{on_read, run_step}
use Rattle.text.proofs.Loops.{run_turn}
use Rattle.text.proofs.run_at.Goals as goal

pub returns-in_err-hex_at : goal.returns-in_err-hex_at
unfolding if_eq if_true bind on_read run_step
returns-in_err-hex_at c = grind (arith, run_turn)

pub loop-n-preserved : goal.loop-n-preserved
unfolding if_eq if_true bind on_read run_step
loop-n-preserved c = grind (arith, run_turn)
