use native.Mathlib.Omega.{arith}
use Rattle.tree.proofs.Shifts.{closes}
use Rattle.tree.proofs.keys.close_at.Goals as goal

pub returns : goal.returns
returns c = closes c.args.xs.now c.args.n c.args.i _ (omega arith) (omega arith) c.rotate_left.ensures.after
