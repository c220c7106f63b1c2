use mathlib.Core.Path.{◌∙◌}
use native.Mathlib.Omega.{arith}
use lib.ListN.{length-set}
use Rattle.action.proofs.Laws.{few, next_said}
use Rattle.action.proofs.actions_of.Goals as goal

pub loop-k-preserved : goal.loop-k-preserved
loop-k-preserved c = (
  length-set _ _ _ ∙ c.loop-k.invariant.0,
  next_said _ _ _ _ _ (omega (arith, few c.args.l _ c.as_slice-s-items.ensures)) c.loop-k-test.true c.from.ensures c.loop-k.invariant.1,
)
