use mathlib.Core.Path.{refl}
use Rattle.reclaim.specs.Reclaimed.{steps_in}
use Rattle.host.proofs.Numbers.{said_steps}
use Rattle.host.proofs.listed.Goals as goal

pub returns : goal.returns
returns c = (refl, refl, said_steps (steps_in c.args.list) c.actions_of-steps.ensures)
