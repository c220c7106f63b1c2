use mathlib.Core.Path.{◌∙◌}
use Rattle.plan.proofs.Told.{has_found}
use Rattle.plan.proofs.has.Goals as goal

pub returns : goal.returns
returns c = c.is_some.ensures ∙ has_found _ _ _ c.find.ensures
