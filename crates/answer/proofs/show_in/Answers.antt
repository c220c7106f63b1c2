use mathlib.Core.Path.{◌∙◌}
use native.Mathlib.Omega.{arith}
use Rattle.answer.proofs.Laws.{in_256, in_other}
use Rattle.answer.proofs.show_in.Goals as goal

pub returns-then-places-ne256-clause-shows : goal.returns-then-places-ne256-clause-shows
returns-then-places-ne256-clause-shows c = in_other _ _ _ (λ h. omega (arith, h))

pub returns-clause-shows : goal.returns-clause-shows
returns-clause-shows c = c.show.ensures.extents_after ∙ in_256 _ _ _ (omega arith)
