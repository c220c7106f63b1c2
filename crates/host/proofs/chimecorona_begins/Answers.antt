use mathlib.Core.Path.{◌∙◌}
use Rattle.host.proofs.Numbers.{canonical, same_answer}
use Rattle.host.proofs.chimecorona_begins.Goals as goal

pub returns-clause-extents_value : goal.returns-clause-extents_value
returns-clause-extents_value c = (same_answer c.begins.result c.from.ensures _ ∙ c.begins.ensures.xs_value, canonical c.begins.result c.from.ensures)
