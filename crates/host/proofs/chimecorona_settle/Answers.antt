use mathlib.Core.Path.{◌∙◌}
use Rattle.std.specs.Prelude.{Ok, Err}
use Rattle.host.proofs.Numbers.{canonical, same_answer}
use Rattle.host.proofs.chimecorona_settle.Goals as goal

pub returns-in-Ok-clause-result_value : goal.returns-in-Ok-clause-result_value
returns-in-Ok-clause-result_value c = (same_answer (Ok tt) c.from.ensures _ ∙ c.in-Ok.ensures.result_value.0, canonical (Ok tt) c.from.ensures)

pub returns-in-Err-clause-result_value : goal.returns-in-Err-clause-result_value
returns-in-Err-clause-result_value c = (same_answer (Err c.in-Err.x) c.from-in-Err.ensures _ ∙ c.in-Err.ensures.result_value.0, canonical (Err c.in-Err.x) c.from-in-Err.ensures)
