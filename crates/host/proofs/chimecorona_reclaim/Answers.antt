use mathlib.Core.Path.{ap, ◌∙◌}
use mathlib.Core.List.{List}
use Rattle.std.specs.Prelude.{Ok, Err}
use Rattle.meaning.specs.declared.Step.{Step}
use Rattle.meaning.specs.Answer.{Answer, ok}
use Rattle.host.proofs.Numbers.{canonical, same_answer}
use Rattle.host.proofs.chimecorona_reclaim.Goals as goal

pub returns-in-Ok-clause-result_value : goal.returns-in-Ok-clause-result_value
returns-in-Ok-clause-result_value c = (same_answer (Ok tt) (c.listed.ensures.0 ∙ c.from.ensures) _ ∙ ap {B = Answer (List Step)} ok c.listed.ensures.2 ∙ c.in-Ok.ensures.result_value, canonical (Ok tt) (c.listed.ensures.0 ∙ c.from.ensures))

pub returns-in-Err-clause-result_value : goal.returns-in-Err-clause-result_value
returns-in-Err-clause-result_value c = (same_answer (Err c.in-Err.x) (c.listed-in-Err.ensures.0 ∙ c.from-in-Err.ensures) _ ∙ c.in-Err.ensures.result_value, canonical (Err c.in-Err.x) (c.listed-in-Err.ensures.0 ∙ c.from-in-Err.ensures))
