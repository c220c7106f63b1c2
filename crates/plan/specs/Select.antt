-- What `select` answers: GEOMETRY, else the refusal that the labels decide, else the plan.
use Rattle.std.specs.Prelude.{ℕ, List, length, Result, Ok, Err}
use Rattle.base.specs.Choice.{if_true}
use Rattle.meaning.specs.declared.Geometry.{Geometry}
use Rattle.meaning.specs.declared.Plan.{Plan}
use Rattle.meaning.specs.declared.Refusal.TheVariants as refused
use Rattle.meaning.specs.Answer.{Answer, ok, no, unless}
use Rattle.meaning.specs.Flash.{Labels, Lent, fits, labels_of}
use Rattle.meaning.specs.Labels.{label_refusal, log_plan}
use Rattle.meaning.specs.declared.Refusal.{Refusal}

unfoldable pub chosen : Answer Plan → Result Plan Refusal
chosen (ok p) = Ok p
chosen (no r) = Err r

-- refusals 2 to 6, or the plan
unfoldable pub judged : ℕ → Labels → Answer Plan
judged n m = unless (label_refusal n m) (ok (log_plan n m))

abbrev pub lent : List ℕ → List ℕ → List ℕ → Lent
lent tags paths contents = record { tags = tags; paths = paths; contents = contents }

unfoldable pub selected : Geometry → Lent → Result Plan Refusal
selected g l = chosen (if_true (fits g l) (judged (length l.tags) (labels_of l.tags l.paths)) (no refused.Geometry))
