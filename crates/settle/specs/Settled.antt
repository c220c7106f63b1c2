-- The answer of a settle, as document 01 has it, and a list of steps as the code does it.
use Rattle.std.specs.Prelude.{◌≡◌, ◌≤◌, List, [], ◌∷◌, length, take, Result, Ok, Err}
use Rattle.meaning.specs.declared.Geometry.{Geometry}
use Rattle.meaning.specs.declared.Refusal.{Refusal}
use Rattle.meaning.specs.declared.Step.{Step}
use Rattle.meaning.specs.Answer.{Answer, answer_by}
use Rattle.meaning.specs.Flash.{Lent}
use Rattle.meaning.specs.Services.{settle_steps}
use Rattle.step.specs.Done.{stepped}
use Rattle.used.specs.declared.Erase.{Erase}

abbrev pub steps_of : Erase → List Step
steps_of e = settle_steps (take e.count e.blocks)

-- "Settle and reclaim also answer with their list of steps"
abbrev pub answer : Result Erase Refusal → Answer (List Step)
answer r = answer_by steps_of r

-- the list has room
abbrev pub Counted : Result Erase Refusal → Type 0
Counted (Ok e) = (e.count ≤ 1024) × (length e.blocks ≡ 1024)
Counted (Err x) = Unit {0}

-- the steps, each called by itself; one that is refused changes nothing
unfoldable pub each : Geometry → Lent → List Step → Lent
each g l [] = l
each g l (s ∷ ss) = each g (stepped g l s) ss
