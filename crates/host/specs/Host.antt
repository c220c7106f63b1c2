-- What the numbers say that a host is given. An Outcome says how a service ended: 0, or document 01's number and place (outcome: said_of).
use Rattle.std.specs.Prelude.{ℕ, ◌≡◌, List, map, take, Result, Ok, Err}
use Rattle.meaning.specs.declared.Step.{Step}
use Rattle.meaning.specs.declared.Refusal.{Refusal}
use Rattle.meaning.specs.Answer.{Answer, answer_by}
use Rattle.meaning.specs.Services.{settle_steps}
use Rattle.outcome.specs.declared.Outcome.{Outcome}
use Rattle.outcome.specs.Outcome.{outcome_of, said_of}
use Rattle.action.specs.Action.{step_of}
use Rattle.host.specs.declared.Settled.{Settled}
use Rattle.host.specs.declared.Reclaimed.{Reclaimed}
use Rattle.host.specs.declared.Count.{Count}

-- no second numbers say the same
abbrev pub Canonical : Outcome → Type 0
Canonical o = o ≡ outcome_of (said_of o)

abbrev pub settling : Settled → Answer (List Step)
settling r = answer_by (λ x. settle_steps (take r.erase.count r.erase.blocks)) (said_of r.said)

abbrev pub reclaiming : Reclaimed → Answer (List Step)
reclaiming r = answer_by (λ x. map step_of (take r.count r.steps)) (said_of r.said)

abbrev pub reading : Count → Answer ℕ
reading r = answer_by (λ x. r.count) (said_of r.said)

-- a read answers its count, or none and its refusal
abbrev pub count_of : Result ℕ Refusal → Count
count_of (Ok n) = record { said = outcome_of (Ok tt); count = n }
count_of (Err x) = record { said = outcome_of (Err x); count = 0 }
