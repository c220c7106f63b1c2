-- What a number and a place say (01, "Refusal numbers and their order").
use Rattle.std.specs.Prelude.{ℕ, ◌-◌, List, [], ◌∷◌, get_or, Result, Ok, Err, ⊤}
use Rattle.base.specs.Choice.{if_eq}
use Rattle.meaning.specs.declared.Refusal.{Refusal}
use Rattle.meaning.specs.declared.Refusal.TheVariants as refused
use Rattle.meaning.specs.Answer.{block, number, address, number_of, place_of}
use Rattle.outcome.specs.declared.Outcome.{Outcome}

-- the table's rows in their order, each with that place
abbrev rows : ℕ → List Refusal
rows p =
    refused.Geometry
    ∷ refused.Tag (block p)
    ∷ refused.Path (block p)
    ∷ refused.Copies (block p)
    ∷ refused.Boot
    ∷ refused.Log
    ∷ refused.Page (address p)
    ∷ refused.Message (address p)
    ∷ refused.Full (address p)
    ∷ refused.Data p
    ∷ refused.Unsettled
    ∷ refused.NoBlock (number p)
    ∷ refused.NoRoom p
    ∷ refused.NoFile p
    ∷ refused.Dump p
    ∷ []

-- the refusal of that number; numbers count from 1
unfoldable pub refusal_of : ℕ → ℕ → Refusal
refusal_of n p = get_or (rows p) (n - 1) refused.Geometry

-- how a service ended, in numbers, and what the numbers say
abbrev pub outcome_of : Result ⊤ Refusal → Outcome
outcome_of (Ok x) = record { refusal = 0; place = 0 }
outcome_of (Err r) = record { refusal = number_of r; place = place_of r }

unfoldable pub said_of : Outcome → Result ⊤ Refusal
said_of o = if_eq o.refusal 0 (Ok tt) (Err (refusal_of o.refusal o.place))
