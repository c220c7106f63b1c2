-- The numbers that a host is given, from the answers that they stand for.
-- Assumes nothing.
use Prim.Native.Nat.{ℕ}
use mathlib.Core.Path.{◌≡◌, refl, sym, ap, ◌∙◌}
use mathlib.Core.List.{List, map}
use Rattle.std.specs.Prelude.{Result, Ok, Err, ⊤}
use Rattle.meaning.specs.declared.Refusal.{Refusal}
use Rattle.meaning.specs.declared.Step.{Step}
use Rattle.meaning.specs.Answer.{Answer, answer_by}
use Rattle.outcome.specs.declared.Outcome.{Outcome}
use Rattle.outcome.specs.Outcome.{outcome_of, said_of}
use Rattle.outcome.proofs.Back.{said_back}
use Rattle.file.specs.File.{answer}
use Rattle.action.specs.declared.Action.{Action}
use Rattle.action.specs.Action.{action_of, step_of}
use Rattle.action.proofs.Laws.{all_back}
use Rattle.host.specs.declared.Count.{Count}
use Rattle.host.specs.Host.{count_of, reading, Canonical}

module _ {o : Outcome} (x : Result ⊤ Refusal) (e : o ≡ outcome_of x) where
  pub same_answer : {A : Type 0} (v : A) → answer_by (λ _. v) (said_of o) ≡ answer_by (λ _. v) x
  same_answer v = ap (λ (y : Result ⊤ Refusal). answer_by (λ _. v) y) (ap said_of e ∙ said_back x)

  pub canonical : Canonical o
  canonical = e ∙ ap outcome_of (sym (ap said_of e ∙ said_back x))

-- ---- a list of steps

pub said_steps : (ss : List Step) {xs : List Action} → xs ≡ map action_of ss → map step_of xs ≡ ss
said_steps ss e = ap (map step_of) e ∙ all_back ss

-- ---- a read

read_back : (q : Result ℕ Refusal) → reading (count_of q) ≡ answer q
read_back (Ok n) = same_answer (Ok tt) refl n
read_back (Err x) = same_answer (Err x) refl 0

one_count : (q : Result ℕ Refusal) → Canonical (count_of q).said
one_count (Ok n) = canonical (Ok tt) refl
one_count (Err x) = canonical (Err x) refl

pub reads : {r : Count} {a : Answer ℕ} (q : Result ℕ Refusal) → r ≡ count_of q → answer q ≡ a → (reading r ≡ a) × Canonical r.said
reads q e h = rw e (read_back q ∙ h, one_count q)
