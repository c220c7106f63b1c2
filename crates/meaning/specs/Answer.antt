-- Refusals, and an answer that is a value or a refusal (01, "Refusal numbers and their order").
use Rattle.std.specs.Prelude.{ℕ, Bool, Result, Ok, Err}
use Rattle.std.proofs.Math.Option.{Option, none, some}
use Rattle.meaning.specs.declared.Number.{Number}
use Rattle.meaning.specs.declared.Address.{Address}
use Rattle.meaning.specs.declared.Block.{Block}
use Rattle.meaning.specs.declared.Refusal.{Refusal}
use Rattle.meaning.specs.declared.Refusal.TheVariants as refused
use Rattle.base.specs.Choice.{on_some}
use Rattle.base.specs.Scan.{first}

-- A physical block index, a logical block number and a logical byte address.
abbrev pub block : ℕ → Block
block i = record { 0 = i }

abbrev pub number : ℕ → Number
number k = record { 0 = k }

abbrev pub address : ℕ → Address
address a = record { 0 = a }

-- The column "no." of the table
unfoldable pub number_of : Refusal → ℕ
number_of refused.Geometry = 1
number_of (refused.Tag b) = 2
number_of (refused.Path b) = 3
number_of (refused.Copies b) = 4
number_of refused.Boot = 5
number_of refused.Log = 6
number_of (refused.Page a) = 7
number_of (refused.Message a) = 8
number_of (refused.Full a) = 9
number_of (refused.Data p) = 10
number_of refused.Unsettled = 11
number_of (refused.NoBlock k) = 12
number_of (refused.NoRoom n) = 13
number_of (refused.NoFile p) = 14
number_of (refused.Dump l) = 15

-- The column "place given"
unfoldable pub place_of : Refusal → ℕ
place_of refused.Geometry = 0
place_of (refused.Tag b) = b.0
place_of (refused.Path b) = b.0
place_of (refused.Copies b) = b.0
place_of refused.Boot = 0
place_of refused.Log = 0
place_of (refused.Page a) = a.0
place_of (refused.Message a) = a.0
place_of (refused.Full a) = a.0
place_of (refused.Data p) = p
place_of refused.Unsettled = 0
place_of (refused.NoBlock k) = k.0
place_of (refused.NoRoom n) = n
place_of (refused.NoFile p) = p
place_of (refused.Dump l) = l

pub data Answer (A : Type 0) : Type 0 where
  ok : A → Answer A
  no : Refusal → Answer A

-- what the code answers: f of its value, or its refusal
abbrev pub answer_by : {A B : Type 0} → (A → B) → Result A Refusal → Answer B
answer_by f (Ok x) = ok (f x)
answer_by f (Err r) = no r

-- the refusal, if there is one, else the answer
unfoldable pub unless : {A : Type 0} → Option Refusal → Answer A → Answer A
unless (some r) a = no r
unless none a = a

-- the next answer, from the value of this one
unfoldable pub and_then : {A B : Type 0} → Answer A → (A → Answer B) → Answer B
and_then (no r) k = no r
and_then (ok x) k = k x

-- the refusal of the lowest physical block that fails, if any does
unfoldable pub lowest : (Block → Refusal) → ℕ → (ℕ → Bool) → Option Refusal
lowest r n bad = on_some (first n bad) none (λ i. some (r (block i)))
