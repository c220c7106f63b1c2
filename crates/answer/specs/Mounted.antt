-- The answer of a mount that fills a lent table, as document 01 has it.
use Rattle.std.specs.Prelude.{ℕ, ◌≤◌, ◌≡◌, List, eqb, take, Result, Ok, Err, ⊤}
use Rattle.std.proofs.Math.Option.{Option, none, some}
use Rattle.base.specs.Choice.{if_eq, if_true}
use Rattle.meaning.specs.declared.Geometry.{Geometry}
use Rattle.meaning.specs.declared.Record.{Record}
use Rattle.meaning.specs.declared.Refusal.TheVariants as refused
use Rattle.meaning.specs.Answer.{Answer, answer_by, no}
use Rattle.meaning.specs.Flash.{Lent, image_of}
use Rattle.meaning.specs.Mount as meaning
use Rattle.meaning.specs.Mount.{mount_of}
use Rattle.meaning.specs.declared.Refusal.{Refusal}
use Rattle.used.specs.Bits.{listed, used_bits}
use Rattle.outcome.specs.Outcome.{outcome_of, said_of}
use Rattle.answer.specs.declared.Core.{Core}
use Rattle.answer.specs.declared.Insertion.{Insertion}
use Rattle.answer.specs.declared.Mounted.{Mounted}

-- ---- in numbers

-- an address or none, in numbers, and what the numbers say
abbrev pub insertion_of : Option ℕ → Insertion
insertion_of none = record { count = 0; address = 0 }
insertion_of (some a) = record { count = 1; address = a }

unfoldable pub insert_of : Insertion → Option ℕ
insert_of i = if_eq i.count 0 none (some i.address)

-- ---- the answer

-- what the answer shows, the records being the table's first
abbrev pub mounted : Mounted → List Record → meaning.Mounted
mounted r table = record {
  tree = record { records = take r.records table; extents = take r.runs r.extents; applied = r.applied; ignored = r.ignored };
  erase = take r.erase.count r.erase.blocks;
  insert = insert_of r.insertion;
}

abbrev pub stands_for : Mounted → List Record → Answer meaning.Mounted
stands_for r table = answer_by (λ x. mounted r table) (said_of r.said)

-- a refusal shows nothing
abbrev pub Silent : Mounted → Type 0
Silent r = (r.records ≡ 0) × (r.runs ≡ 0) × (r.erase.count ≡ 0)

-- the counts are within the arrays, and the used pages are those of the extents
abbrev pub Sizes : Result ⊤ Refusal → Geometry → Lent → Mounted → Type 0
Sizes (Ok x) g l r =
    (r.records ≤ 256) × (r.runs ≤ 1024) × (r.erase.count ≤ 1024)
    × (r.used ≡ listed 1024 (used_bits g (image_of g l).labels (take r.runs r.extents)))
Sizes (Err x) g l r = Silent r

-- and there are no second numbers for how it ended, nor for the insertion point
abbrev pub Sized : Geometry → Lent → Mounted → Type 0
Sized g l r =
    Sizes (said_of r.said) g l r × (r.said ≡ outcome_of (said_of r.said)) × (r.insertion ≡ insertion_of (insert_of r.insertion))

-- ---- the core, which sees no table but its length

unfoldable pub mount_in : Geometry → Lent → ℕ → Answer meaning.Mounted
mount_in g l places = if_true (eqb places 256) (mount_of g l) (no refused.Geometry)

-- nothing beside the refusal
abbrev pub Blank : Core → Refusal → Type 0
Blank r x = (r.n ≡ 0) × Silent r.answer × (r.answer.said ≡ outcome_of (Err x)) × (r.answer.insertion ≡ insertion_of none)

pub record Cored (g : Geometry) (l : Lent) (places : ℕ) (r : Core) : Type 0 where
  pub same : r.answer.records ≡ r.n
  pub few : r.n ≤ 256
  pub room : r.n ≤ places
  pub shows : stands_for r.answer r.all ≡ mount_in g l places
  pub sized : Sized g l r.answer
