-- The table that the mount leaves, and its answer, from the core's.
-- Assumes nothing.
use Prim.Native.Nat.{ℕ, ◌≤◌}
use mathlib.Core.Path.{◌≡◌, sym, ap, ◌∙◌}
use mathlib.Core.List.{List}
use lib.ListN.{length, take, drop}
use lib.Seq.{length-take-le, take_at}
use Rattle.meaning.specs.declared.Geometry.{Geometry}
use Rattle.meaning.specs.declared.Record.{Record}
use Rattle.std.specs.Prelude.{Result, Ok, Err, ⊤}
use Rattle.meaning.specs.declared.Refusal.{Refusal}
use Rattle.meaning.specs.Answer.{Answer, answer_by}
use Rattle.outcome.specs.Outcome.{said_of}
use Rattle.meaning.specs.Flash.{Lent}
use Rattle.meaning.specs.Mount as meaning
use Rattle.meaning.specs.Mount.{filled, mount_into, table_after}
use Rattle.table.proofs.Filled.{table_shown, table_kept}
use Rattle.answer.specs.declared.Core.{Core}
use Rattle.answer.specs.Mounted.{insert_of, mounted, stands_for, Sizes, mount_in, Cored}

module _ (g : Geometry) (l : Lent) (table : List Record) (r : Core) (c : Cored g l (length table) r) where
  into : mount_into g l table ≡ stands_for r.answer r.all
  unfolding mount_into mount_in
  into = sym c.shows

  abbrev after : List Record
  after = filled (take r.n r.all) table

  kept_by : (x : Result ⊤ Refusal) → mount_into g l table ≡ answer_by (λ _. mounted r.answer r.all) x → Sizes x g l r.answer → after ≡ table_after g l table
  kept_by (Ok x) e h = table_shown g l table r.n r.all (mounted r.answer r.all) e (ap (λ (k : ℕ). take k r.all) (sym c.same))
  kept_by (Err x) e h = table_kept g l table r.n r.all x e (sym c.same ∙ h.0)

  pub table_is : after ≡ table_after g l table
  table_is = kept_by (said_of r.answer.said) into c.sized.0

  first_shown : r.n ≤ length r.all → take r.answer.records after ≡ take r.answer.records r.all
  unfolding filled
  first_shown h = rw c.same (take_at (take r.n r.all) (drop (length (take r.n r.all)) table) r.n (length-take-le r.n r.all h))

  pub answer_is : r.n ≤ length r.all → stands_for r.answer after ≡ mount_into g l table
  answer_is h =
      ap {B = Answer meaning.Mounted} (λ rs. answer_by (λ _. record {
        tree = record { records = rs; extents = take r.answer.runs r.answer.extents; applied = r.answer.applied; ignored = r.answer.ignored };
        erase = take r.answer.erase.count r.answer.erase.blocks;
        insert = insert_of r.answer.insertion;
      }) (said_of r.answer.said)) (first_shown h) ∙ sym into
