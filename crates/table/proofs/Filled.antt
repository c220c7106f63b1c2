-- What the table holds then: it is filled with the first n of some records, or it is as it was.
-- Assumes nothing.
use mathlib.Core.Path.{◌≡◌, refl, sym, ap, ◌∙◌}
use Prim.Native.Nat.{ℕ, ◌≤◌}
use native.Mathlib.Omega.{arith}
use mathlib.Core.List.{List, ◌++◌}
use lib.ListN.{length, take, drop, length-take}
use Rattle.base.proofs.Ways.{holds, fails}
use Rattle.meaning.specs.declared.Geometry.{Geometry}
use Rattle.meaning.specs.declared.Record.{Record}
use Rattle.meaning.specs.declared.Refusal.{Refusal}
use Rattle.meaning.specs.declared.Refusal.TheVariants as refused
use Rattle.meaning.specs.Answer.{Answer, ok, no}
use Rattle.meaning.specs.Flash.{Lent}
use Rattle.meaning.specs.Mount.{Mounted, filled, mount_of, mount_into, table_after}
use Rattle.table.proofs.Lists.{mixed}
use borrow.Author.Tests.{eq-eqb, ne_eqb}

pub filled_is : (n : ℕ) (xs ys : List Record) → n ≤ length xs → filled (take n xs) ys ≡ mixed n xs ys
unfolding filled
filled_is n xs ys h = let e : length (take n xs) ≡ n = omega (arith, length-take n xs, h) in ap (λ (k : ℕ). take n xs ++ drop k ys) e

-- ---- for a mount: its core says what is shown, by value, and gives no record where it refuses

module _ (g : Geometry) (l : Lent) (table : List Record) where
  -- "the record table has 256 places"
  pub into_table : length table ≡ 256 → mount_into g l table ≡ mount_of g l
  unfolding mount_into
  into_table h = sym (holds _ _ _ (eq-eqb (length table) 256 h) refl)

  pub into_other : (length table ≡ 256 → ⊥) → mount_into g l table ≡ no refused.Geometry
  unfolding mount_into
  into_other h = sym (fails _ _ _ (ne_eqb (length table) 256 h) refl)

  abbrev after : Answer Mounted → List Record
  after x = elim x [ no r ↦ table | ok a ↦ filled a.tree.records table ]

  module _ (n : ℕ) (xs : List Record) where
    pub table_shown : (a : Mounted) → mount_into g l table ≡ ok a → take n xs ≡ a.tree.records → filled (take n xs) table ≡ table_after g l table
    unfolding table_after
    table_shown a e f = ap (λ (rs : List Record). filled rs table) f ∙ sym (ap after e)

    pub table_kept : (r : Refusal) → mount_into g l table ≡ no r → n ≡ 0 → filled (take n xs) table ≡ table_after g l table
    unfolding table_after filled
    table_kept r e f = ap (λ (k : ℕ). filled (take k xs) table) f ∙ sym (ap after e)
