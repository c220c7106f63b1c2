-- The functions of src/room.rt.
use Prim.Native.Nat.{ℕ, ◌+◌, ◌-◌, ◌≤◌, ◌<◌}
use mathlib.Core.Path.{◌≡◌, refl, sym, ap, ◌∙◌}
use mathlib.Core.List.{List}
use native.Mathlib.Omega.{arith}
use lib.ListN.{length, set}
use Rattle.meaning.specs.declared.Extent.{Extent}
use Rattle.meaning.specs.Replay.{lay, others}
use Rattle.extent.specs.Rows.{row_of, Fit, Sound}
use Rattle.runs.specs.declared.Span.{Span}
use Rattle.runs.specs.Runs.{span_at, with, gather, Owned, Open, Roomed, spans_laid, rows_laid}
use Rattle.runs.proofs.Laws.{kept_gather, kept_owned, open_at, gather_lay, lay_parts, lay_owned, lay_count, gather_clear, clear_placed, clear_owned, clear_count}
use Rattle.change.specs.declared.room.Room.{Room}
use Rattle.change.specs.Room.{Stands, Known, Turns, Some}

-- ---- a run

abbrev room : ℕ → ℕ → Room
room bump used = record { bump = bump; used = used }

pub sound_run : (run : Extent) → Fit run → Sound (row_of run)
sound_run run f = record { four = refl; fit = f }

-- there is room, the rows are what they were, and their paths are known
module _ {spans : List Span} {rows : List (List ℕ)} {ss : List ℕ} {s : ℕ} {run : Extent} {old : Room} {spans₁ : List Span} {rows₁ : List (List ℕ)} {bump : ℕ}
    (d : Stands spans rows old ss s) (f : Fit run) (m : Roomed spans rows spans₁ rows₁ bump ss s) where
  module _ (path : ℕ → ℕ) (k : Known path spans rows ss s run.path) where
    owned₁ : Owned path spans₁ rows₁ ss
    owned₁ = kept_owned path spans rows spans₁ rows₁ ss m.kept k.owned

    opens : Open spans₁ rows₁ s (row_of run)
    opens = open_at path spans₁ rows₁ bump ss s (row_of run) m.placed.parts owned₁ d.one (omega (arith, k.own, k.low)) m.room (sound_run run f)

    counted : (used had has : ℕ) → used ≡ old.used + has - had → had ≡ (span_at spans₁ s).many → has ≡ (span_at (spans_laid spans₁ rows₁ s (row_of run)) s).many
        → used ≡ length (gather (spans_laid spans₁ rows₁ s (row_of run)) (rows_laid spans₁ rows₁ s (row_of run)) ss)
    counted used had has e h a =
        let n = lay_count path spans₁ rows₁ bump ss s (row_of run) m.placed.parts owned₁ d.one m.room (sound_run run f) (sym k.own) in
        let g : length (gather spans₁ rows₁ ss) ≡ length (gather spans rows ss) = ap length (kept_gather spans rows spans₁ rows₁ ss m.kept) in
        omega (arith, n, g, d.used)

  pub opens_so : Some spans rows ss s run.path → Open spans₁ rows₁ s (row_of run)
  opens_so k = opens k.0 k.1

  -- the sums stay small
  pub sums_so : Some spans rows ss s run.path → (spans₂ : List Span) (had has : ℕ) → spans₂ ≡ spans_laid spans₁ rows₁ s (row_of run)
      → had ≡ (span_at spans₁ s).many → has ≡ (span_at spans₂ s).many → (old.used + has ≤ 8192) × (had ≤ old.used + has)
  sums_so (path, k) spans₂ had has es h a =
      let w = owned₁ path k in
      let q = lay_parts path spans₁ rows₁ bump ss s (row_of run) m.placed.parts w d.one m.room (sound_run run f) (sym k.own) in
      let n = lay_count path spans₁ rows₁ bump ss s (row_of run) m.placed.parts w d.one m.room (sound_run run f) (sym k.own) in
      let g : length (gather spans₁ rows₁ ss) ≡ length (gather spans rows ss) = ap length (kept_gather spans rows spans₁ rows₁ ss m.kept) in
      let b : has ≡ (span_at (spans_laid spans₁ rows₁ s (row_of run)) s).many = a ∙ ap (λ (x : List Span). (span_at x s).many) es in
      (omega (arith, b, d.used, d.placed.few, (q.part s d.one).many, (q.part s d.one).room, q.top), omega (arith, b, n, g, d.used))

  pub slot_in : s < length spans₁
  slot_in = omega (arith, m.placed.parts.slots, (m.placed.parts.part s d.one).slot)

  -- the extents with the run laid over them
  pub laid_so : (spans₂ : List Span) (rows₂ : List (List ℕ)) (used had has : ℕ) → spans₂ ≡ spans_laid spans₁ rows₁ s (row_of run) → rows₂ ≡ rows_laid spans₁ rows₁ s (row_of run)
      → used ≡ old.used + has - had → had ≡ (span_at spans₁ s).many → has ≡ (span_at spans₂ s).many
      → Turns spans rows spans₂ rows₂ (room bump used) ss s run.path (lay run (gather spans rows ss))
  laid_so spans₂ rows₂ used had has es er e h a path k =
      let q = m.placed.parts in
      let w = owned₁ path k in
      let z : gather (spans_laid spans₁ rows₁ s (row_of run)) (rows_laid spans₁ rows₁ s (row_of run)) ss ≡ lay run (gather spans rows ss) =
      gather_lay path spans₁ rows₁ bump ss s (row_of run) q w d.one m.room (sound_run run f) (sym k.own) k.rising
      ∙ ap (lay run) (kept_gather spans rows spans₁ rows₁ ss m.kept) in
      rw (es, er) (record {
        parts = lay_parts path spans₁ rows₁ bump ss s (row_of run) q w d.one m.room (sound_run run f) (sym k.own);
        owned = lay_owned path spans₁ rows₁ bump ss s (row_of run) q w d.one m.room (sound_run run f) (sym k.own);
        all = z;
        used = counted path k used had has e h (a ∙ ap (λ (x : List Span). (span_at x s).many) es) ∙ ap length z;
      })

-- ---- no extents

module _ {spans : List Span} {rows : List (List ℕ)} {ss : List ℕ} {s : ℕ} {old : Room} (d : Stands spans rows old ss s) where
  pub slot_there : s < length spans
  slot_there = omega (arith, d.placed.parts.slots, (d.placed.parts.part s d.one).slot)

  -- the slot has no more rows than there are extents
  pub many_most : {p : ℕ} → Some spans rows ss s p → (had : ℕ) → had ≡ (span_at spans s).many → had ≤ old.used
  many_most (path, k) had h = omega (arith, clear_count path spans rows old.bump ss s d.placed k.owned d.one, d.used)

  pub cleared_so : (spans₁ : List Span) (p used had : ℕ) → spans₁ ≡ set spans s (with (span_at spans s) 0) → used ≡ old.used - had → had ≡ (span_at spans s).many
      → Turns spans rows spans₁ rows (room old.bump used) ss s p (others p (gather spans rows ss))
  cleared_so spans₁ p used had e u h path k =
      let z : gather (set spans s (with (span_at spans s) 0)) rows ss ≡ others p (gather spans rows ss) =
      gather_clear path spans rows old.bump ss s d.placed k.owned d.one k.rising ∙ ap (λ (x : ℕ). others x (gather spans rows ss)) k.own in
      rw e (record {
        parts = (clear_placed path spans rows old.bump ss s d.placed k.owned d.one).parts;
        owned = clear_owned path spans rows old.bump ss s d.placed k.owned d.one;
        all = z;
        used = omega (arith, clear_count path spans rows old.bump ss s d.placed k.owned d.one, d.used) ∙ ap length z;
      })
