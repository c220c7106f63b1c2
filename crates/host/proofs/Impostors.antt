-- Impostors of the mount: on the worked dump, with any table of 256 places, none of them keeps the promise.
-- Assumes nothing.
use mathlib.Core.Path.{◌≡◌, refl, sym, ap, ◌∙◌}
use mathlib.Core.List.{List, [], ◌∷◌}
use Prim.Native.Nat.{ℕ}
use native.Mathlib.Omega.{arith}
use lib.ListN.{length, take, get_or}
use Rattle.meaning.specs.declared.Record.{Record}
use Rattle.meaning.specs.declared.Refusal.{Refusal}
use Rattle.std.specs.Prelude.{Result, Ok, Err, ⊤}
use Rattle.meaning.specs.Answer.{Answer, answer_by, ok, no}
use Rattle.outcome.specs.Outcome.{said_of}
use Rattle.meaning.specs.Mount as meaning
use Rattle.meaning.specs.Mount.{mount_of, mount_into}
use Rattle.meaning.specs.Replay.{root}
use Rattle.meaning.proofs.Shown.{Dump, line, lent, lines}
use Rattle.table.proofs.Filled.{into_table}
use Rattle.answer.specs.declared.Mounted.{Mounted}
use Rattle.answer.specs.Mounted.{mounted, stands_for}

pub worked : Dump
worked = record {
  geometry = record { size = 256; pages = 4; blocks = 1 };
  tags = 0x06 ∷ [];
  paths = 0 ∷ [];
  pages =
      line 0 0 71 0x631f0000000000a4010000070000006400000000000000030077696e01006101006177210007000000000000000800c8000000000000000100613e000080010203040506070865
      ∷ [];
}

-- whether it is accepted, the number of records, and the messages applied and ignored
abbrev pub tally : Answer meaning.Mounted → List ℕ
tally (ok a) = 1 ∷ length a.tree.records ∷ a.tree.applied ∷ a.tree.ignored ∷ []
tally (no r) = 0 ∷ []

pub worked_tally : tally (mount_of worked.geometry (lent worked)) ≡ 1 ∷ 2 ∷ 2 ∷ 0 ∷ []
unfolding lines worked
worked_tally = refl

whole_tally : (x : Result ⊤ Refusal) (m : meaning.Mounted) → get_or (tally (answer_by (λ _. m) x)) 0 0 ≡ 1 → x ≡ Ok tt
whole_tally (Ok x) m e = refl
whole_tally (Err r) m e = absurd (omega (arith, e))

module _ (before : List Record) (places : length before ≡ 256) (r : Mounted) (after : List Record)
    (a : stands_for r after ≡ mount_into worked.geometry (lent worked) before) where
  tallied : tally (stands_for r after) ≡ 1 ∷ 2 ∷ 2 ∷ 0 ∷ []
  tallied = ap tally (a ∙ into_table worked.geometry (lent worked) before places) ∙ worked_tally

  accepts : said_of r.said ≡ Ok tt
  accepts = whole_tally (said_of r.said) (mounted r after) (ap (λ (xs : List ℕ). get_or xs 0 0) tallied)

  shows : tally (ok (mounted r after)) ≡ 1 ∷ 2 ∷ 2 ∷ 0 ∷ []
  shows = ap (λ (x : Result ⊤ Refusal). tally (answer_by (λ _. mounted r after) x)) (sym accepts) ∙ tallied

  -- one that refuses everything
  pub refuses_everything : (x : Refusal) → said_of r.said ≡ Err x → ⊥
  refuses_everything x e =
      let q : ◌≡◌ {A = ℕ} 1 0 = ap (λ (y : Result ⊤ Refusal). get_or (tally (answer_by (λ _. mounted r after) y)) 0 0) (sym accepts ∙ e) in
      omega (arith, q)

  -- one that shows a lone root for every image
  pub lone_root : take r.records after ≡ root ∷ [] → ⊥
  lone_root e =
      let two : length (take r.records after) ≡ 2 = ap (λ (xs : List ℕ). get_or xs 1 0) shows in
      let one : length (take r.records after) ≡ 1 = ap length e in
      omega (arith, one, two)

  -- one that invents its counts of messages
  pub invented_counts : (r.applied ≡ 2) × (r.ignored ≡ 0)
  invented_counts = (ap (λ (xs : List ℕ). get_or xs 2 0) shows, ap (λ (xs : List ℕ). get_or xs 3 0) shows)
