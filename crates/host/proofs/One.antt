-- No second outcome fits: two answers, and the tables that they leave, that meet the promise of `chimecorona_mount` for the same input agree in
-- all that is shown.
-- Assumes nothing.
use mathlib.Core.Path.{◌≡◌, refl, sym, ap, subst, ◌∙◌}
use mathlib.Core.List.{List}
use Prim.Native.Nat.{ℕ}
use lib.ListN.{take}
use Rattle.base.proofs.Tests.{zero_one}
use Rattle.meaning.specs.declared.Extent.{Extent}
use Rattle.meaning.specs.declared.Geometry.{Geometry}
use Rattle.meaning.specs.declared.Record.{Record}
use Rattle.std.specs.Prelude.{Result, Ok, Err, ⊤}
use Rattle.meaning.specs.declared.Refusal.{Refusal}
use Rattle.meaning.specs.Answer.{Answer, answer_by, ok, no}
use Rattle.outcome.specs.Outcome.{outcome_of, said_of}
use Rattle.meaning.specs.Flash.{Lent, image_of}
use Rattle.meaning.specs.Mount as meaning
use Rattle.meaning.specs.Mount.{mount_into, table_after}
use Rattle.used.specs.Bits.{listed, used_bits}
use Rattle.answer.specs.declared.Mounted.{Mounted}
use Rattle.answer.specs.Mounted.{insertion_of, mounted, stands_for, Sizes, Sized}

-- ---- an answer by its parts

abbrev how : Answer meaning.Mounted → Result ⊤ Refusal
how (ok a) = Ok tt
how (no r) = Err r

pub accepted : (x : Result ⊤ Refusal) (m a : meaning.Mounted) → answer_by (λ _. m) x ≡ ok a → (x ≡ Ok tt) × (m ≡ a)
accepted (Ok x) m a e = (refl, cc)
accepted (Err r) m a e = absurd (cc)

said_is : (x : Result ⊤ Refusal) (m : meaning.Mounted) → how (answer_by (λ _. m) x) ≡ x
said_is (Ok x) m = refl
said_is (Err r) m = refl

-- ---- two outcomes

module _ (g : Geometry) (l : Lent) (before : List Record) (r r' : Mounted) (after after' : List Record)
    (t : after ≡ table_after g l before) (t' : after' ≡ table_after g l before)
    (a : stands_for r after ≡ mount_into g l before) (a' : stands_for r' after' ≡ mount_into g l before)
    (s : Sized g l r) (s' : Sized g l r') where
  pub one_table : after ≡ after'
  one_table = t ∙ sym t'

  pub one_answer : stands_for r after ≡ stands_for r' after'
  one_answer = a ∙ sym a'

  same_said : said_of r.said ≡ said_of r'.said
  same_said = sym (said_is (said_of r.said) (mounted r after)) ∙ ap how one_answer ∙ said_is (said_of r'.said) (mounted r' after')

  -- accepted, or refused with the same number and place
  pub one_said : r.said ≡ r'.said
  one_said = s.1 ∙ ap outcome_of same_said ∙ sym s'.1

  -- records, extents, counts, erase list and insertion point
  pub one_shown : said_of r.said ≡ Ok tt → mounted r after ≡ mounted r' after'
  one_shown e =
      (accepted (said_of r.said) (mounted r after) (mounted r' after')
      (one_answer ∙ ap (λ (x : Result ⊤ Refusal). answer_by (λ _. mounted r' after') x) (sym same_said ∙ e))).1

  pub one_insertion : said_of r.said ≡ Ok tt → r.insertion ≡ r'.insertion
  one_insertion e = s.2 ∙ ap insertion_of (ap (λ (m : meaning.Mounted). m.insert) (one_shown e)) ∙ sym s'.2

  used_is : (q : Mounted) → Sized g l q → said_of q.said ≡ Ok tt → q.used ≡ listed 1024 (used_bits g (image_of g l).labels (take q.runs q.extents))
  used_is q z e = (subst (λ (x : Result ⊤ Refusal). Sizes x g l q) e z.0).3

  pub one_used : said_of r.said ≡ Ok tt → r.used ≡ r'.used
  one_used e =
      used_is r s e ∙ ap (λ (xs : List Extent). listed 1024 (used_bits g (image_of g l).labels xs)) (ap (λ (m : meaning.Mounted). m.tree.extents) (one_shown
      e))
      ∙ sym (used_is r' s' (sym same_said ∙ e))
