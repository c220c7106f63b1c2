-- Demand 3 of the very list that a reclaim answered: r is its answer, l what was lent, l' what it left.
use Prim.Native.Nat.{ℕ}
use mathlib.Core.Path.{◌≡◌, sym, ap, subst, ◌∙◌}
use Rattle.std.specs.Prelude.{Result, Ok}
use Rattle.meaning.specs.declared.Geometry.{Geometry}
use Rattle.meaning.specs.declared.Refusal.{Refusal}
use Rattle.meaning.specs.Answer.{Answer, ok}
use Rattle.meaning.specs.Flash.{Lent}
use Rattle.meaning.specs.Mount.{Mounted, mount_of}
use Rattle.meaning.specs.Services.{do_steps, leaves, reclaim}
use Rattle.meaning.specs.Cut as meaning
use Rattle.meaning.specs.Cut.{Cut, Shows}
use Rattle.demand.proofs.Demand.{reclaim_cut, reclaim_whole, reclaim_runs}
use Rattle.reclaim.specs.declared.steps.Steps.{Steps}
use Rattle.reclaim.specs.Reclaimed.{answer, steps_in}

module _ (g : Geometry) (l : Lent) (d : ℕ) (r : Result Steps Refusal) (e : answer r ≡ reclaim g l d) (list : Steps) (w : r ≡ Ok list) where
  listed : reclaim g l d ≡ ok (steps_in list)
  listed = sym e ∙ ap answer w

  -- the power goes at any moment of the answered list
  pub answered_cut : (a : Mounted) → mount_of g l ≡ ok a → (l' : Lent) → Cut g (steps_in list) l l' → Shows g l l' a
  answered_cut a m l' c = reclaim_cut g l a d _ m listed l' c

  module _ (l' : Lent) (f : l' ≡ leaves g l (reclaim g l d)) where
    -- with no cut, what is left has one data block of the number, with its used pages and no other
    pub left_whole : (a : Mounted) → mount_of g l ≡ ok a → meaning.Reclaimed g l l' a d
    left_whole a m = subst (λ (x : Lent). meaning.Reclaimed g l x a d) (sym f) (reclaim_whole g l a d _ m listed)

    -- "A whole run equals its list done in order"
    pub left_runs : do_steps g l (steps_in list) ≡ ok l'
    left_runs = reclaim_runs g l d _ listed ∙ ap {B = Answer Lent} ok (sym f)
