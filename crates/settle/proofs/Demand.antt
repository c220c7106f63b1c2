-- Demand 3 of the very list that a settle answered: r is its answer, l what was lent, l' what it left.
use mathlib.Core.Path.{◌≡◌, sym, ap, subst, ◌∙◌}
use Rattle.std.specs.Prelude.{Result, Ok}
use Rattle.meaning.specs.declared.Geometry.{Geometry}
use Rattle.meaning.specs.declared.Refusal.{Refusal}
use Rattle.meaning.specs.Answer.{Answer, ok}
use Rattle.meaning.specs.Flash.{Lent}
use Rattle.meaning.specs.Mount.{Mounted, mount_of}
use Rattle.meaning.specs.Services.{do_steps, leaves, settle}
use Rattle.meaning.specs.Cut as meaning
use Rattle.meaning.specs.Cut.{Cut, Shows}
use Rattle.demand.proofs.Demand.{settle_cut, settle_whole, settle_runs}
use Rattle.used.specs.declared.Erase.{Erase}
use Rattle.settle.specs.Settled.{answer, steps_of}

module _ (g : Geometry) (l : Lent) (r : Result Erase Refusal) (e : answer r ≡ settle g l) (list : Erase) (w : r ≡ Ok list) where
  listed : settle g l ≡ ok (steps_of list)
  listed = sym e ∙ ap answer w

  -- the power goes at any moment of the answered list
  pub answered_cut : (a : Mounted) → mount_of g l ≡ ok a → (l' : Lent) → Cut g (steps_of list) l l' → Shows g l l' a
  answered_cut a m l' c = settle_cut g l a _ m listed l' c

  module _ (l' : Lent) (f : l' ≡ leaves g l (settle g l)) where
    -- with no cut, what is left has every listed block freed
    pub left_whole : (a : Mounted) → mount_of g l ≡ ok a → meaning.Settled g l l' a
    left_whole a m = subst (λ (x : Lent). meaning.Settled g l x a) (sym f) (settle_whole g l a m)

    -- "A whole run equals its list done in order"
    pub left_runs : do_steps g l (steps_of list) ≡ ok l'
    left_runs = settle_runs g l _ listed ∙ ap {B = Answer Lent} ok (sym f)
