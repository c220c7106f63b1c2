-- A refusal is its number and its place: no second one has both.
use Prim.Native.Nat.{ℕ}
use mathlib.Core.Path.{◌≡◌, refl, sym, ap₂, ◌∙◌}
use Rattle.base.specs.Choice.{if_eq, if_true}
use Rattle.meaning.specs.declared.Refusal.{Refusal}
use Rattle.meaning.specs.declared.Refusal.TheVariants as refused
use Rattle.meaning.specs.Answer.{address, block, number, number_of, place_of}

-- the refusal of a number and a place
refusal_of : ℕ → ℕ → Refusal
refusal_of n p =
    if_eq n 1 refused.Geometry
    (if_eq n 2 (refused.Tag (block p))
    (if_eq n 3 (refused.Path (block p))
    (if_eq n 4 (refused.Copies (block p))
    (if_eq n 5 refused.Boot
    (if_eq n 6 refused.Log
    (if_eq n 7 (refused.Page (address p))
    (if_eq n 8 (refused.Message (address p))
    (if_eq n 9 (refused.Full (address p))
    (if_eq n 10 (refused.Data p)
    (if_eq n 11 refused.Unsettled
    (if_eq n 12 (refused.NoBlock (number p))
    (if_eq n 13 (refused.NoRoom p)
    (if_eq n 14 (refused.NoFile p)
    (refused.Dump p))))))))))))))

back : (r : Refusal) → refusal_of (number_of r) (place_of r) ≡ r
unfolding number_of place_of refusal_of if_eq if_true
back refused.Geometry = refl
back (refused.Tag b) = refl
back (refused.Path b) = refl
back (refused.Copies b) = refl
back refused.Boot = refl
back refused.Log = refl
back (refused.Page a) = refl
back (refused.Message a) = refl
back (refused.Full a) = refl
back (refused.Data p) = refl
back refused.Unsettled = refl
back (refused.NoBlock k) = refl
back (refused.NoRoom n) = refl
back (refused.NoFile p) = refl
back (refused.Dump l) = refl

pub one_refusal : (a b : Refusal) → number_of a ≡ number_of b → place_of a ≡ place_of b → a ≡ b
one_refusal a b e f = sym (back a) ∙ ap₂ refusal_of e f ∙ back b
