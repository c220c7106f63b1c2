-- A refusal's number and place say that refusal, and no other.
-- Assumes nothing.
use Prim.Native.Nat.{◌<◌}
use mathlib.Core.Path.{◌≡◌, refl, sym, ap}
use Rattle.std.specs.Prelude.{Result, Ok, Err, ⊤}
use Rattle.base.proofs.Ways.{yes=, no=}
use native.Mathlib.Omega.{arith}
use Rattle.meaning.specs.declared.Refusal.{Refusal}
use Rattle.meaning.specs.declared.Refusal.TheVariants as refused
use Rattle.meaning.specs.Answer.{number_of, place_of}
use Rattle.outcome.specs.Outcome.{outcome_of, refusal_of, said_of}

pub back : (r : Refusal) → refusal_of (number_of r) (place_of r) ≡ r
unfolding number_of place_of refusal_of
back refused.Geometry = refl
back (refused.Tag b) = refl
back (refused.Path b) = refl
back (refused.Copies b) = refl
back refused.Boot = refl
back refused.Log = refl
back (refused.Page a) = refl
back (refused.Message a) = refl
back (refused.Full a) = refl
back (refused.Data p) = refl
back refused.Unsettled = refl
back (refused.NoBlock k) = refl
back (refused.NoRoom n) = refl
back (refused.NoFile p) = refl
back (refused.Dump l) = refl

-- no refusal has the number 0
pub numbered : (r : Refusal) → 0 < number_of r
unfolding number_of
numbered refused.Geometry = omega arith
numbered (refused.Tag b) = omega arith
numbered (refused.Path b) = omega arith
numbered (refused.Copies b) = omega arith
numbered refused.Boot = omega arith
numbered refused.Log = omega arith
numbered (refused.Page a) = omega arith
numbered (refused.Message a) = omega arith
numbered (refused.Full a) = omega arith
numbered (refused.Data p) = omega arith
numbered refused.Unsettled = omega arith
numbered (refused.NoBlock k) = omega arith
numbered (refused.NoRoom n) = omega arith
numbered (refused.NoFile p) = omega arith
numbered (refused.Dump l) = omega arith

-- numbers say what they stand for
pub said_back : (x : Result ⊤ Refusal) → said_of (outcome_of x) ≡ x
unfolding said_of
said_back (Ok x) = sym (yes= 0 0 _ _ refl refl)
said_back (Err r) = sym (no= _ 0 _ _ (λ h. omega (arith, h, numbered r)) (ap {B = Result ⊤ Refusal} Err (sym (back r))))
