-- Steps and their numbers.
-- Assumes nothing.
use Prim.Native.Nat.{ℕ, ◌+◌, ◌<◌, ◌≤◌}
use mathlib.Core.Path.{◌≡◌, refl, sym}
use mathlib.Core.List.{List, [], ◌∷◌, map}
use native.Mathlib.Omega.{arith}
use lib.ListN.{length, take, set, get_or}
use Rattle.std.proofs.lemmas.List.{length-take}
use Rattle.base.proofs.Lists.{map_on}
use Rattle.base.proofs.Ways.{yes=, no=}
use Rattle.meaning.specs.declared.Step.{Step}
use Rattle.meaning.specs.declared.Step.TheVariants.{Erase, PageWrite, LabelWrite}
use Rattle.reclaim.specs.declared.steps.Steps.{Steps}
use Rattle.reclaim.specs.Reclaimed.{steps_in}
use Rattle.action.specs.declared.Action.{Action}
use Rattle.action.specs.Action.{action_of, step_of}

-- the numbers of a step say that step
pub back : (s : Step) → step_of (action_of s) ≡ s
unfolding step_of
back (Erase b) = sym (yes= 1 1 _ _ refl refl)
back (PageWrite from to page) = sym (no= 2 1 _ _ (λ h. omega (arith, h)) (yes= 2 2 _ _ refl refl))
back (LabelWrite b tag path) = sym (no= 3 1 _ _ (λ h. omega (arith, h)) (no= 3 2 _ _ (λ h. omega (arith, h)) (yes= 3 3 _ _ refl refl)))

pub all_back : (ss : List Step) → map step_of (map action_of ss) ≡ ss
all_back [] = refl
all_back (s ∷ ss) = λ i. back s i ∷ all_back ss i

-- steps in numbers one by one: there are at most 35, and one more
pub few : (l : Steps) (xs : List Step) → xs ≡ steps_in l → length xs ≤ 35
few l xs e = rw e (omega (arith, length-take l.count l.steps, l.whole.0))

pub next_said : (xs : List Step) (ys : List Action) (k : ℕ) (v : Action) (d : Step) → k < length ys → k < length xs → v ≡ action_of (get_or xs k d)
    → take k ys ≡ map action_of (take k xs) → take (k + 1) (set ys k v) ≡ map action_of (take (k + 1) xs)
next_said xs ys k v d h m e p = rw e (map_on action_of d xs ys k p h m)
