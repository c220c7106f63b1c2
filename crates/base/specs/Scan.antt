-- Scans over the places 0 .. n - 1. Each recurs with the last place outside, so the lowest place wins, and an upward loop's
-- invariant is the scan of the places passed.
use Rattle.std.specs.Prelude.{ℕ, zero, suc, Bool, true, false, cond, ◌&&◌, ◌||◌, List, [], ◌∷◌, ◌++◌}
use Rattle.std.proofs.Math.Option.{Option, none, some}

-- some place below n passes
unfoldable pub any : ℕ → (ℕ → Bool) → Bool
any zero p = false
any (suc n) p = any n p || p n

-- the lowest place below n that passes
unfoldable pub first : ℕ → (ℕ → Bool) → Option ℕ
first zero p = none
first (suc n) p = elim (first n p) [ some i ↦ some i | none ↦ cond (p n) (some n) none ]

-- the places below n that pass, ascending
unfoldable pub places : ℕ → (ℕ → Bool) → List ℕ
places zero p = []
places (suc n) p = places n p ++ cond (p n) (n ∷ []) []

-- every element passes
unfoldable pub all_of : {A : Type 0} → (A → Bool) → List A → Bool
all_of p [] = true
all_of p (x ∷ xs) = p x && all_of p xs

-- some element passes
unfoldable pub any_of : {A : Type 0} → (A → Bool) → List A → Bool
any_of p [] = false
any_of p (x ∷ xs) = p x || any_of p xs
