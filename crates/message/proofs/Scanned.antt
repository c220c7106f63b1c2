-- std's scans of a list, as `all_of` of the definitions.
use Rattle.std.proofs.Common.{◌≡◌, refl, ap, ℕ, Bool, true, false, ◌&&◌, List, [], ◌∷◌, ◌<◌, length, get_or, eqb, arith}
use Rattle.std.specs.List.{list_all, fold}
use Rattle.base.specs.Scan.{all_of}
use Rattle.meaning.specs.Flash.{blank}

pub all_same : (p : ℕ → Bool) (l : List ℕ) → list_all p l ≡ all_of p l
unfolding all_of
all_same p [] = refl
all_same p (x ∷ xs) = ap (λ b. p x && b) (all_same p xs)

-- a fold that has no way out but its end
fold_same : (p : ℕ → Bool) (l : List ℕ) (b : Bool) → fold (λ a x. a && p x) b l ≡ (b && all_of p l)
unfolding all_of
fold_same p [] true = refl
fold_same p [] false = refl
fold_same p (x ∷ xs) true = fold_same p xs (p x)
fold_same p (x ∷ xs) false = fold_same p xs false

pub blank_fold : (l : List ℕ) → fold (λ same b. same && eqb b 0xff) true l ≡ blank l
unfolding blank
blank_fold l = fold_same _ l true

pub blank_first : (l : List ℕ) → 0 < length l → eqb (get_or l 0 0) 0xff ≡ false → blank l ≡ false
unfolding blank all_of
blank_first [] h e = absurd (omega arith)
blank_first (x ∷ xs) h e = ap (λ b. b && all_of (λ c. eqb c 0xff) xs) e
