-- A scan with no way out but its end: whether a path is there at all.
use Prim.Native.Nat.{ℕ, ◌+◌, ◌≤◌}
use native.Mathlib.Numerals.{add-one}
use native.Mathlib.Omega.{arith}
use mathlib.Core.Bool.{Bool, true, false, ◌||◌}
use mathlib.Core.Path.{◌≡◌, refl, sym, ◌∙◌}
use mathlib.Core.List.{List}
use lib.Dec.{eqb}
use lib.ListN.{length, get_or}
use Rattle.base.specs.Scan.{any}
use Rattle.base.proofs.Tests.{and_r, is_false, not_both}
use Rattle.base.proofs.Scans.{Found, any_intro, any_elim}
use Rattle.meaning.specs.declared.Tag.{Tag}
use Rattle.meaning.specs.Flash.{labels_of, same_tag}
use Rattle.label.specs.Search.{labelled}

pub or_yes : (h : Bool) {t : Bool} → t ≡ true → true ≡ (h || t)
or_yes true e = refl
or_yes false e = sym e

pub or_no : (h : Bool) {t : Bool} → t ≡ false → h ≡ (h || t)
or_no true e = refl
or_no false e = sym e

pub any_none : (p : ℕ → Bool) → false ≡ any 0 p
unfolding any
any_none p = refl

-- one place more
pub any_more : (p : ℕ → Bool) (i : ℕ) {h v : Bool} → h ≡ any i p → v ≡ (h || p i) → v ≡ any (i + 1) p
unfolding any
any_more p i e f = f ∙ rw (add-one, e)

-- no path, no label
pub none_labelled : (tags paths : List ℕ) (t : Tag) (path : ℕ) {v : Bool} → length tags ≤ length paths
    → v ≡ any (length paths) (λ i. eqb (get_or paths i 0) path) → v ≡ false → false ≡ any (length tags) (labelled (labels_of tags paths) t path)
unfolding labelled labels_of
none_labelled tags paths t path h e f =
    sym (is_false _ (λ u.
    let s : Found (length tags) (labelled (labels_of tags paths) t path) = any_elim _ _ u in
    not_both _ (sym e ∙ f) (any_intro (length paths) (λ i. eqb (get_or paths i 0) path) s.place (omega (arith, s.below)) (and_r (same_tag ((labels_of tags paths).tag s.place) t) _ s.passes))))
