-- Tests as equations: what a test says of the definition's Bool, in either order of the code's tests. With `sure` in its list,
-- `search` goes through `&&`, `||` and `not` by what the code has tested.
use mathlib.Core.Path.{◌≡◌, refl, sym, ap, ◌∙◌}
use mathlib.Core.Bool.{Bool, true, false, not, ◌&&◌, ◌||◌}
use Prim.Native.Nat.{ℕ, ◌≤◌, ◌<◌}
use lib.Dec.{eqb, ltb, leb}
use borrow.Author.Tests.{lt-ltb, le-ltb, le-leb, lt-leb, eq-eqb, ne_eqb, not-true, not-false}

-- the code's answer v, which it looked at
pub told : {v : Bool} (b t : Bool) → v ≡ b → v ≡ t → t ≡ b
told b t e f = sym f ∙ e

pub and_no : (a b : Bool) → false ≡ a → false ≡ (a && b)
and_no a b e = rw (← e)

pub and_no_r : (a b : Bool) → false ≡ b → false ≡ (a && b)
and_no_r true b e = e
and_no_r false b e = refl

pub and_on : {r : Bool} (a b : Bool) → true ≡ a → r ≡ b → r ≡ (a && b)
and_on a b e f = rw (← e) f

pub and_on_r : {r : Bool} (a b : Bool) → r ≡ a → true ≡ b → r ≡ (a && b)
and_on_r true b f e = f ∙ e
and_on_r false b f e = f

pub or_yes : (a b : Bool) → true ≡ a → true ≡ (a || b)
or_yes a b e = rw (← e)

pub or_yes_r : (a b : Bool) → true ≡ b → true ≡ (a || b)
or_yes_r true b e = refl
or_yes_r false b e = e

pub or_on : {r : Bool} (a b : Bool) → false ≡ a → r ≡ b → r ≡ (a || b)
or_on a b e f = rw (← e) f

pub not_yes : (a : Bool) → false ≡ a → true ≡ not a
not_yes a e = ap not e

pub not_no : (a : Bool) → true ≡ a → false ≡ not a
not_no a e = ap not e

pub not_is : {v : Bool} (a : Bool) → v ≡ a → not v ≡ not a
not_is a e = ap not e

-- x is the code's number for a
module _ {x : ℕ} (a b : ℕ) (e : x ≡ a) where
  pub eq_sure : x ≡ b → true ≡ eqb a b
  eq_sure h = sym (eq-eqb a b (sym e ∙ h))

  pub ne_sure : (x ≡ b → ⊥) → false ≡ eqb a b
  ne_sure h = sym (ne_eqb a b (λ q. h (e ∙ q)))

-- y is the code's number for b
module _ {y : ℕ} (a b : ℕ) (e : y ≡ b) where
  pub eq_right : a ≡ y → true ≡ eqb a b
  eq_right h = sym (eq-eqb a b (h ∙ e))

  pub ne_right : (a ≡ y → ⊥) → false ≡ eqb a b
  ne_right h = sym (ne_eqb a b (λ q. h (q ∙ sym e)))

pub eq_here : (a b : ℕ) → a ≡ b → true ≡ eqb a b
eq_here a b h = sym (eq-eqb a b h)

pub ne_here : (a b : ℕ) → (a ≡ b → ⊥) → false ≡ eqb a b
ne_here a b h = sym (ne_eqb a b h)

pub le_sure : (a b : ℕ) → a ≤ b → true ≡ leb a b
le_sure a b h = sym (le-leb a b h)

pub gt_sure : (a b : ℕ) → b < a → false ≡ leb a b
gt_sure a b h = sym (lt-leb a b h)

pub lt_sure : (a b : ℕ) → a < b → true ≡ ltb a b
lt_sure a b h = sym (lt-ltb a b h)

pub ge_sure : (a b : ℕ) → b ≤ a → false ≡ ltb a b
ge_sure a b h = sym (le-ltb a b h)

-- a test that ended a chain of `&&` is its value

pub eq_fails : {r : Bool} (a b : ℕ) → (a ≡ b → ⊥) → false ≡ r → eqb a b ≡ r
eq_fails a b h e = ne_eqb a b h ∙ e

pub lt_fails : {r : Bool} (a b : ℕ) → b ≤ a → false ≡ r → ltb a b ≡ r
lt_fails a b h e = le-ltb a b h ∙ e

pub le_fails : {r : Bool} (a b : ℕ) → b < a → false ≡ r → leb a b ≡ r
le_fails a b h e = lt-leb a b h ∙ e

pub ne_fails : {r : Bool} (a b : ℕ) → a ≡ b → false ≡ r → not (eqb a b) ≡ r
ne_fails a b h e = ap not (eq-eqb a b h) ∙ e

pub fails : {v r : Bool} → v ≡ false → false ≡ r → v ≡ r
fails h e = h ∙ e

pub ruleset sure = (told, eq_fails, lt_fails, le_fails, ne_fails, and_no, and_no_r, and_on, and_on_r, or_yes, or_yes_r, or_on, not_yes, not_no, not_is, eq_sure, ne_sure, eq_right, ne_right, eq_here, ne_here, le_sure, gt_sure, lt_sure, ge_sure, not-true, not-false)
