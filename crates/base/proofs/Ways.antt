-- Ways through the choices of a definition. At each choice: what the test said, and the way on. With `ways` in its list, `search` finds
-- the way by what a need is handed, where the code tests what the definition tests. Arguments written `_` come from the goal.
use mathlib.Core.Path.{◌≡◌, refl, sym, ◌∙◌}
use mathlib.Core.Bool.{Bool, true, false}
use Prim.Native.Nat.{ℕ, ◌≤◌, ◌<◌}
use borrow.Author.Tests.{lt-ltb, le-ltb, eq-eqb, ne_eqb, not-true, not-false}
use Rattle.base.specs.Choice.{if_true, if_less, if_eq, bind}

module _ {A : Type 0} where
  pub yes : {r : A} {v : Bool} (b : Bool) (x y : A) → v ≡ b → v ≡ true → r ≡ x → r ≡ if_true b x y
  unfolding if_true
  yes b x y f e p = rw (sym f ∙ e) p

  pub no : {r : A} {v : Bool} (b : Bool) (x y : A) → v ≡ b → v ≡ false → r ≡ y → r ≡ if_true b x y
  unfolding if_true
  no b x y f e p = rw (sym f ∙ e) p

  pub holds : {r : A} (b : Bool) (x y : A) → b ≡ true → r ≡ x → r ≡ if_true b x y
  holds b x y e p = yes b x y refl e p

  pub fails : {r : A} (b : Bool) (x y : A) → b ≡ false → r ≡ y → r ≡ if_true b x y
  fails b x y e p = no b x y refl e p

  pub yes< : {r : A} (a b : ℕ) (x y : A) → a < b → r ≡ x → r ≡ if_less a b x y
  unfolding if_less
  yes< a b x y h p = yes _ x y refl (lt-ltb a b h) p

  pub no< : {r : A} (a b : ℕ) (x y : A) → b ≤ a → r ≡ y → r ≡ if_less a b x y
  unfolding if_less
  no< a b x y h p = no _ x y refl (le-ltb a b h) p

  pub yes= : {r : A} (a b : ℕ) (x y : A) → a ≡ b → r ≡ x → r ≡ if_eq a b x y
  unfolding if_eq
  yes= a b x y h p = yes _ x y refl (eq-eqb a b h) p

  pub no= : {r : A} (a b : ℕ) (x y : A) → (a ≡ b → ⊥) → r ≡ y → r ≡ if_eq a b x y
  unfolding if_eq
  no= a b x y h p = no _ x y refl (ne_eqb a b h) p

  -- the code's result x stands for the definition's value v
  pub bound : {B : Type 0} {r : A} {x : B} (v : B) (k : B → A) → x ≡ v → r ≡ k x → r ≡ bind v k
  unfolding bind
  bound v k f p = rw (sym f) p

pub ruleset ways = (holds, fails, yes, no, yes<, no<, yes=, no=, bound, not-true, not-false)
