-- Laws of the choices.
use mathlib.Core.Path.{◌≡◌, refl, sym, subst}
use mathlib.Core.Bool.{Bool, true, false, not}
use mathlib.Core.Option.{Option, none, some}
use Prim.Native.Nat.{ℕ, ◌≤◌, ◌<◌}
use lib.Dec.{T, eqb, ltb}
use borrow.Author.Tests.{lt-ltb, le-ltb, eq-eqb, ne_eqb, ltb-true, ltb-false, eqb-true, eqb-false}
use Rattle.base.specs.Choice.{if_true, if_less, if_eq, bind, on_some, is_some, test, or_else, provided}
use Rattle.base.specs.Member.{On}
use Rattle.base.proofs.Tests.{zero_one}

-- ---- by what the test says

module _ {A : Type 0} where
  pub if_yes : (b : Bool) (x y : A) → T b → if_true b x y ≡ x
  unfolding if_true
  if_yes true x y t = refl
  if_yes false x y t = absurd t

  pub if_no : (b : Bool) (x y : A) → (T b → ⊥) → if_true b x y ≡ y
  unfolding if_true
  if_no true x y f = absurd (f tt)
  if_no false x y f = refl

  pub less_yes : (a b : ℕ) (x y : A) → a < b → if_less a b x y ≡ x
  unfolding if_less if_true
  less_yes a b x y h = rw (lt-ltb a b h)

  pub less_no : (a b : ℕ) (x y : A) → b ≤ a → if_less a b x y ≡ y
  unfolding if_less if_true
  less_no a b x y h = rw (le-ltb a b h)

  pub eq_yes : (a b : ℕ) (x y : A) → a ≡ b → if_eq a b x y ≡ x
  unfolding if_eq if_true
  eq_yes a b x y h = rw (eq-eqb a b h)

  pub eq_no : (a b : ℕ) (x y : A) → (a ≡ b → ⊥) → if_eq a b x y ≡ y
  unfolding if_eq if_true
  eq_no a b x y h = rw (ne_eqb a b h)

-- ---- what holds at each end of a choice holds of the choice. The first argument is what is to hold.

module _ {A : Type 0} (P : A → Type 0) where
  pub all_true : (b : Bool) (x y : A) → (b ≡ true → P x) → (b ≡ false → P y) → P (if_true b x y)
  unfolding if_true
  all_true true x y f g = f refl
  all_true false x y f g = g refl

  pub all_less : (a b : ℕ) (x y : A) → (a < b → P x) → (b ≤ a → P y) → P (if_less a b x y)
  unfolding if_less
  all_less a b x y f g = all_true (ltb a b) x y (λ e. f (ltb-true a b e)) (λ e. g (ltb-false a b e))

  pub all_eq : (a b : ℕ) (x y : A) → (a ≡ b → P x) → ((a ≡ b → ⊥) → P y) → P (if_eq a b x y)
  unfolding if_eq
  all_eq a b x y f g = all_true (eqb a b) x y (λ e. f (eqb-true a b e)) (λ e. g (eqb-false a b e))

  pub all_bind : {B : Type 0} (v : B) (k : B → A) → P (k v) → P (bind v k)
  unfolding bind
  all_bind v k p = p

  pub all_some : {B : Type 0} (o : Option B) (z : A) (k : B → A) → (o ≡ none → P z) → ((x : B) → o ≡ some x → P (k x)) → P (on_some o z k)
  unfolding on_some
  all_some none z k f g = f refl
  all_some (some x) z k f g = g x refl

-- ---- values that are there

pub test→ : {A : Type 0} (q : A → Bool) (o : Option A) (x : A) → o ≡ some x → T (test q o) → T (q x)
unfolding test
test→ q o x e t = subst (λ (y : Option _). T (test q y)) e t

pub →test : {A : Type 0} (q : A → Bool) (o : Option A) (x : A) → o ≡ some x → T (q x) → T (test q o)
unfolding test
→test q o x e t = rw e t

pub test_none : {A : Type 0} (q : A → Bool) (o : Option A) → o ≡ none → T (test q o) → ⊥
unfolding test
test_none q o e t = subst (λ (y : Option _). T (test q y)) e t

pub none_of : {A : Type 0} (o : Option A) → is_some o ≡ false → o ≡ none
unfolding is_some
none_of none t = refl
none_of (some x) t = absurd (subst (λ (b : Bool). T (not b)) (sym t) tt)

-- ---- a chain of what may be there is empty where each is

pub or_else_l : {A : Type 0} (a b : Option A) → or_else a b ≡ none → a ≡ none
unfolding or_else
or_else_l none b e = refl
or_else_l (some r) b e = e

pub or_else_r : {A : Type 0} (a b : Option A) → or_else a b ≡ none → b ≡ none
unfolding or_else
or_else_r none b e = e
or_else_r (some r) b e = cc

pub or_else_i : {A : Type 0} (a b : Option A) → a ≡ none → b ≡ none → or_else a b ≡ none
unfolding or_else
or_else_i a b p q = rw p q

pub provided_none : {A : Type 0} (b : Bool) (x : A) → provided b x ≡ none → T b → ⊥
unfolding provided
provided_none true x e t = zero_one (cc)
provided_none false x e t = t

pub →provided_none : {A : Type 0} (b : Bool) (x : A) → (T b → ⊥) → provided b x ≡ none
unfolding provided
→provided_none true x f = absurd (f tt)
→provided_none false x f = refl

pub on_provided : {A : Type 0} (Q : A → Type 0) (b : Bool) (x : A) → (T b → Q x) → On Q (provided b x)
unfolding provided
on_provided Q true x f = f tt
on_provided Q false x f = tt
