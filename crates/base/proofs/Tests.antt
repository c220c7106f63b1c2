-- What a test that holds says, and when it holds.
use mathlib.Core.Path.{◌≡◌, refl, sym, subst}
use mathlib.Core.Logic.{◌≢◌, ◌⊎◌, inl, inr}
use mathlib.Core.Bool.{Bool, true, false, not, ◌&&◌, ◌||◌}
use Prim.Native.Nat.{ℕ, ◌≤◌, ◌<◌}
use native.Mathlib.Omega.{arith}
use lib.Dec.{T, eqb, ltb, leb, eqb→eq, eqb_refl, ltb→lt, lt→ltb, leb→le, le→leb, nltb→le}

pub T-yes : (b : Bool) → b ≡ true → T b
T-yes b e = subst T (sym e) tt

pub is_true : (b : Bool) → T b → b ≡ true
is_true true t = refl
is_true false t = absurd t

pub is_false : (b : Bool) → (T b → ⊥) → b ≡ false
is_false true f = absurd (f tt)
is_false false f = refl

pub not_both : (b : Bool) → b ≡ false → T b → ⊥
not_both b e t = subst T e t

pub T-not→ : (b : Bool) → T (not b) → T b → ⊥
T-not→ true p q = p
T-not→ false p q = q

pub →T_not : (b : Bool) → (T b → ⊥) → T (not b)
→T_not true f = f tt
→T_not false f = tt

pub T-ext : (a b : Bool) → (T a → T b) → (T b → T a) → a ≡ b
T-ext true true f g = refl
T-ext true false f g = absurd (f tt)
T-ext false true f g = absurd (g tt)
T-ext false false f g = refl

pub T-dec : (b : Bool) → T b ⊎ (T b → ⊥)
T-dec true = inl tt
T-dec false = inr (λ t. t)

pub and_l : (a b : Bool) → T (a && b) → T a
and_l true b t = tt
and_l false b t = t

pub and_r : (a b : Bool) → T (a && b) → T b
and_r true b t = t
and_r false b t = absurd t

pub and_i : (a b : Bool) → T a → T b → T (a && b)
and_i true b s t = t
and_i false b s t = s

pub or_l : (a b : Bool) → T a → T (a || b)
or_l true b t = tt
or_l false b t = absurd t

pub or_r : (a b : Bool) → T b → T (a || b)
or_r true b t = tt
or_r false b t = t

pub or_cases : (a b : Bool) → T (a || b) → T a ⊎ T b
or_cases true b t = inl tt
or_cases false b t = inr t

pub eqb_of : {m n : ℕ} → m ≡ n → T (eqb m n)
eqb_of {m} e = subst (λ (k : ℕ). T (eqb m k)) e (eqb_refl m)

pub not_eqb : (a b : ℕ) → T (not (eqb a b)) → a ≢ b
not_eqb a b t e = T-not→ (eqb a b) t (eqb_of e)

pub →not_eqb : (a b : ℕ) → a ≢ b → T (not (eqb a b))
→not_eqb a b f = →T_not (eqb a b) (λ t. f (eqb→eq a b t))

pub eq_or : (a b : ℕ) → (a ≡ b) ⊎ (a ≢ b)
eq_or a b = go (T-dec (eqb a b))
  where
    go : T (eqb a b) ⊎ (T (eqb a b) → ⊥) → (a ≡ b) ⊎ (a ≢ b)
    go (inl t) = inl (eqb→eq a b t)
    go (inr f) = inr (λ e. f (eqb_of e))

pub lt_or : (a b : ℕ) → (a < b) ⊎ (b ≤ a)
lt_or a b = go (T-dec (ltb a b))
  where
    go : T (ltb a b) ⊎ (T (ltb a b) → ⊥) → (a < b) ⊎ (b ≤ a)
    go (inl t) = inl (ltb→lt a b t)
    go (inr f) = inr (nltb→le a b (→T_not (ltb a b) f))

-- two constructors are never equal: `cc` proves the premise from an equation of theirs
pub zero_one : ◌≡◌ {A = ℕ} 0 1 → ⊥
zero_one e = omega arith

-- facts from a test, and a test from facts
pub ruleset tests = (and_l, and_r, eqb→eq, not_eqb, ltb→lt, leb→le, T-not→)

pub ruleset makes = (and_i, eqb_of, →not_eqb, lt→ltb, le→leb, →T_not)
