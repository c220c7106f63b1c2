-- Choices. Each is shut outside: a proof goes through one by a law of proofs/Ways.
use Rattle.std.specs.Prelude.{ℕ, Bool, true, false, ltb, eqb}
use Rattle.std.proofs.Math.Option.{Option, none, some}

-- x where the test holds, else y
unfoldable pub if_true : {A : Type 0} → Bool → A → A → A
if_true true x y = x
if_true false x y = y

-- x where a < b, else y
unfoldable pub if_less : {A : Type 0} → ℕ → ℕ → A → A → A
if_less a b x y = if_true (ltb a b) x y

-- x where a ≡ b, else y
unfoldable pub if_eq : {A : Type 0} → ℕ → ℕ → A → A → A
if_eq a b x y = if_true (eqb a b) x y

-- k of the value v, which k gives a name
unfoldable pub bind : {B A : Type 0} → B → (B → A) → A
bind v k = k v

-- k of the value that is there, else z
unfoldable pub on_some : {B A : Type 0} → Option B → A → (B → A) → A
on_some none z k = z
on_some (some x) z k = k x

-- a value is there
unfoldable pub is_some : {A : Type 0} → Option A → Bool
is_some none = false
is_some (some x) = true

-- a value is there and passes
unfoldable pub test : {A : Type 0} → (A → Bool) → Option A → Bool
test p none = false
test p (some x) = p x

-- the first of two that is there
unfoldable pub or_else : {A : Type 0} → Option A → Option A → Option A
or_else none o = o
or_else (some x) o = some x

-- x where the test holds
unfoldable pub provided : {A : Type 0} → Bool → A → Option A
provided true x = some x
provided false x = none

unfoldable pub or_zero : Option ℕ → ℕ
or_zero none = 0
or_zero (some n) = n
