-- Laws of the scans.
use mathlib.Core.Path.{◌≡◌, refl, sym, ap₂, subst}
use mathlib.Core.Logic.{◌⊎◌, inl, inr, ⊎_elim}
use mathlib.Core.Bool.{Bool, true, false, cond}
use mathlib.Core.Option.{Option, none, some}
use mathlib.Core.List.{List, [], ◌∷◌, ◌++◌}
use Prim.Native.Nat.{ℕ, zero, suc, ◌<◌}
use native.Mathlib.Nat.{not-suc-le-zero, le_of_suc-le-suc, eq-or-lt_of_le, le_refl, le_step}
use lib.Dec.{T}
use Rattle.base.specs.Choice.{is_some}
use Rattle.base.specs.Scan.{any, first, places}
use Rattle.base.specs.Member.{All, In}
use Rattle.base.proofs.Tests.{T-yes, is_false, not_both, T-ext, or_l, or_r, or_cases}
use Rattle.base.proofs.Lists.{all_map, all_append, in_left, in_right, in_split}

-- ---- any

pub any_intro : (n : ℕ) (p : ℕ → Bool) (i : ℕ) → i < n → T (p i) → T (any n p)
unfolding any
any_intro zero p i h t = absurd (not-suc-le-zero h)
any_intro (suc n) p i h t =
    elim (eq-or-lt_of_le (le_of_suc-le-suc h)) [
      | inl e ↦ or_r (any n p) (p n) (subst (λ (k : ℕ). T (p k)) e t)
      | inr l ↦ or_l (any n p) (p n) (any_intro n p i l t)
    ]

pub record Found (n : ℕ) (p : ℕ → Bool) : Type 0 where
  pub place : ℕ
  pub below : place < n
  pub passes : T (p place)

pub any_elim : (n : ℕ) (p : ℕ → Bool) → T (any n p) → Found n p
unfolding any
any_elim zero p t = absurd t
any_elim (suc n) p t = go (or_cases (any n p) (p n) t) (λ s. any_elim n p s)
  where
    go : T (any n p) ⊎ T (p n) → (T (any n p) → Found n p) → Found (suc n) p
    go (inl s) ih = let f : Found n p = ih s in record { place = f.place; below = le_step f.below; passes = f.passes }
    go (inr s) ih = record { place = n; below = le_refl (suc n); passes = s }

pub any_cong : (n : ℕ) (p q : ℕ → Bool) → ((i : ℕ) → i < n → p i ≡ q i) → any n p ≡ any n q
any_cong n p q e = T-ext (any n p) (any n q)
    (λ t. let f : Found n p = any_elim n p t in any_intro n q f.place f.below (subst T (e f.place f.below) f.passes))
    (λ t. let f : Found n q = any_elim n q t in any_intro n p f.place f.below (subst T (sym (e f.place f.below)) f.passes))

-- ---- first

abbrev pub Stands : ℕ → (ℕ → Bool) → Option ℕ → Type 0
Stands n p none = (i : ℕ) → i < n → T (p i) → ⊥
Stands n p (some k) = (k < n) × T (p k) × ((i : ℕ) → i < k → T (p i) → ⊥)

-- what `first` finds
pub first_stands : (n : ℕ) (p : ℕ → Bool) → Stands n p (first n p)
unfolding first
first_stands zero p = λ i h t. not-suc-le-zero h
first_stands (suc n) p = go (first n p) (first_stands n p)
  where
    last : (b : Bool) → p n ≡ b → ((i : ℕ) → i < n → T (p i) → ⊥) → Stands (suc n) p (cond b (some n) none)
    last true e s = (le_refl (suc n), T-yes (p n) e, s)
    last false e s = λ i h t. elim (eq-or-lt_of_le (le_of_suc-le-suc h)) [ inl q ↦ not_both (p n) e (subst (λ (k : ℕ). T (p k)) q t) | inr l ↦ s i l t ]

    go : (o : Option ℕ) → Stands n p o → Stands (suc n) p (elim o [ some i ↦ some i | none ↦ cond (p n) (some n) none ])
    go none s = last (p n) refl s
    go (some k) s = (le_step s.0, s.1, s.2)

pub first_none : (n : ℕ) (p : ℕ → Bool) → first n p ≡ none → (i : ℕ) → i < n → T (p i) → ⊥
first_none n p e = subst (Stands n p) e (first_stands n p)

pub first_some : (n : ℕ) (p : ℕ → Bool) (k : ℕ) → first n p ≡ some k → (k < n) × T (p k) × ((i : ℕ) → i < k → T (p i) → ⊥)
first_some n p k e = subst (Stands n p) e (first_stands n p)

pub first_none_intro : (n : ℕ) (p : ℕ → Bool) → ((i : ℕ) → i < n → T (p i) → ⊥) → first n p ≡ none
first_none_intro n p f = go (first n p) (first_stands n p)
  where
    go : (o : Option ℕ) → Stands n p o → o ≡ none
    go none s = refl
    go (some k) s = absurd (f k s.0 s.1)

pub first_cong : (n : ℕ) (p q : ℕ → Bool) → ((i : ℕ) → i < n → p i ≡ q i) → first n p ≡ first n q
unfolding first
first_cong zero p q e = refl
first_cong (suc n) p q e =
    ap₂ (λ (o : Option ℕ) (b : Bool). elim o as (λ x. Option ℕ) [ some i ↦ some i | none ↦ cond b (some n) none ])
    (first_cong n p q (λ i h. e i (le_step h))) (e n (le_refl (suc n)))

pub first_has : (n : ℕ) (p : ℕ → Bool) (i : ℕ) → i < n → T (p i) → T (is_some (first n p))
unfolding is_some
first_has n p i h t = go (first n p) refl
  where
    go : (o : Option ℕ) → first n p ≡ o → T (is_some o)
    go none e = absurd (first_none n p e i h t)
    go (some k) e = tt

-- ---- places

abbrev pub Below : ℕ → List ℕ → Type 0
Below n xs = All (λ (x : ℕ). x < n) xs

pub places_in : (n : ℕ) (q : ℕ → Bool) (i : ℕ) → i < n → T (q i) → In i (places n q)
unfolding places
places_in zero q i l t = absurd (not-suc-le-zero l)
places_in (suc n) q i l t =
    ⊎_elim (λ (e : i ≡ n). in_right i (places n q) _ (one (q n) (subst (λ (x : ℕ). T (q x)) e t) e)) (λ (h : i < n). in_left i (places n q) _ (places_in n q i h t)) (eq-or-lt_of_le (le_of_suc-le-suc l))
  where
    one : (b : Bool) → T b → i ≡ n → In i (cond b (n ∷ []) [])
    one true u e = inl e
    one false u e = absurd u

pub in_places : (n : ℕ) (q : ℕ → Bool) (i : ℕ) → In i (places n q) → T (q i)
unfolding places
in_places zero q i h = absurd h
in_places (suc n) q i h = ⊎_elim (λ u. in_places n q i u) (λ u. one (q n) refl u) (in_split i (places n q) (cond (q n) (n ∷ []) []) h)
  where
    one : (b : Bool) → q n ≡ b → In i (cond b (n ∷ []) []) → T (q i)
    one true e u = ⊎_elim (λ z. subst (λ (k : ℕ). T (q k)) (sym z) (T-yes (q n) e)) (λ (z : ⊥). absurd z) u
    one false e u = absurd u

pub places_below : (n : ℕ) (q : ℕ → Bool) → Below n (places n q)
unfolding places
places_below zero q = tt
places_below (suc n) q = all_append (λ (x : ℕ). x < suc n) (places n q) (cond (q n) (n ∷ []) []) (all_map (λ (x : ℕ). x < n) (λ (x : ℕ). x < suc n) (places n q) (λ x l. le_step l) (places_below n q)) (one (q n))
  where
    one : (b : Bool) → Below (suc n) (cond b (n ∷ []) [])
    one true = (le_refl (suc n), tt)
    one false = tt

pub places_none : (n : ℕ) (q : ℕ → Bool) → ((i : ℕ) → i < n → T (q i) → ⊥) → places n q ≡ []
unfolding places
places_none zero q f = refl
places_none (suc n) q f = ap₂ (λ (x : List ℕ) (b : Bool). x ++ cond b (n ∷ []) []) (places_none n q (λ i l t. f i (le_step l) t)) (is_false (q n) (f n (le_refl (suc n))))

pub places_within : (n : ℕ) (E : ℕ → Bool) → All (λ (i : ℕ). T (E i)) (places n E)
unfolding places
places_within zero E = tt
places_within (suc n) E = all_append (λ (i : ℕ). T (E i)) (places n E) (cond (E n) (n ∷ []) []) (places_within n E) (one (E n) refl)
  where
    one : (b : Bool) → E n ≡ b → All (λ (i : ℕ). T (E i)) (cond b (n ∷ []) [])
    one true e = (T-yes (E n) e, tt)
    one false e = tt
