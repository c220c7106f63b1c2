-- The bounds written into the label definitions are enough: more of each gives the same.
use mathlib.Core.Path.{◌≡◌, refl, sym, ap, ap₂, ◌∙◌, subst}
use mathlib.Core.Logic.{◌≢◌, ◌⊎◌, inl, inr, ⊎_elim}
use mathlib.Core.Bool.{Bool, false, cond, ◌&&◌}
use mathlib.Core.Option.{Option, none, some}
use Prim.Native.Nat.{ℕ, zero, suc, ◌+◌, ◌≤◌, ◌<◌}
use native.Mathlib.Nat.{not-suc-le-zero, le_of_suc-le-suc, eq-or-lt_of_le}
use native.Mathlib.Omega.{arith}
use lib.Dec.{T, ltb, eqb→eq, lt→ltb}
use Rattle.base.specs.Choice.{if_true, if_eq, test, or_zero}
use Rattle.base.specs.Scan.{first}
use Rattle.base.proofs.Tests.{T-ext, T-dec, is_false, and_r, and_i}
use Rattle.base.proofs.Choices.{all_eq, if_no}
use Rattle.meaning.specs.declared.Geometry.{Geometry}
use Rattle.meaning.specs.declared.Plan.{Plan}
use Rattle.meaning.specs.declared.Tag.TheVariants.{Log}
use Rattle.meaning.specs.Answer.{number}
use Rattle.meaning.specs.Flash.{Image, successor, byte_of, same_tag, log_r, log_number, block_number}
use Rattle.meaning.specs.Labels.{view, is, find, has, active_generation, lowest_number, unbroken, plan_from, plan_of, log_plan}
use Rattle.survival.proofs.Live.{not_free, Counts, counts→}
use Rattle.survival.proofs.LogFacts.{found}
use Rattle.survival.proofs.Survive.{Passed, number_small}

-- ---- numbers are below 4096

-- every r of the view has a number that refusal 3 lets pass
abbrev pub Numbered : ℕ → (ℕ → Option ℕ) → Type 0
Numbered n v = (i r : ℕ) → i < n → T (is (v i) r) → log_number r ≤ 4095

pub numbered : (g : Geometry) (m : Image) → Passed g m → Numbered g.blocks (view g.blocks m.labels Log)
unfolding same_tag byte_of block_number if_true
numbered g m p i r l s =
    let c : Counts g.blocks m.labels Log r i = counts→ g.blocks m.labels Log r i s in
    subst (λ (x : ℕ). log_number x ≤ 4095) c.r (number_small g m p Log r i not_free.1 c)

number_least : (k g : ℕ) → k ≤ log_number (log_r k g)
unfolding log_number log_r
number_least k g = omega arith

first_wide : (n m : ℕ) (p : ℕ → Bool) → n ≤ m → ((i : ℕ) → n ≤ i → T (p i) → ⊥) → first m p ≡ first n p
unfolding first
first_wide n zero p l f = let e : 0 ≡ n = omega arith in ap (λ (x : ℕ). first x p) e
first_wide n (suc m) p l f = ⊎_elim (λ (e : n ≡ suc m). ap (λ (x : ℕ). first x p) (sym e))
    (λ (h : n < suc m). none_more (first m p) (p m) (is_false (p m) (f m (le_of_suc-le-suc h))) ∙ first_wide n m p (le_of_suc-le-suc h) f)
    (eq-or-lt_of_le l)
  where
    none_more : (o : Option ℕ) (b : Bool) → b ≡ false → ◌≡◌ {A = Option ℕ} (elim o [ some i ↦ some i | none ↦ cond b (some m) none ]) o
    none_more none b e = rw e
    none_more (some i) b e = refl

module _ (n : ℕ) (v : ℕ → Option ℕ) (small : Numbered n v) where
  small_has : (k g : ℕ) → T (has n v (log_r k g)) → k < 4096
  small_has k g t = let a = found n v (log_r k g) t in omega (arith, number_least k g, small _ (log_r k g) a.0 a.1)

  -- any larger bound of the search for the lowest number
  pub lowest_enough : (bound g : ℕ) → 4096 ≤ bound → or_zero (first bound (λ k. has n v (log_r k g))) ≡ lowest_number n v g
  unfolding lowest_number
  lowest_enough bound g l = ap or_zero (first_wide 4096 bound (λ k. has n v (log_r k g)) l (λ k h t. let s : k < 4096 = small_has k g t in omega arith))

  -- any larger bound of the active log
  pub bound_enough : (g bound k fuel : ℕ) → 4096 ≤ bound → unbroken n v g bound k fuel ≡ unbroken n v g 4096 k fuel
  unfolding unbroken
  bound_enough g bound k zero l = refl
  bound_enough g bound k (suc fuel) l =
      ap₂ (λ (b : Bool) (rest : ℕ). if_true b (suc rest) 0)
      (T-ext (ltb k bound && has n v (log_r k g)) (ltb k 4096 && has n v (log_r k g))
      (λ t. both 4096 (omega arith) (and_r (ltb k bound) _ t)) (λ t. both bound l (and_r (ltb k 4096) _ t)))
      (bound_enough g bound (k + 1) fuel l)
    where
      both : (b : ℕ) → 4096 ≤ b → T (has n v (log_r k g)) → T (ltb k b && has n v (log_r k g))
      both b h t = and_i (ltb k b) (has n v (log_r k g)) (lt→ltb k b (let s : k < 4096 = small_has k g t in omega arith)) t

-- ---- n places stand for at most n numbers

-- n + 1 things do not fit into n places
pigeons : (n : ℕ) (f : ℕ → ℕ) → ((i : ℕ) → i ≤ n → f i < n) → ((i j : ℕ) → i ≤ n → j ≤ n → f i ≡ f j → i ≡ j) → ⊥
pigeons zero f lo inj = not-suc-le-zero (lo 0 (omega arith))
pigeons (suc n) f lo inj = pigeons n moved below apart
  where
    last : ℕ
    last = f (suc n)

    -- what stood in the last place goes where the last thing stood
    moved : ℕ → ℕ
    moved i = if_eq (f i) n last (f i)

    below : (i : ℕ) → i ≤ n → moved i < n
    below i l = all_eq (λ (x : ℕ). x < n) (f i) n last (f i)
        (λ e. lt (λ q. let z : i ≡ suc n = inj i (suc n) (omega arith) (omega arith) (e ∙ sym q) in omega arith) (lo (suc n) (omega arith)))
        (λ ne. lt ne (lo i (omega arith)))
      where
        lt : {x : ℕ} → x ≢ n → x < suc n → x < n
        lt q h = ⊎_elim (λ e. absurd (q e)) (λ s. s) (eq-or-lt_of_le (le_of_suc-le-suc h))

    apart : (i j : ℕ) → i ≤ n → j ≤ n → moved i ≡ moved j → i ≡ j
    apart i j li lj =
        all_eq (λ (x : ℕ). x ≡ moved j → i ≡ j) (f i) n last (f i)
        (λ e. all_eq (λ (y : ℕ). last ≡ y → i ≡ j) (f j) n last (f j)
        (λ h q. inj i j (omega arith) (omega arith) (e ∙ sym h))
        (λ h q. let z : suc n ≡ j = inj (suc n) j (omega arith) (omega arith) q in omega arith))
        (λ e. all_eq (λ (y : ℕ). f i ≡ y → i ≡ j) (f j) n last (f j)
        (λ h q. let z : i ≡ suc n = inj i (suc n) (omega arith) (omega arith) q in omega arith)
        (λ h q. inj i j (omega arith) (omega arith) q))

is_one : (o : Option ℕ) (r s : ℕ) → T (is o r) → T (is o s) → r ≡ s
unfolding is test
is_one none r s t u = absurd t
is_one (some x) r s t u = sym (eqb→eq x r t) ∙ eqb→eq x s u

log_r_one : (i j g : ℕ) → log_r i g ≡ log_r j g → i ≡ j
unfolding log_r
log_r_one i j g e = omega arith

module _ (n : ℕ) (v : ℕ → Option ℕ) (g bound : ℕ) where
  crowded : (k : ℕ) → ((j : ℕ) → k ≤ j → j ≤ k + n → T (has n v (log_r j g))) → ⊥
  crowded k all = pigeons n (λ i. or_zero (find n v (log_r (k + i) g)))
      (λ i l. (found n v _ (all (k + i) (omega arith) (omega arith))).0)
      (λ i j li lj e.
      let a = (found n v _ (all (k + i) (omega arith) (omega arith))).1 in
      let b = (found n v _ (all (k + j) (omega arith) (omega arith))).1 in
      let z : k + i ≡ k + j = log_r_one (k + i) (k + j) g (is_one _ _ _ (subst (λ (x : ℕ). T (is (v x) (log_r (k + i) g))) e a) b) in
      omega arith)

  -- the count goes on past number k
  abbrev goes : ℕ → Bool
  goes k = ltb k bound && has n v (log_r k g)

  there : (k j : ℕ) → k ≡ j → T (goes k) → T (has n v (log_r j g))
  there k j e t = subst (λ (x : ℕ). T (has n v (log_r x g))) e (and_r (ltb k bound) (has n v (log_r k g)) t)

  -- one more step of fuel counts no more, or every number up to there has its block
  step : (k fuel : ℕ)
      → (unbroken n v g bound k (suc fuel) ≡ unbroken n v g bound k fuel) ⊎ ((j : ℕ) → k ≤ j → j ≤ k + fuel → T (has n v (log_r j g)))
  unfolding unbroken
  step k zero =
      ⊎_elim (λ (t : T (goes k)). inr (λ j lo hi. let e : k ≡ j = omega arith in there k j e t)) (λ f. inl (if_no (goes k) _ _ f)) (T-dec (goes k))
  step k (suc fuel) =
      ⊎_elim (λ e. inl (ap (λ (rest : ℕ). if_true (goes k) (suc rest) 0) e))
      (λ (all : (j : ℕ) → k + 1 ≤ j → j ≤ k + 1 + fuel → T (has n v (log_r j g))).
      ⊎_elim
      (λ (t : T (goes k)). inr (λ j lo hi. ⊎_elim (λ e. there k j e t) (λ (l : k < j). all j (omega arith) (omega arith)) (eq-or-lt_of_le lo)))
      (λ f. inl (if_no (goes k) _ _ f ∙ sym (if_no (goes k) _ _ f)))
      (T-dec (goes k)))
      (step (k + 1) fuel)

  -- any larger fuel of a count
  pub fuel_enough : (k fuel : ℕ) → n ≤ fuel → unbroken n v g bound k fuel ≡ unbroken n v g bound k n
  fuel_enough k zero l = let e : 0 ≡ n = omega arith in ap (unbroken n v g bound k) e
  fuel_enough k (suc fuel) l = ⊎_elim (λ (e : n ≡ suc fuel). ap (unbroken n v g bound k) (sym e))
      (λ (h : n < suc fuel). ⊎_elim (λ e. e ∙ fuel_enough k fuel (le_of_suc-le-suc h))
      (λ (all : (j : ℕ) → k ≤ j → j ≤ k + fuel → T (has n v (log_r j g))). absurd (crowded k (λ j lo hi. all j lo (omega arith)))) (step k fuel))
      (eq-or-lt_of_le l)

-- ---- the plan

-- the plan, with a fuel for its counts and a bound for its numbers
unfoldable pub plan_within : ℕ → ℕ → ℕ → (ℕ → Option ℕ) → Plan
plan_within fuel bound n v =
    let g : ℕ = active_generation n v in
    let low : ℕ = or_zero (first bound (λ k. has n v (log_r k g))) in
    record { generation = g; start = number low; swept = unbroken n v (successor g) low 0 fuel; active = unbroken n v g bound low fuel }

pub plan_enough : (g : Geometry) (m : Image) → Passed g m → (fuel bound : ℕ) → g.blocks ≤ fuel → 4096 ≤ bound
    → plan_within fuel bound g.blocks (view g.blocks m.labels Log) ≡ log_plan g.blocks m.labels
unfolding log_plan plan_of plan_from plan_within
plan_enough g m p fuel bound lf lb =
    let n : ℕ = g.blocks in
    let v : ℕ → Option ℕ = view n m.labels Log in
    let a : ℕ = active_generation n v in
    rw (
      lowest_enough n v (numbered g m p) bound a lb,
      bound_enough n v (numbered g m p) a bound (lowest_number n v a) fuel lb,
      fuel_enough n v (successor a) (lowest_number n v a) 0 fuel lf,
      fuel_enough n v a 4096 (lowest_number n v a) fuel lf,
    )
