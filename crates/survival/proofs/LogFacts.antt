-- The log's plan does not look at the block that is dropped: two views that agree on all others have the same plan, and both are accepted.
use mathlib.Core.Path.{◌≡◌, refl, sym, ap, ap₂, ◌∙◌, subst, fun_ext}
use mathlib.Core.Logic.{◌≢◌, ◌⊎◌, inl, inr, ⊎_elim}
use mathlib.Core.Bool.{Bool, true, false, not, ◌&&◌, ◌||◌}
use mathlib.Core.Option.{Option, none, some}
use Prim.Native.Nat.{ℕ, zero, suc, ◌+◌, ◌%◌, ◌<◌}
use native.Mathlib.Omega.{arith}
use lib.Dec.{T, eqb, ltb, eqb→eq, eqb_refl, ltb→lt}
use Rattle.base.specs.Choice.{if_true, is_some, test, or_zero}
use Rattle.base.specs.Scan.{first}
use Rattle.base.proofs.Tests.{T-not→, →T_not, T-ext, T-dec, and_l, and_i, or_l, or_r, or_cases, eqb_of, tests, makes}
use Rattle.base.proofs.Scans.{any_intro, Found, any_elim, first_cong, first_some, first_none, first_has}
use Rattle.base.proofs.Choices.{all_less}
use Rattle.meaning.specs.declared.Plan.{Plan}
use Rattle.meaning.specs.Answer.{number}
use Rattle.meaning.specs.Flash.{log_r, log_number, log_generation, successor}
use Rattle.meaning.specs.Labels.{of_generation, unplaced, is, find, has, has_generation, leads, active_generation, lowest_number, unbroken, plan_from, plan_of, in_active, in_swept, dropped, placed, stray, unswept, bad_log, generation_at}

-- ---- views

pub record Passing (q : ℕ → Bool) (o : Option ℕ) : Type 0 where
  pub value : ℕ
  pub at : T (is o value)
  pub passes : T (q value)

pub passing→ : (q : ℕ → Bool) (o : Option ℕ) → T (test q o) → Passing q o
unfolding test is
passing→ q none t = absurd t
passing→ q (some x) t = record { value = x; at = eqb_refl x; passes = t }

pub →passing : (q : ℕ → Bool) (o : Option ℕ) (r : ℕ) → T (is o r) → T (q r) → T (test q o)
unfolding test is
→passing q none r h t = h
→passing q (some x) r h t = subst (λ (k : ℕ). T (q k)) (sym (eqb→eq x r h)) t

pub is_ext : (o p : Option ℕ) → ((r : ℕ) → is o r ≡ is p r) → o ≡ p
unfolding is test
is_ext none none e = refl
is_ext none (some y) e = absurd (subst T (sym (e y)) (eqb_refl y))
is_ext (some x) none e = absurd (subst T (e x) (eqb_refl x))
is_ext (some x) (some y) e = ap {B = Option ℕ} some (sym (eqb→eq y x (subst T (e x) (eqb_refl x))))

-- the place that stands for r
pub found : (n : ℕ) (v : ℕ → Option ℕ) (r : ℕ) → T (has n v r) → (or_zero (find n v r) < n) × T (is (v (or_zero (find n v r))) r)
unfolding has find is_some or_zero
found n v r t = go (first n (λ i. is (v i) r)) refl t
  where
    go : (o : Option ℕ) → first n (λ i. is (v i) r) ≡ o → T (is_some o) → (or_zero o < n) × T (is (v (or_zero o)) r)
    go none e s = absurd s
    go (some i) e s = let f = first_some n _ i e in (f.0, f.1)

pub →has : (n : ℕ) (v : ℕ → Option ℕ) (r i : ℕ) → i < n → T (is (v i) r) → T (has n v r)
unfolding has find
→has n v r i l t = first_has n _ i l t

pub find_cong : (n : ℕ) (v w : ℕ → Option ℕ) (r : ℕ) → ((i : ℕ) → is (w i) r ≡ is (v i) r) → find n w r ≡ find n v r
unfolding find
find_cong n v w r e = ap (first n) (fun_ext e)

pub and_cong : (a b c : Bool) → (T a → b ≡ c) → (a && b) ≡ (a && c)
and_cong true b c f = f tt
and_cong false b c f = refl

pub unbroken_cong : (n : ℕ) (v w : ℕ → Option ℕ) (g bound k fuel : ℕ) → ((j : ℕ) → j < bound → find n w (log_r j g) ≡ find n v (log_r j g))
    → unbroken n w g bound k fuel ≡ unbroken n v g bound k fuel
unfolding unbroken has
unbroken_cong n v w g bound k zero e = refl
unbroken_cong n v w g bound k (suc fuel) e =
    ap₂ (λ (b : Bool) (rest : ℕ). if_true b (suc rest) 0)
    (and_cong (ltb k bound) _ _ (λ t. ap is_some (e k (ltb→lt k bound t)))) (unbroken_cong n v w g bound (k + 1) fuel e)

-- a count that is not 0 has its first block
pub unbroken_first : (n : ℕ) (v : ℕ → Option ℕ) (g bound k fuel : ℕ) → unbroken n v g bound k fuel ≢ 0 → T (has n v (log_r k g))
unfolding unbroken if_true
unbroken_first n v g bound k zero f = absurd (f refl)
unbroken_first n v g bound k (suc fuel) f = go (ltb k bound) (has n v (log_r k g)) f
  where
    go : (b c : Bool) → if_true (b && c) (suc (unbroken n v g bound (k + 1) fuel)) 0 ≢ 0 → T c
    go true true h = tt
    go true false h = absurd (h refl)
    go false c h = absurd (h refl)

-- ---- the parts of r

pub r_parts : (k g : ℕ) → g < 4 → (log_number (log_r k g) ≡ k) × (log_generation (log_r k g) ≡ g)
unfolding log_number log_generation log_r
r_parts k g l = (omega arith, omega arith)

pub successor_below : (g : ℕ) → successor g < 4
unfolding successor
successor_below g = omega arith

pub not_successor : (g : ℕ) → g < 4 → g ≢ successor g
unfolding successor
not_successor g l e = omega arith

-- the generation before, the one after, and what lies between
around : (g h : ℕ) → g < 4 → h < 4 → h ≡ successor g → g ≡ (h + 3) % 4
unfolding successor
around g h l k e = omega arith

apart : (g h : ℕ) → g < 4 → h < 4 → (h ≡ g) ⊎ (h ≡ successor g) → (h + 3) % 4 ≢ successor g
unfolding successor
apart g h l k (inl e) q = omega arith
apart g h l k (inr e) q = omega arith

-- ---- what an accepted log says

pub dropped_facts : (p : Plan) (r : ℕ) → T (dropped p r)
    → (log_generation r ≡ successor p.generation) × (log_number r ≡ p.start.0) × (p.swept ≡ p.start.0)
unfolding dropped
dropped_facts p r t = search tests

-- the block that is replayed as log block k is not the one dropped
pub replayed_kept : (p : Plan) (k : ℕ) → p.generation < 4 → T (dropped p (log_r k (generation_at p k))) → ⊥
unfolding generation_at
replayed_kept p k l =
    all_less (λ (g : ℕ). T (dropped p (log_r k g)) → ⊥) k p.start.0 (successor p.generation) p.generation
    (λ (h : k < p.start.0) d.
    let e : k ≡ p.start.0 = sym (r_parts k (successor p.generation) (successor_below p.generation)).0 ∙ (dropped_facts p _ d).1 in
    omega arith)
    (λ h d. not_successor p.generation l (sym (r_parts k p.generation l).1 ∙ (dropped_facts p _ d).0))

pub placed_generation : (p : Plan) (r : ℕ) → T (placed p r) → (log_generation r ≡ p.generation) ⊎ (log_generation r ≡ successor p.generation)
unfolding placed in_active in_swept dropped
placed_generation p r t =
    ⊎_elim (λ (u : T (in_active p r)). inl (search tests))
    (λ s. ⊎_elim (λ (u : T (in_swept p r)). inr (search tests)) (λ (u : T (dropped p r)). inr (search tests))
    (or_cases (in_swept p r) (dropped p r) s))
    (or_cases (in_active p r) (in_swept p r || dropped p r) t)

-- a block of generation h
pub record Of (n : ℕ) (v : ℕ → Option ℕ) (h : ℕ) : Type 0 where
  pub place : ℕ
  pub r : ℕ
  pub below : place < n
  pub at : T (is (v place) r)
  pub generation : log_generation r ≡ h

pub generation→ : (n : ℕ) (v : ℕ → Option ℕ) (h : ℕ) → T (has_generation n v h) → Of n v h
unfolding has_generation of_generation
generation→ n v h t =
    let f : Found n (λ i. test (λ r. eqb (log_generation r) h) (v i)) = any_elim _ _ t in
    let c : Passing (λ r. eqb (log_generation r) h) (v f.place) = passing→ _ _ f.passes in
    record { place = f.place; r = c.value; below = f.below; at = c.at; generation = eqb→eq _ _ c.passes }

pub →generation : (n : ℕ) (v : ℕ → Option ℕ) (h : ℕ) → Of n v h → T (has_generation n v h)
unfolding has_generation of_generation
→generation n v h o =
    any_intro _ _ o.place o.below (→passing (λ k. eqb (log_generation k) h) (v o.place) o.r o.at (eqb_of o.generation))

module _ (n : ℕ) (v : ℕ → Option ℕ) where
  pub generation_below : active_generation n v < 4
  unfolding active_generation or_zero
  generation_below = go (first 4 (leads n v)) refl
    where
      go : (o : Option ℕ) → first 4 (leads n v) ≡ o → or_zero o < 4
      go none e = omega arith
      go (some k) e = (first_some 4 _ k e).0

  -- a generation that follows the active one has it before it
  pub swept_has_active : T (has_generation n v (successor (active_generation n v))) → T (has_generation n v (active_generation n v))
  unfolding active_generation or_zero leads successor
  swept_has_active = go (first 4 (leads n v)) refl
    where
      go : (o : Option ℕ) → first 4 (leads n v) ≡ o → T (has_generation n v (successor (or_zero o))) → T (has_generation n v (or_zero o))
      go none e t = ⊎_elim (λ h. h)
          (λ f. absurd (first_none 4 _ e 1 (omega arith) (and_i (has_generation n v 1) (not (has_generation n v 0)) t (→T_not (has_generation n v 0) f))))
          (T-dec (has_generation n v 0))
      go (some k) e t = and_l (has_generation n v k) (not (has_generation n v ((k + 3) % 4))) (first_some 4 _ k e).1

-- v is accepted; w agrees with it but on the dropped block, and has nothing that v has not
module _ (n : ℕ) (v w : ℕ → Option ℕ) (good : T (bad_log n v (plan_of n v)) → ⊥)
    (agree : (r : ℕ) → (T (dropped (plan_of n v) r) → ⊥) → (i : ℕ) → is (w i) r ≡ is (v i) r)
    (back : (i r : ℕ) → i < n → T (is (w i) r) → T (has n v r)) where
  abbrev g : ℕ
  g = active_generation n v

  abbrev p : Plan
  p = plan_of n v

  placed_all : (i r : ℕ) → i < n → T (is (v i) r) → T (placed p r)
  unfolding bad_log stray unplaced
  placed_all i r l s = ⊎_elim (λ t. t)
      (λ f. absurd (good (or_l (stray n v p) (unswept n v p) (any_intro n _ i l (→passing (λ k. not (placed p k)) (v i) r s (→T_not (placed p r) f))))))
      (T-dec (placed p r))

  generations : (h : ℕ) → T (has_generation n v h) → (h ≡ g) ⊎ (h ≡ successor g)
  unfolding plan_of plan_from
  generations h t =
      let f = generation→ n v h t in
      let e = sym f.generation in
      ⊎_elim (λ q. inl (e ∙ q)) (λ q. inr (e ∙ q)) (placed_generation p f.r (placed_all f.place f.r f.below f.at))

  active_kept : (r : ℕ) → log_generation r ≡ g → T (dropped p r) → ⊥
  unfolding plan_of plan_from
  active_kept r e d = not_successor g (generation_below n v) (sym e ∙ (dropped_facts p r d).0)

  on : (h : ℕ) (o : Of n v h) → (T (dropped p o.r) → ⊥) → T (has_generation n w h)
  on h o f = →generation n w h (record {
    place = o.place;
    r = o.r;
    below = o.below;
    at = subst T (sym (agree o.r f o.place)) o.at;
    generation = o.generation;
  })

  active_on : T (has_generation n v g) → T (has_generation n w g)
  active_on t = let f = generation→ n v _ t in on g f (active_kept f.r f.generation)

  generation_back : (h : ℕ) → T (has_generation n w h) → T (has_generation n v h)
  generation_back h t =
      let f = generation→ n w h t in
      let a = found n v f.r (back f.place f.r f.below f.at) in
      →generation n v h (record { place = _; r = f.r; below = a.0; at = a.1; generation = f.generation })

  leads_on : (h : ℕ) → h < 4 → T (leads n v h) → T (leads n w h)
  unfolding leads
  leads_on h l t =
      let a : T (has_generation n v h) = search tests in
      let b : T (has_generation n v ((h + 3) % 4)) → ⊥ = T-not→ (has_generation n v ((h + 3) % 4)) (search tests) in
      let e : h ≡ g = ⊎_elim (λ (q : h ≡ g). q)
      (λ (q : h ≡ successor g). absurd (b (subst (λ (k : ℕ). T (has_generation n v k)) (around g h (generation_below n v) l q)
      (swept_has_active n v (subst (λ (k : ℕ). T (has_generation n v k)) q a)))))
      (generations h a) in
      let c : T (has_generation n w h) = subst (λ (k : ℕ). T (has_generation n w k)) (sym e) (active_on (subst (λ (k : ℕ). T (has_generation n v k)) e a)) in
      let d : T (has_generation n w ((h + 3) % 4)) → ⊥ = λ s. b (generation_back ((h + 3) % 4) s) in
      search makes

  leads_back : (h : ℕ) → h < 4 → T (leads n w h) → T (leads n v h)
  unfolding leads
  leads_back h l t =
      let s : T (has_generation n w h) = search tests in
      let a : T (has_generation n v h) = generation_back h s in
      let b : T (has_generation n w ((h + 3) % 4)) → ⊥ = T-not→ (has_generation n w ((h + 3) % 4)) (search tests) in
      let d : T (has_generation n v ((h + 3) % 4)) → ⊥ = λ s. ⊎_elim
      (λ (e : (h + 3) % 4 ≡ g). b (subst (λ (k : ℕ). T (has_generation n w k)) (sym e) (active_on (subst (λ (k : ℕ). T (has_generation n v k)) e s))))
      (λ (e : (h + 3) % 4 ≡ successor g). apart g h (generation_below n v) l (generations h a) e)
      (generations ((h + 3) % 4) s) in
      search makes

  same_generation : active_generation n w ≡ active_generation n v
  unfolding active_generation
  same_generation = ap or_zero (first_cong 4 _ _ (λ h l. T-ext _ _ (leads_back h l) (leads_on h l)))

  find_active : (k : ℕ) → find n w (log_r k g) ≡ find n v (log_r k g)
  find_active k = find_cong n v w _ (agree (log_r k g) (active_kept (log_r k g) (r_parts k g (generation_below n v)).1))

  -- a swept block of another number than the active log's first is not dropped
  swept_kept : (k : ℕ) → k ≢ p.start.0 → T (dropped p (log_r k (successor g))) → ⊥
  unfolding plan_of plan_from
  swept_kept k ne d = ne (sym (r_parts k (successor g) (successor_below g)).0 ∙ (dropped_facts p (log_r k (successor g)) d).1)

  find_swept : (k : ℕ) → k < lowest_number n v g → find n w (log_r k (successor g)) ≡ find n v (log_r k (successor g))
  unfolding plan_of plan_from
  find_swept k l = find_cong n v w _ (agree (log_r k (successor g)) (swept_kept k (λ (e : k ≡ lowest_number n v g). omega arith)))

  same_low : lowest_number n w g ≡ lowest_number n v g
  unfolding lowest_number has
  same_low = ap or_zero (first_cong 4096 _ _ (λ k l. ap is_some (find_active k)))

  pub same_plan : plan_of n w ≡ plan_of n v
  unfolding plan_of plan_from
  same_plan =
      ap₂ (plan_from n w) same_generation (ap (lowest_number n w) same_generation ∙ same_low)
      ∙ (λ i. record {
        generation = g;
        start = number (lowest_number n v g);
        swept = unbroken_cong n v w (successor g) (lowest_number n v g) 0 n find_swept i;
        active = unbroken_cong n v w g 4096 (lowest_number n v g) n (λ j l. find_active j) i;
      })

  stray_not : T (stray n w p) → ⊥
  unfolding stray unplaced placed
  stray_not t =
      let f : Found n (λ i. test (λ r. not (placed p r)) (w i)) = any_elim _ _ t in
      let c : Passing (λ r. not (placed p r)) (w f.place) = passing→ _ _ f.passes in
      T-not→ (placed p c.value) c.passes
      (⊎_elim (λ (d : T (dropped p c.value)). or_r (in_active p c.value) _ (or_r (in_swept p c.value) (dropped p c.value) d))
      (λ (d : T (dropped p c.value) → ⊥). placed_all f.place c.value f.below (subst T (agree c.value d f.place) c.at))
      (T-dec (dropped p c.value)))

  -- where a swept log's block is dropped above 0, its block 0 stays
  swept_on : p.start.0 ≢ 0 → T (has_generation n v (successor g)) → T (has_generation n w (successor g))
  unfolding plan_of plan_from
  swept_on ne s =
      let f = generation→ n v (successor g) s in
      ⊎_elim
      (λ (d : T (dropped p f.r)).
      let t = unbroken_first n v (successor g) (lowest_number n v g) 0 n (λ e. ne (sym (dropped_facts p f.r d).2 ∙ e)) in
      let a = found n v (log_r 0 (successor g)) t in
      let z : Of n v (successor g) =
      record { place = _; r = log_r 0 (successor g); below = a.0; at = a.1; generation = (r_parts 0 (successor g) (successor_below g)).1 } in
      on (successor g) z (swept_kept 0 (λ e. ne (sym e))))
      (λ (d : T (dropped p f.r) → ⊥). on (successor g) f d)
      (T-dec (dropped p f.r))

  unswept_not : T (unswept n w p) → ⊥
  unfolding unswept bad_log plan_of plan_from
  unswept_not t =
      let ne : p.start.0 ≢ 0 = search tests in
      let no : T (has_generation n w (successor g)) → ⊥ = T-not→ (has_generation n w (successor g)) (search tests) in
      let f : T (has_generation n v (successor g)) → ⊥ = λ s. no (swept_on ne s) in
      let u : T (unswept n v p) = search makes in
      good (or_r (stray n v p) (unswept n v p) u)

  -- and the log is accepted again
  pub good_again : T (bad_log n w (plan_of n w)) → ⊥
  unfolding bad_log
  good_again =
      subst (λ (q : Plan). T (bad_log n w q) → ⊥) (sym same_plan) (λ t. ⊎_elim stray_not unswept_not (or_cases (stray n w p) (unswept n w p) t))
