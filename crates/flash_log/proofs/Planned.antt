-- The blocks that the labels plan: each is found, its number is at most 4095, and it stands in `replayed` where it is counted.
use mathlib.Core.Path.{◌≡◌, refl, sym, ap, ap₂, ◌∙◌, subst}
use mathlib.Core.Logic.{⊎_elim}
use mathlib.Core.Bool.{Bool, true, false, ◌&&◌}
use mathlib.Core.Option.{Option, none, some}
use mathlib.Core.List.{List, [], ◌∷◌, ◌++◌}
use Prim.Native.Nat.{ℕ, zero, suc, ◌+◌, ◌-◌, ◌*◌, ◌/◌, ◌≤◌, ◌<◌}
use native.Mathlib.Nat.{add-sub_of_le}
use native.Mathlib.Numerals.{add-one}
use native.Mathlib.Omega.{arith}
use lib.ListN.{length, get_or, drop, length-append, drop_of_length-le, get_or-append}
use lib.Seq.{drop-cons, get_or-append-add}
use borrow.Author.Tests.{ne_eqb}
use lib.Dec.{T, eqb, ltb, ltb→lt, eqb→eq}
use Rattle.base.specs.Choice.{if_true, is_some, or_zero}
use Rattle.base.specs.Scan.{first}
use Rattle.base.proofs.Tests.{and_l, and_r, eqb_of, lt_or, T-ext}
use Rattle.base.proofs.Choices.{all_less, less_yes, less_no}
use Rattle.base.proofs.Scans.{first_some}
use Rattle.meaning.specs.declared.Geometry.{Geometry}
use Rattle.meaning.specs.declared.Plan.{Plan}
use Rattle.meaning.specs.declared.Tag.TheVariants as means
use Rattle.meaning.specs.Flash.{Image, Labels, log_number, log_r, successor}
use Rattle.meaning.specs.Labels.{find, has, view, leads, lowest_number, active_generation, unbroken, plan_from, plan_of, log_plan, generation_at, find_log}
use Rattle.meaning.specs.Log.{LogBlock, log_block, log_blocks, planned, replayed}
use Rattle.flash_log.specs.Turn.{last_at}
use Rattle.flash_log.specs.Cursor.{number_at}

-- ---- counted blocks

module _ (n : ℕ) (v : ℕ → Option ℕ) (g bound : ℕ) where
  pub unbroken_has : (k fuel i : ℕ) → i < unbroken n v g bound k fuel → T (has n v (log_r (k + i) g)) × (k + i < bound)
  unfolding unbroken if_true
  unbroken_has k zero i h = absurd (omega arith)
  unbroken_has k (suc fuel) i h = go (ltb k bound && has n v (log_r k g)) (λ t. t) (λ j u. unbroken_has (k + 1) fuel j u) i h
    where
      go : (b : Bool) → (T b → T (ltb k bound && has n v (log_r k g)))
          → ((j : ℕ) → j < unbroken n v g bound (k + 1) fuel → T (has n v (log_r (k + 1 + j) g)) × (k + 1 + j < bound)) → (i : ℕ) → i < if_true b (suc (unbroken n v g bound (k + 1) fuel)) 0
          → T (has n v (log_r (k + i) g)) × (k + i < bound)
      go false f ih i h = absurd (omega arith)
      go true f ih zero h =
          let t = f tt in
          let e : k + 0 ≡ k = omega arith in
          (subst (λ (j : ℕ). T (has n v (log_r j g))) (sym e) (and_r (ltb k bound) _ t), omega (arith, ltb→lt k bound (and_l (ltb k bound) _ t)))
      go true f ih (suc j) h =
          let e : k + 1 + j ≡ k + suc j = omega arith in
          let r = ih j (omega arith) in
          (subst (λ (j : ℕ). T (has n v (log_r j g))) e r.0, omega (arith, r.1))

  pub unbroken_most : (k fuel : ℕ) → unbroken n v g bound k fuel ≤ fuel
  unfolding unbroken if_true
  unbroken_most k zero = omega arith
  unbroken_most k (suc fuel) = go (ltb k bound && has n v (log_r k g)) (unbroken_most (k + 1) fuel)
    where
      go : (b : Bool) → unbroken n v g bound (k + 1) fuel ≤ fuel → if_true b (suc (unbroken n v g bound (k + 1) fuel)) 0 ≤ suc fuel
      go true h = omega arith
      go false h = omega arith

pub lowest_below : (n : ℕ) (v : ℕ → Option ℕ) (g : ℕ) → lowest_number n v g < 4096
unfolding lowest_number or_zero
lowest_below n v g = go (first 4096 (λ k. has n v (log_r k g))) refl
  where
    go : (o : Option ℕ) → first 4096 (λ k. has n v (log_r k g)) ≡ o → or_zero o < 4096
    go none e = omega arith
    go (some k) e = (first_some 4096 _ k e).0

-- a generation is below 4, so r gives the number back
pub number_of : (n : ℕ) (m : Labels) (k : ℕ) → log_number (log_r k (generation_at (log_plan n m) k)) ≡ k
unfolding log_plan plan_of plan_from generation_at active_generation log_number log_r successor or_zero
number_of n m k =
    let v = view n m means.Log in
    let below : (o : Option ℕ) → first 4 (leads n v) ≡ o → or_zero o < 4 = λ o. elim o as (λ o. first 4 (leads n v) ≡ o → or_zero o < 4) [
      | none ↦ λ e. omega arith
      | some j ↦ λ e. (first_some 4 _ j e).0
    ] in
    let b = below _ refl in
    all_less (λ (h : ℕ). (k * 4 + h) / 4 ≡ k) k _ _ _ (λ u. omega arith) (λ u. omega arith)

-- ---- the plan

module _ (n : ℕ) (m : Labels) where
  abbrev p : Plan
  p = log_plan n m

  pub start_below : p.start.0 < 4096
  unfolding log_plan plan_of plan_from
  start_below = lowest_below n _ _

  pub swept_most : p.swept ≤ n
  unfolding log_plan plan_of plan_from
  swept_most = unbroken_most n _ _ _ 0 n

  pub active_most : p.active ≤ n
  unfolding log_plan plan_of plan_from
  active_most = unbroken_most n _ _ _ _ n

  abbrev Stands : ℕ → Type 0
  Stands k = T (is_some (find_log n m k)) × (k < 4096)

  swept_stands : (k : ℕ) → k < p.swept → Stands k
  unfolding log_plan plan_of plan_from find_log has generation_at
  swept_stands k h =
      let v = view n m means.Log in
      let g = active_generation n v in
      let low = lowest_number n v g in
      let u = unbroken_has n v (successor g) low 0 n k h in
      let e : 0 + k ≡ k = omega arith in
      let b : k < low = omega (arith, u.1) in
      let q : T (is_some (find n v (log_r k (successor g)))) = subst (λ (j : ℕ). T (is_some (find n v (log_r j (successor g))))) e u.0 in
      (subst (λ (h : ℕ). T (is_some (find n v (log_r k h)))) (sym (less_yes k low _ _ b)) q, omega (arith, lowest_below n v g))

  active_stands : (i : ℕ) → i < p.active → Stands (p.start.0 + i)
  unfolding log_plan plan_of plan_from find_log has generation_at
  active_stands i h =
      let v = view n m means.Log in
      let g = active_generation n v in
      let low = lowest_number n v g in
      let u = unbroken_has n v g 4096 low n i h in
      (subst (λ (h : ℕ). T (is_some (find n v (log_r (low + i) h)))) (sym (less_no (low + i) low _ _ (omega arith))) u.0, u.1)

  -- every block of the plan is found
  pub block_stands : (k : ℕ) → k < p.swept + p.active → Stands (number_at p k)
  unfolding number_at
  block_stands k h = all_less Stands k p.swept k (p.start.0 + (k - p.swept)) (swept_stands k)
      (λ (u : p.swept ≤ k). active_stands (k - p.swept) (omega arith))

  pub found_below : (k i : ℕ) → find_log n m k ≡ some i → i < n
  unfolding find_log find
  found_below k i e = (first_some n _ i e).0

-- ---- where it stands

eqb_same : (a b c d : ℕ) → (a ≡ b → c ≡ d) → (c ≡ d → a ≡ b) → eqb a b ≡ eqb c d
eqb_same a b c d f h = T-ext (eqb a b) (eqb c d) (λ t. eqb_of (f (eqb→eq a b t))) (λ t. eqb_of (h (eqb→eq c d t)))

module _ (g : Geometry) (m : Image) where
  blocks_length : (k count : ℕ) → length (log_blocks g m k count) ≡ count
  unfolding log_blocks
  blocks_length k zero = refl
  blocks_length k (suc count) = ap suc (blocks_length (k + 1) count)

  blocks_at : (k count i : ℕ) (d : LogBlock) → i < count → get_or (log_blocks g m k count) i d ≡ log_block g m (eqb (i + 1) count) (k + i)
  unfolding log_blocks
  blocks_at k zero i d h = absurd (omega arith)
  blocks_at k (suc count) zero d h = ap₂ (log_block g m) (go count) (omega arith)
    where
      go : (c : ℕ) → eqb c 0 ≡ eqb 1 (suc c)
      go zero = refl
      go (suc c) = ne_eqb (suc c) 0 (λ e. omega arith) ∙ sym (ne_eqb 1 (suc (suc c)) (λ e. omega arith))
  blocks_at k (suc count) (suc i) d h =
      blocks_at (k + 1) count i d (omega arith) ∙ ap₂ (log_block g m) (eqb_same (i + 1) count (suc i + 1) (suc count) (λ e. omega arith) (λ e. omega arith)) (omega arith)

  abbrev plan : Plan
  plan = log_plan g.blocks m.labels

  abbrev swept : List LogBlock
  swept = log_blocks g m 0 plan.swept

  abbrev active : List LogBlock
  active = log_blocks g m plan.start.0 plan.active

  replayed_length : length (replayed g m) ≡ plan.swept + plan.active
  unfolding replayed planned
  replayed_length = length-append swept active ∙ ap₂ ◌+◌ (blocks_length 0 plan.swept) (blocks_length plan.start.0 plan.active)

  -- block k of those that are replayed
  abbrev pub block_of : ℕ → LogBlock
  block_of k = log_block g m (last_at plan k) (number_at plan k)

  replayed_at : (k : ℕ) (d : LogBlock) → k < plan.swept + plan.active → get_or (replayed g m) k d ≡ block_of k
  unfolding replayed planned last_at number_at
  replayed_at k d h = ⊎_elim low high (lt_or k plan.swept)
    where
      low : k < plan.swept → get_or (swept ++ active) k d ≡ block_of k
      low u =
          let z : 0 + k ≡ k = omega arith in
          get_or-append swept active d k (omega (arith, blocks_length 0 plan.swept))
          ∙ blocks_at 0 plan.swept k d u
          ∙ ap₂ (log_block g m) (sym (less_yes k plan.swept _ _ u)) (z ∙ sym (less_yes k plan.swept _ _ u))

      high : plan.swept ≤ k → get_or (swept ++ active) k d ≡ block_of k
      high u =
          let i : ℕ = k - plan.swept in
          let e : length swept + i ≡ k = ap (λ (j : ℕ). j + i) (blocks_length 0 plan.swept) ∙ add-sub_of_le u in
          let b : i < plan.active = omega arith in
          ap (λ (j : ℕ). get_or (swept ++ active) j d) (sym e)
          ∙ get_or-append-add swept active i d
          ∙ blocks_at plan.start.0 plan.active i d b
          ∙ ap₂ (log_block g m) (sym (less_no k plan.swept _ _ u ∙ less_yes i plan.active _ _ b)) (sym (less_no k plan.swept _ _ u))

  pub drop_block : (k : ℕ) → k < plan.swept + plan.active → drop k (replayed g m) ≡ block_of k ∷ drop (k + 1) (replayed g m)
  drop_block k h =
      let d = block_of k in
      drop-cons (replayed g m) k d (omega (arith, replayed_length))
      ∙ ap₂ (λ (x : LogBlock) (j : ℕ). x ∷ drop j (replayed g m)) (replayed_at k d h) (sym (add-one k))

  pub drop_end : (k : ℕ) → plan.swept + plan.active ≤ k → drop k (replayed g m) ≡ []
  drop_end k h = let e : length (replayed g m) ≤ k = omega (arith, replayed_length) in drop_of_length-le (replayed g m) e
