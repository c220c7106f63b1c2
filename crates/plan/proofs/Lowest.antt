-- The lowest number of a generation, by one scan that keeps the lowest so far.
use Prim.Native.Nat.{ℕ, ◌+◌, ◌*◌, ◌/◌, ◌%◌, ◌≤◌, ◌<◌}
use native.Mathlib.Nat.{lt_of_lt_of_le}
use native.Mathlib.Omega.{arith}
use mathlib.Core.Bool.{false}
use mathlib.Core.Option.{Option, none, some}
use mathlib.Core.Path.{◌≡◌, refl, sym, ap, ◌∙◌, subst}
use mathlib.Core.Logic.{◌≢◌, ◌⊎◌, inl, inr, ⊎_elim}
use lib.Dec.{T, eqb}
use borrow.Author.Tests.{eq-eqb, ne_eqb, lt-ltb, le-ltb}
use Rattle.base.specs.Choice.{if_true, is_some, on_some, or_zero, test}
use Rattle.base.proofs.Tests.{is_true, not_both, eq_or, lt_or, eqb_of}
use Rattle.base.proofs.Scans.{first_has, first_none_intro}
use Rattle.meaning.specs.Flash.{log_generation, log_number, log_r}
use Rattle.meaning.specs.Labels.{find, has, is, lowest_number}
use Rattle.label.proofs.Scanned.{Clear, first_hit, first_clear}
use Rattle.plan.specs.Ask.{lower}

module _ (n : ℕ) (v : ℕ → Option ℕ) (g : ℕ) where
  -- of the places below i, best is the lowest number; 4096 where there is none
  pub record Lowered (i best : ℕ) : Type 0 where
    pub small : best ≤ 4096
    pub least : (j k : ℕ) → j < i → k < best → is (v j) (log_r k g) ≡ false
    pub there : best < 4096 → T (has n v (log_r best g))

  pub lowered_start : Lowered 0 4096
  lowered_start = record {
    small = omega arith;
    least = λ j k l h. absurd (none l);
    there = λ l. absurd (no l);
  }
    where
      none : {j : ℕ} → j < 0 → ⊥
      none l = omega arith

      no : 4096 < 4096 → ⊥
      no l = omega arith

  -- what the next place adds: x is the lower of best and its number
  record Next (o : Option ℕ) (best x : ℕ) : Type 0 where
    pub below : x ≤ best
    pub passed : (k : ℕ) → k < x → is o (log_r k g) ≡ false
    pub here : (x ≡ best) ⊎ T (is o (log_r x g))

  next : (o : Option ℕ) (best : ℕ) → g < 4 → Next o best (lower g best o)
  unfolding lower on_some is test if_true log_generation log_number log_r
  next none best h = record { below = omega arith; passed = λ k l. refl; here = inl refl }
  next (some r) best h =
      ⊎_elim (λ (e : r % 4 ≡ g). ⊎_elim (λ (l : r / 4 < best). found e l)
      (λ (l : best ≤ r / 4). kept (is_no (λ k q z. omega arith)) (rw (eq-eqb (r % 4) g e, le-ltb (r / 4) best l))) (lt_or (r / 4) best))
      (λ (f : r % 4 ≢ g). kept (is_no (λ k q z. f (omega arith))) (rw (ne_eqb (r % 4) g f))) (eq_or (r % 4) g)
    where
      is_no : {x : ℕ} → ((k : ℕ) → k < x → r ≡ k * 4 + g → ⊥) → (k : ℕ) → k < x → eqb r (k * 4 + g) ≡ false
      is_no f k q = ne_eqb r (k * 4 + g) (f k q)

      kept : ((k : ℕ) → k < best → eqb r (k * 4 + g) ≡ false) → lower g best (some r) ≡ best → Next (some r) best (lower g best (some r))
      kept f e = subst (Next (some r) best) (sym e) (record { below = omega arith; passed = f; here = inl refl })

      found : r % 4 ≡ g → r / 4 < best → Next (some r) best (lower g best (some r))
      found e l =
          let q : lower g best (some r) ≡ r / 4 = rw (eq-eqb (r % 4) g e, lt-ltb (r / 4) best l) in
          subst (Next (some r) best) (sym q) (record {
            below = omega arith;
            passed = is_no (λ k l z. omega arith);
            here = inr (eqb_of {m = r} {n = r / 4 * 4 + g} (omega arith));
          })

  pub lowered_more : {x best : ℕ} (i : ℕ) → Lowered i best → g < 4 → i < n → x ≡ lower g best (v i) → Lowered (i + 1) x
  unfolding has find
  lowered_more {x} {best} i s h l e = subst (Lowered (i + 1)) (sym e) (record {
    small = omega (arith, w.below, s.small);
    least = λ j k p q. ⊎_elim (λ (z : j ≡ i). ap (λ (a : ℕ). is (v a) (log_r k g)) z ∙ w.passed k q)
        (λ (z : j ≢ i). s.least j k (before j p z) (lt_of_lt_of_le q w.below)) (eq_or j i);
    there = λ q. ⊎_elim (λ z. subst (λ (a : ℕ). T (has n v (log_r a g))) (sym z) (s.there (subst (λ (a : ℕ). a < 4096) z q)))
        (λ t. first_has n _ i l t) w.here;
  })
    where
      w : Next (v i) best (lower g best (v i))
      w = next (v i) best h

      before : (j : ℕ) → j < i + 1 → j ≢ i → j < i
      before j p z = omega arith

  has_not : (r : ℕ) → ((j : ℕ) → j < n → is (v j) r ≡ false) → has n v r ≡ false
  unfolding has find is_some
  has_not r f = rw (first_none_intro n (λ j. is (v j) r) (λ j l t. not_both _ (f j l) t))

  module _ {x : ℕ} (i : ℕ) (s : Lowered i x) (h : n ≤ i) where
    lower_none : Clear (λ k. has n v (log_r k g)) x
    lower_none = record { none = λ k q. has_not (log_r k g) (λ j l. s.least j k (lt_of_lt_of_le l h) q) }

    pub lowest_there : x < 4096 → x ≡ lowest_number n v g
    unfolding lowest_number or_zero
    lowest_there l = rw (first_hit (λ k. has n v (log_r k g)) 4096 x lower_none l refl (is_true _ (s.there l)))

    pub lowest_none : 4096 ≤ x → 0 ≡ lowest_number n v g
    unfolding lowest_number or_zero
    lowest_none l = rw (first_clear (λ k. has n v (log_r k g)) 4096 x lower_none l)

pub ruleset lowers = (lowered_start, lowered_more, lowest_there, lowest_none)
