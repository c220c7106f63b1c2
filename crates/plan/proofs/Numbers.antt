-- The numbers that a generation has, found in one pass over the blocks.
use Prim.Native.Nat.{ℕ, ◌+◌, ◌-◌, ◌*◌, ◌/◌, ◌≤◌, ◌<◌}
use native.Mathlib.Omega.{arith}
use mathlib.Core.Bool.{Bool, true, false}
use mathlib.Core.List.{List}
use mathlib.Core.Option.{Option, none, some}
use mathlib.Core.Path.{◌≡◌, refl, sym, ◌∙◌}
use mathlib.Core.Logic.{◌≢◌, ⊎_elim}
use lib.ListN.{get_or, set, replicate, length-set, length-replicate, get_or-replicate}
use lib.Seq.{get_or-set_same, get_or-set_other}
use lib.Dec.{T}
use borrow.Author.Tests.{eq-eqb, ne_eqb}
use Rattle.base.specs.Choice.{is_some}
use Rattle.base.specs.Scan.{any, first}
use Rattle.base.proofs.Tests.{T-ext, eq_or}
use Rattle.base.proofs.Scans.{Found, any_intro, any_elim, first_has, first_some}
use Rattle.meaning.specs.declared.Tag.{Tag}
use Rattle.meaning.specs.Flash.{Labels, log_r}
use Rattle.meaning.specs.Labels.{counts, find, has, is, view}
use Rattle.label.proofs.Older.{is_other, is_counted, view_off}
use Rattle.label.proofs.Paths.{any_none, any_more, or_no, or_yes}
use Rattle.plan.specs.Ask.{NumberFrom, Numbers}

-- ---- one block: p is the code's path of place i

module _ {p : ℕ} (n : ℕ) (m : Labels) (t : Tag) (i g from : ℕ) (e : p ≡ m.path i) where
  pub number_none : ((y : ℕ) → y < 1024 → p / 4 ≢ (from + y) * 4 + g) → NumberFrom g from (view n m t i) 1024
  unfolding log_r
  number_none f = λ y h. sym (is_other n m t ((from + y) * 4 + g) i e (f y h)) ∙ sym (ne_eqb 1024 y (λ (q : 1024 ≡ y). omega arith))

  pub number_off : {c : Bool} → c ≡ counts n m t i → c ≡ false → NumberFrom g from (view n m t i) 1024
  unfolding is
  number_off k f = λ y h. sym (view_off n m t i _ k f) ∙ sym (ne_eqb 1024 y (λ (q : 1024 ≡ y). omega arith))

  pub number_on : {c : Bool} (x : ℕ) → c ≡ counts n m t i → c ≡ true → p / 4 ≡ (from + x) * 4 + g → NumberFrom g from (view n m t i) x
  unfolding log_r
  number_on x k f r = λ y h. ⊎_elim
      (λ (q : x ≡ y). sym (is_counted n m t ((from + y) * 4 + g) i e (omega arith) k) ∙ f ∙ sym (eq-eqb x y q))
      (λ (q : x ≢ y). sym (is_other n m t ((from + y) * 4 + g) i e (λ (s : p / 4 ≡ (from + y) * 4 + g). q (omega arith))) ∙ sym (ne_eqb x y q)) (eq_or x y)

-- ---- one block after another

module _ (v : ℕ → Option ℕ) (g from : ℕ) where
  pub numbers_none : Numbers v g from 0 (replicate 1025 false)
  numbers_none = record { long = length-replicate 1025 false; exact = λ x h. get_or-replicate 1025 x false false (omega arith) ∙ any_none _ }

  pub numbers_more : (k x : ℕ) (flags : List Bool) → Numbers v g from k flags → (x ≤ 1024) × NumberFrom g from (v k) x → Numbers v g from (k + 1) (set flags x true)
  numbers_more k x flags s e = record {
    long = length-set flags x true ∙ s.long;
    exact = λ y h. any_more (λ i. is (v i) (log_r (from + y) g)) k (s.exact y h) (⊎_elim
        (λ (q : y ≡ x). rw q (get_or-set_same flags x true false (omega (arith, s.long, e.0))) ∙ or_yes (get_or flags y false) (e.1 y h ∙ eq-eqb x y (sym q)))
        (λ (q : y ≢ x). get_or-set_other flags x y true false q ∙ or_no (get_or flags y false) (e.1 y h ∙ ne_eqb x y (λ (u : x ≡ y). q (sym u)))) (eq_or y x));
  }

-- ---- for the run

some_any : (n : ℕ) (q : ℕ → Bool) → any n q ≡ is_some (first n q)
unfolding is_some
some_any n q = T-ext _ _ (λ t. let f : Found n q = any_elim n q t in first_has n q f.place f.below f.passes) (λ t. go (first n q) refl t)
  where
    go : (o : Option ℕ) → first n q ≡ o → T (is_some o) → T (any n q)
    go none e t = absurd t
    go (some k) e t = let f = first_some n q k e in any_intro n q k f.0 f.1

pub number_has : (n : ℕ) (v : ℕ → Option ℕ) (g from k : ℕ) (flags : List Bool) → Numbers v g from n flags → from ≤ k → k - from < 1024
    → get_or flags (k - from) false ≡ has n v (k * 4 + g)
unfolding has find log_r
number_has n v g from k flags s l h =
    let e : from + (k - from) ≡ k = omega arith in
    s.exact (k - from) h ∙ rw e (some_any n (λ i. is (v i) (k * 4 + g)))
