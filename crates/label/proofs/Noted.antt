-- Which blocks are older copies, all at once: the newer copy's path is among those that have a mark.
use Prim.Native.Nat.{ℕ, ◌+◌, ◌%◌, ◌≤◌, ◌<◌, min}
use native.Mathlib.Omega.{arith}
use mathlib.Core.Bool.{Bool, true, false, not, ◌&&◌}
use mathlib.Core.List.{List}
use mathlib.Core.Path.{◌≡◌, sym, ap, ◌∙◌, subst}
use mathlib.Core.Logic.{◌≢◌, ⊎_elim}
use lib.ListN.{length, get_or, set, replicate, length-set, length-replicate, get_or-replicate}
use lib.Seq.{get_or-set_same, get_or-set_other}
use lib.Dec.{T, eqb, ltb, eqb→eq}
use borrow.Author.Tests.{lt-ltb, le-ltb, eq-eqb, ne_eqb}
use Rattle.base.specs.Scan.{any}
use Rattle.base.proofs.Tests.{is_false, not_both, and_r, eqb_of, eq_or, lt_or}
use Rattle.base.proofs.Scans.{Found, any_intro, any_elim}
use Rattle.meaning.specs.declared.Tag.TheVariants.{Free}
use Rattle.meaning.specs.Flash.{Labels, labels_of, same_tag}
use Rattle.meaning.specs.Labels.{older}
use Rattle.label.specs.Search.{labelled, newer_path, Noted, Olders}
use Rattle.label.proofs.Older.{older_label}
use Rattle.label.proofs.Paths.{any_none, any_more, or_no, or_yes}

-- ---- the marks

pub noted_none : (paths : List ℕ) → Noted paths 0 (replicate 1024 false)
noted_none paths = record { long = length-replicate 1024 false; exact = λ h l. get_or-replicate 1024 h false false l ∙ any_none _ }

pub noted_more : (paths : List ℕ) (marks : List Bool) (k l : ℕ) → Noted paths k marks → (l ≡ get_or paths k 0 % 1024) × (l < 1024) → Noted paths (k + 1) (set marks l true)
noted_more paths marks k l n e = record {
  long = length-set marks l true ∙ n.long;
  exact = λ h b. any_more (λ i. eqb (get_or paths i 0 % 1024) h) k (n.exact h b) (⊎_elim
      (λ (q : h ≡ l). rw q (get_or-set_same marks l true false (omega (arith, n.long, e.1)) ∙ or_yes (get_or marks l false) (eq-eqb _ _ (sym e.0))))
      (λ (q : h ≢ l). get_or-set_other marks l h true false q ∙ or_no (get_or marks h false) (ne_eqb _ _ (λ s. q (sym s ∙ sym e.0)))) (eq_or h l));
}

-- ---- no mark, no newer copy: q is the code's path of block i, p that of its newer copy

pub older_unmarked : (tags paths : List ℕ) (marks : List Bool) (i q p l : ℕ) → Noted paths (length paths) marks → length tags ≤ length paths → q ≡ get_or paths i 0
    → p ≡ newer_path q → l ≡ p % 1024 → get_or marks l false ≡ false → false ≡ older (length tags) (labels_of tags paths) i
unfolding labelled labels_of
older_unmarked tags paths marks i q p l n h e f g o = sym (is_false _ (λ t.
    let m = labels_of tags paths in
    let s : Found (length tags) (labelled m (m.tag i) (newer_path (m.path i))) = any_elim _ _ (and_r (not (same_tag (m.tag i) Free)) _ (subst T (older_label (length tags) m i) t)) in
    let a : get_or paths s.place 0 ≡ newer_path (get_or paths i 0) = eqb→eq _ _ (and_r (same_tag (m.tag s.place) (m.tag i)) _ s.passes) in
    let b : get_or paths s.place 0 % 1024 ≡ l = ap (λ (k : ℕ). k % 1024) (a ∙ ap newer_path (sym e) ∙ sym f) ∙ sym g in
    not_both (any (length paths) (λ k. eqb (get_or paths k 0 % 1024) l)) (sym (n.exact l (omega arith)) ∙ o)
    (any_intro (length paths) (λ k. eqb (get_or paths k 0 % 1024) l) s.place (omega (arith, s.below)) (eqb_of b))))

-- ---- the flags

module _ (n : ℕ) (m : Labels) where
  pub olders_none : Olders n m 0 (replicate 1024 false)
  olders_none = record { long = length-replicate 1024 false; exact = λ i h. get_or-replicate 1024 i false false h ∙ sym (ap (λ (b : Bool). b && older n m i) (le-ltb i 0 (omega arith))) }

  module _ (k : ℕ) (flags : List Bool) (o : Olders n m k flags) where
    pub olders_more : (v : Bool) → k < 1024 → v ≡ older n m k → Olders n m (k + 1) (set flags k v)
    olders_more v l e = record {
      long = length-set flags k v ∙ o.long;
      exact = λ i h. ⊎_elim
          (λ (q : i ≡ k). rw q (get_or-set_same flags k v false (omega (arith, o.long)) ∙ e ∙ sym (ap (λ (b : Bool). b && older n m k) (lt-ltb k (k + 1) (omega arith)))))
          (λ (q : i ≢ k). get_or-set_other flags k i v false q ∙ o.exact i h ∙ ap (λ (b : Bool). b && older n m i) (one_on i q)) (eq_or i k);
    }
      where
        one_on : (i : ℕ) → i ≢ k → ltb i k ≡ ltb i (k + 1)
        one_on i q = ⊎_elim (λ (h : i < k). lt-ltb i k h ∙ sym (lt-ltb i (k + 1) (omega arith))) (λ (h : k ≤ i). le-ltb i k h ∙ sym (le-ltb i (k + 1) (omega arith))) (lt_or i k)

    -- as many as there are, up to 1024
    pub olders_all : min n 1024 ≤ k → k ≤ n → Olders n m n flags
    olders_all a b = record {
      long = o.long;
      exact = λ i h. o.exact i h ∙ ap (λ (c : Bool). c && older n m i) (⊎_elim (λ (l : i < k). lt-ltb i k l ∙ sym (lt-ltb i n (omega arith))) (λ (l : k ≤ i). le-ltb i k l ∙ sym (le-ltb i n (omega arith))) (lt_or i k));
    }

  -- for callers: the flag of a block
  pub olders_at : (flags : List Bool) (i : ℕ) → Olders n m n flags → i < n → i < 1024 → get_or flags i false ≡ older n m i
  olders_at flags i o a b = o.exact i b ∙ ap (λ (c : Bool). c && older n m i) (lt-ltb i n a)
