-- The low bits of r that two paths share: blocks that do not resolve are among those that have them.
use Prim.Native.Nat.{ℕ, ◌+◌, ◌%◌, ◌≤◌, ◌<◌, min}
use native.Mathlib.Omega.{arith}
use mathlib.Core.Path.{◌≡◌, sym, ap, ◌∙◌}
use mathlib.Core.Logic.{◌≢◌, ⊎_elim}
use mathlib.Core.Bool.{false}
use mathlib.Core.List.{List}
use lib.ListN.{length, get_or, set, replicate, length-set, length-replicate}
use lib.Seq.{get_or-set_same, get_or-set_other}
use Rattle.base.proofs.Tests.{eq_or, is_false}
use Rattle.meaning.specs.Flash.{labels_of, r_of}
use Rattle.meaning.specs.Labels.{unresolved}
use Rattle.plan.specs.Ask.{low_bits, Tallied}
use Rattle.plan.proofs.Copies.{fine_by}

pub tallied_none : (paths : List ℕ) → Tallied paths 0 (replicate 1024 0)
tallied_none paths = record {
  long = length-replicate {A = ℕ} 1024 0;
  one = λ h i a e. absurd (omega arith);
  two = λ h i j a b d e f. absurd (omega arith);
}

module _ (paths counts : List ℕ) (k : ℕ) (t : Tallied paths k counts) where
  abbrev at : ℕ → ℕ
  at i = low_bits (get_or paths i 0)

  -- v is the count of the low bits of path k, with that path
  pub tallied_more : (l v : ℕ) → (l ≡ at k) × (l < 1024) → v ≡ min (get_or counts l 0 + 1) 2 → Tallied paths (k + 1) (set counts l v)
  tallied_more l v e f = record {
    long = length-set counts l v ∙ t.long;
    one = λ h i a p. ⊎_elim (λ (q : h ≡ l). rw q (omega (arith, here, f))) (λ (q : h ≢ l). rw (other h q) (t.one h i (before h i q a p) p)) (eq_or h l);
    two = λ h i j a b d p q. ⊎_elim
        (λ (s : h ≡ l). rw s (rw here (⊎_elim (λ (u : i ≡ k). both j (omega arith) (q ∙ s)) (λ (u : i ≢ k). both i (omega arith) (p ∙ s)) (eq_or i k))))
        (λ (s : h ≢ l). rw (other h s) (t.two h i j (before h i s a p) (before h j s b q) d p q)) (eq_or h l);
  }
    where
      here : get_or (set counts l v) l 0 ≡ v
      here = get_or-set_same counts l v 0 (omega (arith, t.long, e.1))

      other : (h : ℕ) → h ≢ l → get_or (set counts l v) h 0 ≡ get_or counts h 0
      other h q = get_or-set_other counts l h v 0 q

      -- a path with other low bits is not path k
      before : (h i : ℕ) → h ≢ l → i < k + 1 → at i ≡ h → i < k
      before h i q a p = let n : i ≢ k = λ s. q (sym p ∙ ap at s ∙ sym e.0) in omega arith

      -- one that has the same was counted before
      both : (i : ℕ) → i < k → at i ≡ l → 2 ≤ v
      both i a p = omega (arith, t.one l i a p, f)

-- v is the count of the low bits of block i, p its path
pub alone_fine : (tags paths counts : List ℕ) (i p l : ℕ) → Tallied paths (length paths) counts → length tags ≤ length paths → p ≡ (labels_of tags paths).path i
    → l ≡ low_bits p → get_or counts l 0 < 2 → false ≡ unresolved (length tags) (labels_of tags paths) i
unfolding labels_of low_bits
alone_fine tags paths counts i p l t n e f h = sym (is_false _ (fine_by (labels_of tags paths) (length tags) i (λ j k a b d s u w.
    let x : low_bits (get_or paths j 0) ≡ l = low j s.2 in
    let y : low_bits (get_or paths k 0) ≡ l = low k u.2 in
    omega (arith, t.two l j k (omega arith) (omega arith) d x y))))
  where
    low : (j : ℕ) → r_of (get_or paths j 0) ≡ r_of (get_or paths i 0) → low_bits (get_or paths j 0) ≡ l
    low j q = ap (λ (r : ℕ). r % 1024) q ∙ ap low_bits (sym e) ∙ sym f
