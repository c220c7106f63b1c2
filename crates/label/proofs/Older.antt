-- The newer copy of a block has a label that is known whole; and what a view shows.
use Prim.Native.Nat.{ℕ, zero, suc, ◌+◌, ◌*◌, ◌/◌, ◌%◌}
use native.Mathlib.Omega.{arith}
use mathlib.Core.Bool.{Bool, true, false, not, ◌&&◌}
use mathlib.Core.List.{List}
use mathlib.Core.Path.{◌≡◌, refl, sym, ap, ap₂, ◌∙◌}
use mathlib.Core.Logic.{◌≢◌}
use lib.ListN.{length, get_or}
use lib.Dec.{eqb, eqb→eq}
use borrow.Author.Tests.{eq-eqb, ne_eqb}
use Rattle.base.specs.Choice.{test, provided}
use Rattle.base.specs.Scan.{any}
use Rattle.base.proofs.Tests.{T-ext, eqb_of, and_l, and_r, and_i}
use Rattle.base.proofs.Scans.{any_cong}
use denote.Enum.Bare.{sameb}
use Rattle.meaning.specs.contracts.Tag.{the_type}
use Rattle.label.proofs.Said.{same_tags}
use Rattle.meaning.specs.declared.Tag.{Tag}
use Rattle.meaning.specs.declared.Tag.TheVariants.{Free}
use Rattle.meaning.specs.Flash.{Labels, copy_of, follows, labels_of, path_of, r_of, same_tag, successor, tag_of}
use Rattle.meaning.specs.Labels.{counts, is, newer, older, same_block, view}
use Rattle.label.specs.Search.{labelled, newer_path}

-- equal r and the next copy generation, as one path
one_path : (p q : ℕ) → (eqb (r_of q) (r_of p) && follows (copy_of q) (copy_of p)) ≡ eqb q (newer_path p)
unfolding r_of copy_of follows successor newer_path path_of
one_path p q = T-ext _ _
    (λ t.
    let a : q / 4 ≡ p / 4 = eqb→eq (q / 4) (p / 4) (and_l (eqb (q / 4) (p / 4)) _ t) in
    let b : q % 4 ≡ (p % 4 + 1) % 4 = eqb→eq (q % 4) ((p % 4 + 1) % 4) (and_r (eqb (q / 4) (p / 4)) _ t) in
    eqb_of {m = q} {n = p / 4 * 4 + (p % 4 + 1) % 4} (omega arith))
    (λ t.
    let e : q ≡ p / 4 * 4 + (p % 4 + 1) % 4 = eqb→eq q (p / 4 * 4 + (p % 4 + 1) % 4) t in
    let a : q / 4 ≡ p / 4 = omega arith in
    let b : q % 4 ≡ (p % 4 + 1) % 4 = omega arith in
    and_i (eqb (q / 4) (p / 4)) _ (eqb_of a) (eqb_of b))

join : (a b c d : Bool) {e : Bool} → (c && d) ≡ e → (a && b && c && d) ≡ (a && (b && e))
join true true c d h = h
join true false c d h = refl
join false b c d h = refl

newer_label : (m : Labels) (j i : ℕ) → newer m j i ≡ (not (same_tag (m.tag i) Free) && labelled m (m.tag i) (newer_path (m.path i)) j)
unfolding newer same_block labelled
newer_label m j i =
    join (not (same_tag (m.tag i) Free)) (same_tag (m.tag j) (m.tag i)) (eqb (r_of (m.path j)) (r_of (m.path i)))
    (follows (copy_of (m.path j)) (copy_of (m.path i))) (one_path (m.path i) (m.path j))

never : (n : ℕ) → any n (λ j. false) ≡ false
unfolding any
never zero = refl
never (suc n) = rw (never n)

any_and : (n : ℕ) (b : Bool) (p : ℕ → Bool) → any n (λ j. b && p j) ≡ (b && any n p)
any_and n true p = refl
any_and n false p = never n

pub older_label : (n : ℕ) (m : Labels) (i : ℕ) → older n m i ≡ (not (same_tag (m.tag i) Free) && any n (labelled m (m.tag i) (newer_path (m.path i))))
unfolding older
older_label n m i = any_cong n _ _ (λ j l. newer_label m j i) ∙ any_and n (not (same_tag (m.tag i) Free)) (labelled m (m.tag i) (newer_path (m.path i)))

module _ (tags paths : List ℕ) (i : ℕ) {v : Bool} {t : Tag} {b : ℕ} (e : v ≡ not (sameb the_type t Free)) (f : t ≡ tag_of b) (h : b ≡ get_or tags i 0) where
  tag : t ≡ (labels_of tags paths).tag i
  unfolding labels_of
  tag = f ∙ ap tag_of h

  free : v ≡ not (same_tag ((labels_of tags paths).tag i) Free)
  free = e ∙ ap not (same_tags t Free ∙ ap (λ (x : Tag). same_tag x Free) tag)

  pub older_free : v ≡ false → v ≡ older (length tags) (labels_of tags paths) i
  older_free g = g ∙ sym (older_label (length tags) (labels_of tags paths) i ∙ rw (sym free ∙ g))

  pub older_is : {w : Bool} {p q : ℕ} → v ≡ true → w ≡ any (length tags) (labelled (labels_of tags paths) t p) → p ≡ newer_path q → q ≡ get_or paths i 0
      → w ≡ older (length tags) (labels_of tags paths) i
  unfolding labels_of
  older_is {w} {p} {q} g k a c =
      k ∙ ap₂ (λ (s : Tag) (o : ℕ). any (length tags) (labelled (labels_of tags paths) s o)) tag (a ∙ ap newer_path c)
      ∙ sym (older_label (length tags) (labels_of tags paths) i ∙ rw (sym free ∙ g))

-- ---- what a view shows: x is the code's r of the place, c its answer whether the place counts

pub view_off : {c : Bool} (n : ℕ) (m : Labels) (t : Tag) (i : ℕ) (q : ℕ → Bool) → c ≡ counts n m t i → c ≡ false → false ≡ test q (view n m t i)
unfolding view test provided
view_off n m t i q h f = rw (sym h ∙ f)

module _ {x : ℕ} (n : ℕ) (m : Labels) (t : Tag) (i : ℕ) (e : x ≡ r_of (m.path i)) (q : ℕ → Bool) where
  pub view_fails : q x ≡ false → false ≡ test q (view n m t i)
  unfolding view test provided
  view_fails f = go (counts n m t i)
    where
      go : (c : Bool) → false ≡ test q (provided c (r_of (m.path i)))
      go true = sym f ∙ ap q e
      go false = refl

  pub view_passes : {c : Bool} → q x ≡ true → c ≡ counts n m t i → c ≡ test q (view n m t i)
  unfolding view test provided
  view_passes {c} f h = h ∙ go (counts n m t i)
    where
      go : (b : Bool) → b ≡ test q (provided b (r_of (m.path i)))
      go true = sym f ∙ ap q e
      go false = refl

  pub view_on : {c r : Bool} → c ≡ counts n m t i → c ≡ true → r ≡ q x → r ≡ test q (view n m t i)
  unfolding view test provided
  view_on h f g = rw (sym h ∙ f) (g ∙ ap q e)

-- the place stands for r
module _ {p : ℕ} (n : ℕ) (m : Labels) (t : Tag) (r i : ℕ) (e : p ≡ m.path i) where
  pub is_other : p / 4 ≢ r → false ≡ is (view n m t i) r
  unfolding is r_of
  is_other f = view_fails n m t i (ap (λ (k : ℕ). k / 4) e) (λ (k : ℕ). eqb k r) (ne_eqb (p / 4) r f)

  pub is_counted : {c : Bool} → p / 4 ≡ r → c ≡ counts n m t i → c ≡ is (view n m t i) r
  unfolding is r_of
  is_counted f h = view_passes n m t i (ap (λ (k : ℕ). k / 4) e) (λ (k : ℕ). eqb k r) (eq-eqb (p / 4) r f) h

pub ruleset olders = (older_free, older_is, is_other, is_counted)
