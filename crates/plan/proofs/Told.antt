-- What the code is told of one place or number: a law for each way out that `sure` does not find.
use Prim.Native.Nat.{ℕ, ◌+◌, ◌-◌, ◌*◌, ◌/◌, ◌%◌, ◌≤◌, ◌<◌}
use native.Mathlib.Nat.{mul-le-mul}
use native.Mathlib.Omega.{arith}
use mathlib.Core.Bool.{Bool, true, false, not, ◌&&◌}
use mathlib.Core.List.{List}
use mathlib.Core.Option.{Option, none, some}
use Rattle.std.specs.Prelude as answer
use Rattle.std.specs.Prelude.{Some, None}
use mathlib.Core.Path.{◌≡◌, refl, sym, ap, ap₂, ◌∙◌}
use mathlib.Core.Logic.{◌≢◌, ⊎_elim}
use lib.ListN.{get_or}
use lib.Dec.{eqb, ltb}
use borrow.Author.Tests.{eq-eqb, ne_eqb, lt-ltb, le-ltb, lt-leb, not-true, not-false}
use Rattle.base.specs.Choice.{if_true, is_some, on_some, provided, test}
use Rattle.base.proofs.Tests.{lt_or}
use Rattle.meaning.specs.declared.Block.{Block}
use Rattle.meaning.specs.declared.Plan.{Plan}
use Rattle.meaning.specs.declared.Tag.{Tag}
use Rattle.meaning.specs.Flash.{Labels, bad_path, bad_tag, copy_of, follows, labels_of, log_generation, log_number, log_r, r_of, tag_of}
use Rattle.meaning.specs.Labels.{counts, dropped, find, generation_at, has, has_generation, in_active, placed, view}
use Rattle.label.specs.Search.{found}
use Rattle.label.proofs.Older.{view_fails, view_passes}
use Rattle.label.proofs.Scanned.{Clear}
use Rattle.meaning.specs.Labels.{of_generation, unplaced}
use Rattle.plan.specs.Ask.{apart, bearer, lower}

-- ---- lengths

pub contents_below : (blocks size pages x : ℕ) → x ≡ size * pages → blocks ≤ 65535 → size ≤ 65535 → pages ≤ 65535 → blocks * x ≤ 65535 * (65535 * 65535)
contents_below blocks size pages x e a b c = rw e (mul-le-mul a (mul-le-mul b c))

pub contents_is : {x : ℕ} (b c s : ℕ) → x ≡ s → eqb c (b * x) ≡ eqb c (b * s)
contents_is b c s e = ap (λ (k : ℕ). eqb c (b * k)) e

-- ---- one label

module _ (tags paths : List ℕ) (i : ℕ) where
  pub bad_tag_is : {x : Bool} {b : ℕ} → x ≡ bad_tag (tag_of b) → b ≡ get_or tags i 0 → x ≡ bad_tag ((labels_of tags paths).tag i)
  unfolding labels_of
  bad_tag_is e f = e ∙ ap (λ (k : ℕ). bad_tag (tag_of k)) f

  pub bad_path_is : {x : Bool} {b p : ℕ} → x ≡ bad_path (tag_of b) p → b ≡ get_or tags i 0 → p ≡ get_or paths i 0
      → x ≡ bad_path ((labels_of tags paths).tag i) ((labels_of tags paths).path i)
  unfolding labels_of
  bad_path_is e f g = e ∙ ap₂ (λ (k p : ℕ). bad_path (tag_of k) p) f g

  pub copy_is : {x p : ℕ} → x ≡ copy_of p → p ≡ get_or paths i 0 → x ≡ copy_of ((labels_of tags paths).path i)
  unfolding labels_of
  copy_is e f = e ∙ ap copy_of f

module _ {v : Bool} {a b : ℕ} (m : Labels) (i j : ℕ) (e : a ≡ copy_of (m.path i)) (f : b ≡ copy_of (m.path j)) (g : v ≡ follows a b) where
  pub apart_no : v ≡ true → not v ≡ apart m i j
  unfolding apart
  apart_no h = rw (h, ← e, ← f, ← g, h)

  pub apart_is : {w : Bool} → v ≡ false → w ≡ follows b a → not w ≡ apart m i j
  unfolding apart
  apart_is h k = rw (← e, ← f, ← g, h, ← k)

pub ruleset told_label = (bad_tag_is, bad_path_is, copy_is, apart_no, apart_is)

pub clear_from : (m : Labels) (t : Tag) (r from : ℕ) → Clear (bearer m t r from) from
unfolding bearer
clear_from m t r from = record { none = λ k q. rw (lt-leb from k q) }

-- ---- the search

pub has_found : {x : answer.Option Block} (n : ℕ) (v : ℕ → Option ℕ) (r : ℕ) → x ≡ found (find n v r) → answer.is_some x ≡ has n v r
unfolding has is_some found
has_found n v r e = rw e (go (find n v r))
  where
    go : (o : Option ℕ) → answer.is_some (found o) ≡ is_some o
    go none = refl
    go (some i) = refl

pub find_is : {x : answer.Option Block} {g : ℕ} (n : ℕ) (v : ℕ → Option ℕ) (p : Plan) (k : ℕ) → x ≡ found (find n v (k * 4 + g)) → g ≡ generation_at p k
    → x ≡ found (find n v (log_r k (generation_at p k)))
unfolding log_r
find_is n v p k e f = e ∙ ap (λ (h : ℕ). found (find n v (k * 4 + h))) f

-- ---- what a log block's r says: p is the code's path of place i

module _ {p : ℕ} (n : ℕ) (m : Labels) (t : Tag) (i : ℕ) (e : p ≡ m.path i) where
  its_r : p / 4 ≡ r_of (m.path i)
  unfolding r_of
  its_r = ap (λ (k : ℕ). k / 4) e

  module _ (g : ℕ) where
    pub generation_other : p / 4 % 4 ≢ g → false ≡ of_generation g (view n m t i)
    unfolding of_generation log_generation
    generation_other f = view_fails n m t i its_r (λ (r : ℕ). eqb (r % 4) g) (ne_eqb (p / 4 % 4) g f)

    pub generation_same : {c : Bool} → p / 4 % 4 ≡ g → c ≡ counts n m t i → c ≡ of_generation g (view n m t i)
    unfolding of_generation log_generation
    generation_same f h = view_passes n m t i its_r (λ (r : ℕ). eqb (r % 4) g) (eq-eqb (p / 4 % 4) g f) h

    module _ (best : ℕ) where
      keeps : (eqb (p / 4 % 4) g && ltb (p / 4 / 4) best) ≡ false → best ≡ lower g best (view n m t i)
      unfolding lower on_some view provided if_true log_generation log_number
      keeps f = go (counts n m t i)
        where
          go : (c : Bool) → best ≡ lower g best (provided c (r_of (m.path i)))
          go true = rw (← its_r, f)
          go false = refl

      pub lower_other : p / 4 % 4 ≢ g → best ≡ lower g best (view n m t i)
      lower_other f = keeps (rw (ne_eqb (p / 4 % 4) g f))

      pub lower_high : best ≤ p / 4 / 4 → best ≡ lower g best (view n m t i)
      lower_high l = keeps (go (eqb (p / 4 % 4) g))
        where
          go : (b : Bool) → (b && ltb (p / 4 / 4) best) ≡ false
          go true = le-ltb (p / 4 / 4) best l
          go false = refl

      pub lower_off : {c : Bool} → c ≡ counts n m t i → c ≡ false → best ≡ lower g best (view n m t i)
      unfolding lower on_some view provided
      lower_off h f = rw (sym h ∙ f)

      pub lower_new : {c : Bool} → p / 4 % 4 ≡ g → p / 4 / 4 < best → c ≡ counts n m t i → c ≡ true → p / 4 / 4 ≡ lower g best (view n m t i)
      unfolding lower on_some view provided if_true log_generation log_number
      lower_new f l h k = rw (sym h ∙ k, ← its_r, eq-eqb (p / 4 % 4) g f, lt-ltb (p / 4 / 4) best l)

  module _ {v : Bool} (q : Plan) where
    pub stray_held : v ≡ placed q (p / 4) → v ≡ true → false ≡ unplaced q (view n m t i)
    unfolding unplaced
    stray_held f h = view_fails n m t i its_r (λ (r : ℕ). not (placed q r)) (rw (← f, h))

    pub stray_is : {c : Bool} → v ≡ placed q (p / 4) → v ≡ false → c ≡ counts n m t i → c ≡ unplaced q (view n m t i)
    unfolding unplaced
    stray_is f h k = view_passes n m t i its_r (λ (r : ℕ). not (placed q r)) (rw (← f, h)) k

    pub dropped_not : v ≡ dropped q (p / 4) → v ≡ false → false ≡ test (dropped q) (view n m t i)
    dropped_not f h = view_fails n m t i its_r (dropped q) (sym f ∙ h)

    pub dropped_is : {c : Bool} → v ≡ dropped q (p / 4) → v ≡ true → c ≡ counts n m t i → c ≡ test (dropped q) (view n m t i)
    dropped_is f h k = view_passes n m t i its_r (dropped q) (sym f ∙ h) k

pub ruleset told_log = (generation_other, generation_same, lower_other, lower_high, lower_off, lower_new, stray_held, stray_is, dropped_not, dropped_is, not-true, not-false)

-- ---- tests on the plan

module _ (p : Plan) (r : ℕ) where
  pub active_other : r % 4 ≢ p.generation → false ≡ in_active p r
  unfolding in_active log_generation
  active_other f = rw (ne_eqb (r % 4) p.generation f)

  module _ (e : r % 4 ≡ p.generation) where
    pub active_low : r / 4 < p.start.0 → true ≡ in_active p r
    unfolding in_active log_generation log_number
    active_low l =
        let h : r / 4 < p.start.0 + p.active = omega arith in
        rw (eq-eqb (r % 4) p.generation e, lt-ltb (r / 4) (p.start.0 + p.active) h)

    pub active_is : p.start.0 ≤ r / 4 → ltb (r / 4 - p.start.0) p.active ≡ in_active p r
    unfolding in_active log_generation log_number
    active_is l = rw (eq-eqb (r % 4) p.generation e) (⊎_elim
        (λ (h : r / 4 - p.start.0 < p.active). lt-ltb (r / 4 - p.start.0) p.active h ∙ sym (lt-ltb (r / 4) (p.start.0 + p.active) (omega arith)))
        (λ (h : p.active ≤ r / 4 - p.start.0). le-ltb (r / 4 - p.start.0) p.active h ∙ sym (le-ltb (r / 4) (p.start.0 + p.active) (omega arith)))
        (lt_or (r / 4 - p.start.0) p.active))

pub ruleset actives = (active_other, active_low, active_is)

pub generation_is : {y : Bool} {s : ℕ} (n : ℕ) (v : ℕ → Option ℕ) (g : ℕ) → y ≡ has_generation n v s → s ≡ g → y ≡ has_generation n v g
generation_is n v g e f = e ∙ ap (has_generation n v) f
