-- "Extents are sorted, disjoint, not empty", first on the line of all extents and then by path and offset.
use mathlib.Core.Path.{◌≡◌, refl}
use mathlib.Core.Logic.{◌≢◌, inl, inr, ⊎_elim}
use mathlib.Core.List.{List, [], ◌∷◌, ◌++◌}
use Prim.Native.Nat.{ℕ, ◌+◌, ◌-◌, ◌≤◌, ◌<◌, min}
use native.Mathlib.Omega.{arith}
use Rattle.meaning.specs.declared.Extent.{Extent}
use Rattle.base.specs.Member.{All}
use Rattle.base.proofs.Tests.{eq_or}
use Rattle.base.proofs.Lists.{all_map, all_append, all_of, all_both}
use Rattle.base.proofs.Choices.{all_less, all_eq}
use Rattle.meaning.specs.Replay.{spot, start, end, front, back, before, after, lay, others}
use Rattle.replayed.specs.Shape.{Before, Sorted, Bounded}

-- x ends on the line before y begins
abbrev pub Ahead : Extent → Extent → Type 0
Ahead x y = end x ≤ start y

abbrev pub Lined : List Extent → Type 0
Lined [] = Unit {0}
Lined (x ∷ xs) = (0 < x.count) × All (Ahead x) xs × Lined xs

-- ---- one row's pieces

-- the front of x begins as x does; it ends at s at the latest
pub front_start : (s : ℕ) (x : Extent) → start (front s x) ≡ start x
unfolding start front
front_start s x = refl

pub front_end : (s : ℕ) (x : Extent) → start x < s → end (front s x) ≡ min (end x) s
unfolding end start front
front_end s x l = omega arith

pub front_address : (s : ℕ) (x : Extent) → (front s x).address ≡ x.address
unfolding front
front_address s x = refl

-- the back of x ends as x does; it begins at e at the earliest
pub back_start : (e : ℕ) (x : Extent) → start (back e x) ≡ start x + (e - start x)
unfolding start back spot
back_start e x = omega arith

pub back_end : (e : ℕ) (x : Extent) → e < end x → end (back e x) ≡ end x
unfolding end start back spot
back_end e x l = omega arith

pub back_address : (e : ℕ) (x : Extent) → (back e x).address ≡ x.address + (e - start x)
unfolding back
back_address e x = refl

pub back_left : (e : ℕ) (x : Extent) → 0 < x.count → e < end x → 0 < (back e x).count
unfolding end back
back_left e x c l = omega arith

pub start_end : (x : Extent) → start x ≤ end x
unfolding end
start_end x = omega arith

-- ---- what holds of the rows

pub before_all : (Q : Extent → Type 0) (s : ℕ) (xs : List Extent) → All (λ (x : Extent). start x < s → Q (front s x)) xs → All Q (before s xs)
unfolding before
before_all Q s [] h = tt
before_all Q s (x ∷ xs) h = all_less (All Q) _ _ _ _ (λ l. (h.0 l, before_all Q s xs h.1)) (λ l. before_all Q s xs h.1)

pub after_all : (Q : Extent → Type 0) (e : ℕ) (xs : List Extent) → All (λ (x : Extent). e < end x → Q (back e x)) xs → All Q (after e xs)
unfolding after
after_all Q e [] h = tt
after_all Q e (x ∷ xs) h = all_less (All Q) _ _ _ _ (λ l. (h.0 l, after_all Q e xs h.1)) (λ l. after_all Q e xs h.1)

pub lay_all : (Q : Extent → Type 0) (run : Extent) (xs : List Extent) → Q run
    → All (λ (x : Extent). (start x < start run → Q (front (start run) x)) × (end run < end x → Q (back (end run) x))) xs → All Q (lay run xs)
unfolding lay
lay_all Q run xs q h = all_append Q (before (start run) xs) (run ∷ after (end run) xs)
    (before_all Q (start run) xs (all_map _ _ xs (λ x k. k.0) h)) (q, after_all Q (end run) xs (all_map _ _ xs (λ x k. k.1) h))

pub others_all : (Q : Extent → Type 0) (p : ℕ) (xs : List Extent) → All (λ (x : Extent). x.path ≢ p → Q x) xs → All Q (others p xs)
unfolding others
others_all Q p [] h = tt
others_all Q p (x ∷ xs) h = all_eq (All Q) _ _ _ _ (λ e. others_all Q p xs h.1) (λ n. (h.0 n, others_all Q p xs h.1))

-- ---- in order on the line

before_low : (s : ℕ) (xs : List Extent) → All (λ (x : Extent). end x ≤ s) (before s xs)
before_low s xs = before_all (λ (x : Extent). end x ≤ s) s xs (all_of _ xs (λ x i l. omega (arith, front_end s x l)))

after_high : (e : ℕ) (xs : List Extent) → All (λ (x : Extent). e ≤ start x) (after e xs)
after_high e xs = after_all (λ (x : Extent). e ≤ start x) e xs (all_of _ xs (λ x i l. omega (arith, back_start e x)))

pub before_lined : (s : ℕ) (xs : List Extent) → Lined xs → Lined (before s xs)
unfolding before front
before_lined s [] h = tt
before_lined s (x ∷ xs) h = all_less Lined _ _ _ _
    (λ (l : start x < s). let c : 0 < x.count = h.0 in (
      omega arith,
      before_all (Ahead (front s x)) s xs (all_map (Ahead x) _ xs (λ y a k. omega (arith, front_end s x l, front_start s y)) h.1),
      before_lined s xs h.2,
    ))
    (λ l. before_lined s xs h.2)

pub after_lined : (e : ℕ) (xs : List Extent) → Lined xs → Lined (after e xs)
unfolding after
after_lined e [] h = tt
after_lined e (x ∷ xs) h = all_less Lined _ _ _ _
    (λ (l : e < end x). (
      back_left e x h.0 l,
      after_all (Ahead (back e x)) e xs (all_map (Ahead x) _ xs (λ y a k. omega (arith, back_end e x l, back_start e y)) h.1),
      after_lined e xs h.2,
    ))
    (λ l. after_lined e xs h.2)

pub lined_append : (xs ys : List Extent) → Lined xs → Lined ys → All (λ (x : Extent). All (Ahead x) ys) xs → Lined (xs ++ ys)
lined_append [] ys s r h = r
lined_append (x ∷ xs) ys s r h = (s.0, all_append (Ahead x) xs ys s.1 h.0, lined_append xs ys s.2 r h.1)

pub lay_lined : (run : Extent) (xs : List Extent) → 0 < run.count → Lined xs → Lined (lay run xs)
unfolding lay
lay_lined run xs c h =
    lined_append (before (start run) xs) (run ∷ after (end run) xs) (before_lined (start run) xs h)
    (c, after_high (end run) xs, after_lined (end run) xs h)
    (all_map (λ (x : Extent). end x ≤ start run) (λ (x : Extent). All (Ahead x) (run ∷ after (end run) xs)) (before (start run) xs)
    (λ x b. (
      b,
      all_map (λ (y : Extent). end run ≤ start y) (Ahead x) (after (end run) xs)
          (λ y k. omega (arith, start_end run)) (after_high (end run) xs),
    ))
    (before_low (start run) xs))

pub others_lined : (p : ℕ) (xs : List Extent) → Lined xs → Lined (others p xs)
unfolding others
others_lined p [] h = tt
others_lined p (x ∷ xs) h = all_eq Lined _ _ _ _ (λ e. others_lined p xs h.2)
    (λ n. (h.0, others_all (Ahead x) p xs (all_map (Ahead x) _ xs (λ y a k. a) h.1), others_lined p xs h.2))

-- ---- a run ends below 2^32 in its file, so the line's order is by path and then offset

ahead_before : (x y : Extent) → Bounded x → Bounded y → Ahead x y → Before x y
unfolding end start spot
ahead_before x y b c a = ⊎_elim (λ (e : x.path ≡ y.path). inr (e, omega arith))
    (λ (n : x.path ≢ y.path). inl (omega arith)) (eq_or x.path y.path)

before_ahead : (x y : Extent) → Bounded x → Before x y → Ahead x y
unfolding end start spot
before_ahead x y b (inl l) = omega arith
before_ahead x y b (inr l) = omega arith

pub lined_sorted : (xs : List Extent) → All Bounded xs → Lined xs → Sorted xs
lined_sorted [] b h = tt
lined_sorted (x ∷ xs) b h = (
  h.0,
  all_both Bounded (Ahead x) (Before x) xs (λ y c a. ahead_before x y b.0 c a) b.1 h.1,
  lined_sorted xs b.1 h.2,
)

pub sorted_lined : (xs : List Extent) → All Bounded xs → Sorted xs → Lined xs
sorted_lined [] b h = tt
sorted_lined (x ∷ xs) b h = (
  h.0,
  all_map (Before x) (Ahead x) xs (λ y a. before_ahead x y b.0 a) h.1,
  sorted_lined xs b.1 h.2,
)
