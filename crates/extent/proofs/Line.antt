-- Extents on the line: what stands before and after a run, where they are in order.
use Prim.Native.Nat.{ℕ, zero, suc, ◌+◌, ◌-◌, ◌≤◌, ◌<◌, min}
use mathlib.Core.Bool.{Bool, true, false}
use mathlib.Core.Path.{◌≡◌, refl, sym, ap, ◌∙◌}
use mathlib.Core.List.{List, [], ◌∷◌, ◌++◌, append-nil}
use native.Mathlib.Omega.{arith}
use native.Mathlib.Nat.{add-zero, le_of_suc-le-suc}
use lib.Dec.{ltb, eqb}
use lib.ListN.{length, take, drop, get_or, take-append-drop}
use Rattle.meaning.specs.declared.Extent.{Extent}
use Rattle.base.specs.Choice.{if_true, if_less, if_eq}
use Rattle.base.specs.Member.{All}
use Rattle.base.proofs.Lists.{all_map, all_both}
use Rattle.base.proofs.Choices.{less_yes, less_no}
use Rattle.meaning.specs.Replay.{start, end, front, back, before, after, lay}
use Rattle.extent.specs.Rows.{Lined, Split, EndsBy, StartsFrom}

-- ---- lists in general

pub all_drop : {A : Type 0} (P : A → Type 0) (xs : List A) (j k : ℕ) → j ≤ k → All P (drop j xs) → All P (drop k xs)
all_drop P [] j zero h p = tt
all_drop P [] j (suc k) h p = tt
all_drop P (x ∷ xs) zero zero h p = p
all_drop P (x ∷ xs) zero (suc k) h p = all_drop P xs zero k (omega arith) (whole xs p.1)
  where
    whole : (ys : List _) → All P ys → All P (drop 0 ys)
    whole [] q = q
    whole (y ∷ ys) q = q
all_drop P (x ∷ xs) (suc j) zero h p = absurd (omega arith)
all_drop P (x ∷ xs) (suc j) (suc k) h p = all_drop P xs j k (le_of_suc-le-suc h) p

push : {A : Type 0} (b : Bool) (x y w : List A) → if_true b x y ++ w ≡ if_true b (x ++ w) (y ++ w)
unfolding if_true
push true x y w = refl
push false x y w = refl

pub push_less : {A : Type 0} (a b : ℕ) (x y w : List A) → if_less a b x y ++ w ≡ if_less a b (x ++ w) (y ++ w)
unfolding if_less
push_less a b x y w = push (ltb a b) x y w

pub push_eq : {A : Type 0} (a b : ℕ) (x y w : List A) → if_eq a b x y ++ w ≡ if_eq a b (x ++ w) (y ++ w)
unfolding if_eq
push_eq a b x y w = push (eqb a b) x y w

-- ---- one extent

pub start_end : (x : Extent) → end x ≡ start x + x.count
unfolding end
start_end x = refl

pub front_same : (s : ℕ) (x : Extent) → end x ≤ s → front s x ≡ x
unfolding front end
front_same s x h = let e : min x.count (s - start x) ≡ x.count = omega arith in rw e

pub back_same : (e : ℕ) (x : Extent) → e ≤ start x → back e x ≡ x
unfolding back
back_same e x h =
    let z : e - start x ≡ 0 = omega arith in
    let y : x.count - 0 ≡ x.count = omega arith in
    rw (z, add-zero x.offset, add-zero x.address, y)

-- ---- before and after

pub before_append : (s : ℕ) (xs ys : List Extent) → before s (xs ++ ys) ≡ before s xs ++ before s ys
unfolding before
before_append s [] ys = refl
before_append s (x ∷ xs) ys = rw (before_append s xs ys) (sym (push_less (start x) s (front s x ∷ before s xs) (before s xs) (before s ys)))

pub before_none : (s : ℕ) (xs : List Extent) → All (λ (x : Extent). s ≤ start x) xs → before s xs ≡ []
unfolding before
before_none s [] h = refl
before_none s (x ∷ xs) h = less_no _ _ _ _ h.0 ∙ before_none s xs h.1

-- extents that are not empty and end by s
pub before_same : (s : ℕ) (xs : List Extent) → All (EndsBy s) xs → before s xs ≡ xs
unfolding before
before_same s [] h = refl
before_same s (x ∷ xs) h =
    let c : 0 < x.count = h.0.0 in
    let l : end x ≤ s = h.0.1 in
    less_yes _ _ _ _ (omega (arith, start_end x)) ∙ rw (front_same s x l, before_same s xs h.1)

pub before_length : (s : ℕ) (xs : List Extent) → All (λ (x : Extent). start x < s) xs → length (before s xs) ≡ length xs
unfolding before
before_length s [] h = refl
before_length s (x ∷ xs) h = rw (less_yes (start x) s (front s x ∷ before s xs) (before s xs) h.0) (ap suc (before_length s xs h.1))

pub after_append : (e : ℕ) (xs ys : List Extent) → after e (xs ++ ys) ≡ after e xs ++ after e ys
unfolding after
after_append e [] ys = refl
after_append e (x ∷ xs) ys = rw (after_append e xs ys) (sym (push_less e (end x) (back e x ∷ after e xs) (after e xs) (after e ys)))

pub after_none : (e : ℕ) (xs : List Extent) → All (λ (x : Extent). end x ≤ e) xs → after e xs ≡ []
unfolding after
after_none e [] h = refl
after_none e (x ∷ xs) h = less_no _ _ _ _ h.0 ∙ after_none e xs h.1

pub after_same : (e : ℕ) (xs : List Extent) → All (StartsFrom e) xs → after e xs ≡ xs
unfolding after
after_same e [] h = refl
after_same e (x ∷ xs) h =
    let c : 0 < x.count = h.0.0 in
    let l : e ≤ start x = h.0.1 in
    less_yes _ _ _ _ (omega (arith, start_end x)) ∙ rw (back_same e x l, after_same e xs h.1)

-- ---- extents in order

pub lined_le : (lo hi : ℕ) (xs : List Extent) → Lined lo hi xs → lo ≤ hi
lined_le lo hi [] w = w
lined_le lo hi (x ∷ xs) w = let h : end x ≤ hi = lined_le (end x) hi xs w.2 in omega (arith, start_end x, w.0)

pub lined_wider : (lo mid hi : ℕ) (xs : List Extent) → lo ≤ mid → Lined mid hi xs → Lined lo hi xs
lined_wider lo mid hi [] h w = omega arith
lined_wider lo mid hi (x ∷ xs) h w = let g : mid ≤ start x = w.0 in (omega arith, w.1, w.2)

pub lined_higher : (lo hi top : ℕ) (xs : List Extent) → hi ≤ top → Lined lo hi xs → Lined lo top xs
lined_higher lo hi top [] h w = omega arith
lined_higher lo hi top (x ∷ xs) h w = (w.0, w.1, lined_higher (end x) hi top xs h w.2)

pub lined_append : (lo mid hi : ℕ) (xs ys : List Extent) → Lined lo mid xs → Lined mid hi ys → Lined lo hi (xs ++ ys)
lined_append lo mid hi [] ys w u = lined_wider lo mid hi ys w u
lined_append lo mid hi (x ∷ xs) ys w u = (w.0, w.1, lined_append (end x) mid hi xs ys w.2 u)

pub lined_left : (lo hi : ℕ) (xs ys : List Extent) → Lined lo hi (xs ++ ys) → Lined lo hi xs
lined_left lo hi [] ys w = lined_le lo hi ys w
lined_left lo hi (x ∷ xs) ys w = (w.0, w.1, lined_left (end x) hi xs ys w.2)

pub lined_right : (lo hi : ℕ) (xs ys : List Extent) → Lined lo hi (xs ++ ys) → Lined lo hi ys
lined_right lo hi [] ys w = w
lined_right lo hi (x ∷ xs) ys w =
    let g : lo ≤ start x = w.0 in
    lined_wider lo (end x) hi ys (omega (arith, start_end x)) (lined_right (end x) hi xs ys w.2)

-- all are not empty, and start from lo on
pub lined_above : (lo hi e : ℕ) (xs : List Extent) → Lined lo hi xs → e ≤ lo → All (StartsFrom e) xs
lined_above lo hi e [] w h = tt
lined_above lo hi e (x ∷ xs) w h =
    let g : lo ≤ start x = w.0 in
    ((w.1.some, omega arith), lined_above (end x) hi e xs w.2 (omega (arith, start_end x)))

pub lined_below : (lo hi s : ℕ) (xs : List Extent) → Lined lo hi xs → hi ≤ s → All (EndsBy s) xs
lined_below lo hi s [] w h = tt
lined_below lo hi s (x ∷ xs) w h =
    let g : end x ≤ hi = lined_le (end x) hi xs w.2 in
    ((w.1.some, omega arith), lined_below (end x) hi s xs w.2 h)

pub starts_from : (lo hi e : ℕ) (xs : List Extent) → Lined lo hi xs → e ≤ lo → All (λ (x : Extent). e ≤ start x) xs
starts_from lo hi e xs w h = all_map (StartsFrom e) (λ (x : Extent). e ≤ start x) xs (λ x p. p.1) (lined_above lo hi e xs w h)

-- what the extent at mid says of those before it, and of those from it on
pub low_upto : (lo hi : ℕ) (xs : List Extent) (d : Extent) (mid k key : ℕ) → Lined lo hi xs → mid < length xs → k ≤ suc mid → start (get_or xs mid d) < key
    → All (λ (x : Extent). start x < key) (take k xs)
low_upto lo hi xs d mid zero key w l e h = tt
low_upto lo hi [] d mid (suc k) key w l e h = tt
low_upto lo hi (x ∷ xs) d zero (suc k) key w l e h = let z : k ≡ 0 = omega arith in rw z (h, tt)
low_upto lo hi (x ∷ xs) d (suc mid) (suc k) key w l e h =
    (omega (arith, start_end x, low_at (end x) hi xs mid w.2 (le_of_suc-le-suc l)), low_upto (end x) hi xs d mid k key w.2 (le_of_suc-le-suc l) (le_of_suc-le-suc e) h)
  where
    low_at : (lo hi : ℕ) (ys : List Extent) (i : ℕ) → Lined lo hi ys → i < length ys → lo ≤ start (get_or ys i d)
    low_at lo hi [] i w l = omega arith
    low_at lo hi (y ∷ ys) zero w l = w.0
    low_at lo hi (y ∷ ys) (suc i) w l = let g : lo ≤ start y = w.0 in omega (arith, start_end y, low_at (end y) hi ys i w.2 (le_of_suc-le-suc l))

high_at : (lo hi : ℕ) (xs : List Extent) (d : Extent) (mid key : ℕ) → Lined lo hi xs → mid < length xs → key ≤ start (get_or xs mid d)
    → All (λ (x : Extent). key ≤ start x) (drop mid xs)
high_at lo hi [] d mid key w l h = absurd (omega arith)
high_at lo hi (x ∷ xs) d zero key w l h = (h, starts_from (end x) hi key xs w.2 (omega (arith, start_end x)))
high_at lo hi (x ∷ xs) d (suc mid) key w l h = high_at (end x) hi xs d mid key w.2 (le_of_suc-le-suc l) h

pub high_from : (lo hi : ℕ) (xs : List Extent) (d : Extent) (mid k key : ℕ) → Lined lo hi xs → mid < length xs → mid ≤ k → key ≤ start (get_or xs mid d)
    → All (λ (x : Extent). key ≤ start x) (drop k xs)
high_from lo hi xs d mid k key w l e h = all_drop (λ (x : Extent). key ≤ start x) xs mid k e (high_at lo hi xs d mid key w l h)

-- ---- the last extent alone is cut

last_start : (lo hi : ℕ) (ys : List Extent) (x : Extent) → Lined lo hi (ys ++ (x ∷ [])) → lo ≤ start x
last_start lo hi ys x w = (lined_right lo hi ys (x ∷ []) w).0

pub before_last : (lo hi s : ℕ) (ys : List Extent) (x : Extent) → Lined lo hi (ys ++ (x ∷ [])) → start x < s → before s (ys ++ (x ∷ [])) ≡ ys ++ (front s x ∷ [])
unfolding before
before_last lo hi s [] x w h = less_yes _ _ _ _ h
before_last lo hi s (y ∷ ys) x w h =
    let l : end y ≤ start x = last_start (end y) hi ys x w.2 in
    less_yes _ _ _ _ (omega (arith, start_end y)) ∙ rw (front_same s y (omega arith), before_last (end y) hi s ys x w.2 h)

pub after_last : (lo hi e : ℕ) (ys : List Extent) (x : Extent) → Lined lo hi (ys ++ (x ∷ [])) → start x < e → after e (ys ++ (x ∷ [])) ≡ after e (x ∷ [])
unfolding after
after_last lo hi e [] x w h = refl
after_last lo hi e (y ∷ ys) x w h =
    let l : end y ≤ start x = last_start (end y) hi ys x w.2 in
    less_no _ _ _ _ (omega arith) ∙ after_last (end y) hi e ys x w.2 h

-- ---- a run laid over extents, by where it starts and ends among them
module _ (lo hi : ℕ) (xs : List Extent) (w : Lined lo hi xs) where
  before_split : (s p : ℕ) → Split s xs p → before s xs ≡ before s (take p xs)
  before_split s p d =
      ap (before s) (sym (take-append-drop p xs)) ∙ before_append s (take p xs) (drop p xs)
      ∙ rw (before_none s (drop p xs) d.high, append-nil (before s (take p xs)))

  some_from : (q : ℕ) → All (λ (x : Extent). 0 < x.count) (drop q xs)
  some_from q =
      all_map (StartsFrom lo) (λ (x : Extent). 0 < x.count) (drop q xs) (λ x p. p.0)
      (lined_above lo hi lo (drop q xs) (lined_right lo hi (take q xs) (drop q xs) (rw (take-append-drop q xs) w)) (omega arith))

  after_split : (e q : ℕ) → Split e xs q → after e xs ≡ after e (take q xs) ++ drop q xs
  after_split e q d =
      ap (after e) (sym (take-append-drop q xs)) ∙ after_append e (take q xs) (drop q xs)
      ∙ rw (after_same e (drop q xs) (all_both (λ (x : Extent). 0 < x.count) (λ (x : Extent). e ≤ start x) (StartsFrom e) (drop q xs) (λ x c l. (c, l)) (some_from q) d.high))

  pub lay_parts : (v : Extent) (p q : ℕ) → Split (start v) xs p → Split (end v) xs q
      → lay v xs ≡ before (start v) (take p xs) ++ (v ∷ (after (end v) (take q xs) ++ drop q xs))
  unfolding lay
  lay_parts v p q d g = rw (before_split (start v) p d, after_split (end v) q g)
