-- What callers use: a run laid between others, a file's extents taken out, and extents that stay in order.
use Prim.Native.Nat.{ℕ, suc, ◌+◌, ◌-◌, ◌≤◌, ◌<◌, min}
use mathlib.Core.Path.{◌≡◌, refl, sym, ap, ◌∙◌}
use mathlib.Core.List.{List, [], ◌∷◌, ◌++◌, append_assoc, append-nil, map}
use mathlib.Core.Logic.{⊎_elim}
use native.Mathlib.Omega.{arith}
use native.Mathlib.Nat.{le_refl}
use lib.ListN.{length, take, drop, length-append, length-map}
use lib.Seq.{take_at, drop_at}
use Rattle.meaning.specs.declared.Extent.{Extent}
use Rattle.base.specs.Member.{All}
use Rattle.base.proofs.Lists.{all_map}
use Rattle.base.proofs.Tests.{lt_or}
use Rattle.base.proofs.Choices.{less_no, eq_yes, eq_no, all_less, all_eq}
use Rattle.meaning.specs.Replay.{spot, start, end, front, back, before, after, lay, others}
use Rattle.extent.specs.Rows.{extent_of, row_of, runs, Fit, Lined, EndsBy, StartsFrom, Sound, Within}
use Rattle.extent.proofs.Rows.{extents_of_rows, rows_within, runs_length}
use Rattle.extent.proofs.Line.{push_eq, start_end, before_append, before_none, before_same, after_append, after_none, after_same, lined_le, lined_wider, lined_above, lined_append, starts_from}

-- ---- a run laid between others

before_run : (v : Extent) (xs : List Extent) → All (EndsBy (start v)) xs → after (end v) xs ≡ []
before_run v xs h = after_none (end v) xs (all_map (EndsBy (start v)) (λ (x : Extent). end x ≤ end v) xs (λ x p. let l : end x ≤ start v = p.1 in omega (arith, start_end v)) h)

after_run : (v : Extent) (xs : List Extent) → All (StartsFrom (end v)) xs → before (start v) xs ≡ []
after_run v xs h = before_none (start v) xs (all_map (StartsFrom (end v)) (λ (x : Extent). start v ≤ start x) xs (λ x p. let l : end v ≤ start x = p.1 in omega (arith, start_end v)) h)

-- the extents that end before the run starts, and those that start after it ends, stay
pub lay_between : (v : Extent) (xs ys zs : List Extent) → All (EndsBy (start v)) xs → All (StartsFrom (end v)) zs
    → lay v (xs ++ (ys ++ zs)) ≡ xs ++ (lay v ys ++ zs)
unfolding lay
lay_between v xs ys zs h k =
    rw (
      before_append (start v) xs (ys ++ zs),
      before_append (start v) ys zs,
      before_same (start v) xs h,
      after_run v zs k,
      append-nil (before (start v) ys),
      after_append (end v) xs (ys ++ zs),
      after_append (end v) ys zs,
      before_run v xs h,
      after_same (end v) zs k,
    )
    (append_assoc xs (before (start v) ys) (v ∷ (after (end v) ys ++ zs)) ∙ ap (λ (l : List Extent). xs ++ l) (sym (append_assoc (before (start v) ys) (v ∷ after (end v) ys) zs)))

-- ---- a file's extents taken out

pub others_append : (p : ℕ) (xs ys : List Extent) → others p (xs ++ ys) ≡ others p xs ++ others p ys
unfolding others
others_append p [] ys = refl
others_append p (x ∷ xs) ys = rw (others_append p xs ys) (sym (push_eq x.path p (others p xs) (x ∷ others p xs) (others p ys)))

-- a path that no extent has
pub others_none : (p : ℕ) (xs : List Extent) → All (λ (x : Extent). x.path ≡ p → ⊥) xs → others p xs ≡ xs
unfolding others
others_none p [] h = refl
others_none p (x ∷ xs) h = eq_no _ _ _ _ h.0 ∙ rw (others_none p xs h.1)

-- a path that all have
pub others_all : (p : ℕ) (xs : List Extent) → All (λ (x : Extent). x.path ≡ p) xs → others p xs ≡ []
unfolding others
others_all p [] h = refl
others_all p (x ∷ xs) h = eq_yes _ _ _ _ h.0 ∙ others_all p xs h.1

-- extents in order that stand within file p's part of the line are p's
pub lined_own : (p : ℕ) (xs : List Extent) → Lined (spot p 0) (spot (p + 1) 0) xs → All (λ (x : Extent). x.path ≡ p) xs
unfolding spot start end
lined_own p xs w = go (spot p 0) xs (le_refl (spot p 0)) w
  where
    go : (lo : ℕ) (ys : List Extent) → spot p 0 ≤ lo → Lined lo (spot (p + 1) 0) ys → All (λ (x : Extent). x.path ≡ p) ys
    go lo [] h u = tt
    go lo (y ∷ ys) h u =
        let l : lo ≤ start y = u.0 in
        let g : end y ≤ spot (p + 1) 0 = lined_le (end y) (spot (p + 1) 0) ys u.2 in
        let f : Fit y = u.1 in
        (omega arith, go (end y) ys (omega arith) u.2)

-- ---- extents stay in order

-- a piece from s to e
record Part (y : Extent) (s e : ℕ) : Type 0 where
  starts : start y ≡ s
  ends : end y ≡ e
  fit : Fit y

front_part : (s : ℕ) (x : Extent) → Fit x → start x < s → Part (front s x) (start x) (min (end x) s)
unfolding front end start spot
front_part s x f l = record { starts = refl; ends = omega arith; fit = record { some = omega arith; file = omega arith; flash = omega arith } }

back_part : (e : ℕ) (x : Extent) → Fit x → e < end x → Part (back e x) (start x + (e - start x)) (end x)
unfolding back end start spot
back_part e x f l = record { starts = omega arith; ends = omega arith; fit = record { some = omega arith; file = omega arith; flash = omega arith } }

before_lined : (lo hi s : ℕ) (xs : List Extent) → Lined lo hi xs → lo ≤ s → Lined lo s (before s xs)
unfolding before
before_lined lo hi s [] w h = h
before_lined lo hi s (x ∷ xs) w h =
    all_less (Lined lo s) (start x) s _ _
    (λ l.
    let p : Part (front s x) (start x) (min (end x) s) = front_part s x w.1 l in (
      rw p.starts w.0,
      p.fit,
      rw p.ends
          (⊎_elim
          (λ (b : s < end x). let e : min (end x) s ≡ s = omega arith in rw (e, before_none s xs (starts_from (end x) hi s xs w.2 (omega arith))) (omega arith))
          (λ (b : end x ≤ s). let e : min (end x) s ≡ end x = omega arith in rw e (before_lined (end x) hi s xs w.2 b))
          (lt_or s (end x))),
    ))
    (λ l. rw (before_none s xs (starts_from (end x) hi s xs w.2 (omega (arith, start_end x)))) h)

after_lined : (lo hi e : ℕ) (xs : List Extent) → Lined lo hi xs → e ≤ hi → Lined e hi (after e xs)
unfolding after
after_lined lo hi e [] w u = u
after_lined lo hi e (x ∷ xs) w u =
    all_less (Lined e hi) e (end x) _ _
    (λ l.
    let p : Part (back e x) (start x + (e - start x)) (end x) = back_part e x w.1 l in
    (rw p.starts (omega arith), p.fit, rw (p.ends, after_same e xs (lined_above (end x) hi e xs w.2 (omega arith))) w.2))
    (λ l. after_lined (end x) hi e xs w.2 u)

pub lay_lined : (lo hi : ℕ) (v : Extent) (xs : List Extent) → Lined lo hi xs → Fit v → lo ≤ start v → end v ≤ hi → Lined lo hi (lay v xs)
unfolding lay
lay_lined lo hi v xs w s h u =
    lined_append lo (start v) hi (before (start v) xs) (v ∷ after (end v) xs) (before_lined lo hi (start v) xs w h)
    (le_refl (start v), s, after_lined lo hi (end v) xs w u)

pub others_lined : (lo hi p : ℕ) (xs : List Extent) → Lined lo hi xs → Lined lo hi (others p xs)
unfolding others
others_lined lo hi p [] w = w
others_lined lo hi p (x ∷ xs) w =
    all_eq (Lined lo hi) x.path p _ _
    (λ e. let g : lo ≤ start x = w.0 in lined_wider lo (end x) hi (others p xs) (omega (arith, start_end x)) (others_lined (end x) hi p xs w.2))
    (λ n. (w.0, w.1, others_lined (end x) hi p xs w.2))

-- ---- a run laid over extents adds at most two

after_few : (e : ℕ) (xs : List Extent) → length (after e xs) ≤ length xs
unfolding after
after_few e [] = le_refl 0
after_few e (x ∷ xs) = all_less (λ (ys : List Extent). length ys ≤ suc (length xs)) e (end x) _ _
    (λ l. omega (arith, after_few e xs)) (λ l. omega (arith, after_few e xs))

pieces_few : (lo hi s e : ℕ) (xs : List Extent) → Lined lo hi xs → s ≤ e → length (before s xs) + length (after e xs) ≤ length xs + 1
unfolding before after
pieces_few lo hi s e [] w h = omega arith
pieces_few lo hi s e (x ∷ xs) w h =
    all_less (λ (ys : List Extent). length ys + length (after e (x ∷ xs)) ≤ suc (length xs) + 1) (start x) s _ _
    (λ l. ⊎_elim
    (λ (b : e < end x). rw (before_none s xs (starts_from (end x) hi s xs w.2 (omega arith))) (omega (arith, after_few e (x ∷ xs))))
    (λ (b : end x ≤ e). rw (gone b) (omega (arith, pieces_few (end x) hi s e xs w.2 h)))
    (lt_or e (end x)))
    (λ l. rw (before_none s xs (starts_from (end x) hi s xs w.2 (omega (arith, start_end x)))) (omega (arith, after_few e (x ∷ xs))))
  where
    gone : end x ≤ e → after e (x ∷ xs) ≡ after e xs
    gone b = less_no _ _ _ _ b

pub lay_adds : (lo hi : ℕ) (v : Extent) (xs : List Extent) → Lined lo hi xs → length (lay v xs) ≤ length xs + 2
unfolding lay
lay_adds lo hi v xs w = simp length-append (omega (arith, pieces_few lo hi (start v) (end v) xs w (omega (arith, start_end v))))

-- ---- the rows that lay_over leaves
module _ (rows : List (List ℕ)) (n : ℕ) (v : List ℕ) (r : ℕ) (left : List (List ℕ))
    (m : r ≡ length (lay (extent_of v) (runs rows n))) (t : left ≡ map row_of (lay (extent_of v) (runs rows n)) ++ drop r rows) where
  laid_length : length (map row_of (lay (extent_of v) (runs rows n))) ≡ r
  laid_length = length-map (lay (extent_of v) (runs rows n)) row_of ∙ sym m

  pub laid_rows : take r left ≡ map row_of (lay (extent_of v) (runs rows n))
  laid_rows = rw t (take_at (map row_of (lay (extent_of v) (runs rows n))) (drop r rows) r laid_length)

  pub laid_rest : drop r left ≡ drop r rows
  laid_rest = rw t (drop_at (map row_of (lay (extent_of v) (runs rows n))) (drop r rows) r laid_length)

  pub laid_runs : runs left r ≡ lay (extent_of v) (runs rows n)
  laid_runs = rw laid_rows (extents_of_rows (lay (extent_of v) (runs rows n)))

  module _ (lo hi : ℕ) (w : Within lo hi (take n rows)) where
    pub laid_few : n ≤ length rows → r ≤ n + 2
    laid_few h = omega (arith, lay_adds lo hi (extent_of v) (runs rows n) w.lined, runs_length rows n h)

    pub lay_within : Sound v → lo ≤ start (extent_of v) → end (extent_of v) ≤ hi → Within lo hi (take r left)
    lay_within s h u = rw laid_rows (rows_within lo hi (lay (extent_of v) (runs rows n)) (lay_lined lo hi (extent_of v) (runs rows n) w.lined s.fit h u))
