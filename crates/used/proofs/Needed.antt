-- Absent data: a law for each way out of the code, and for callers that the answer is meaning's wherever the slices fit.
use mathlib.Core.Path.{◌≡◌, refl, sym, ap, ◌∙◌}
use mathlib.Core.Logic.{◌≢◌, ⊎_elim}
use mathlib.Core.Bool.{Bool, true, false}
use mathlib.Core.List.{List, [], ◌∷◌, map}
use Prim.Native.Nat.{ℕ, ◌+◌, ◌/◌, ◌≤◌, ◌<◌, ◌^◌, min}
use native.Mathlib.Nat.{div-le_self}
use native.Mathlib.Numerals.{add-one}
use native.Mathlib.Omega.{arith}
use lib.ListN.{length, length-replicate, length-set, get_or, get_or-replicate, set, replicate, drop, drop_of_length-le}
use lib.Seq.{drop-cons, get_or-set_other}
use lib.Dec.{T}
use Rattle.std.specs.Prelude as std
use Rattle.std.specs.Prelude.{Some, None}
use Rattle.base.specs.Choice.{is_some, or_else, provided}
use Rattle.base.proofs.Tests.{T-yes, eq_or, not_both, tests}
use Rattle.meaning.specs.declared.Geometry.{Geometry}
use Rattle.meaning.specs.declared.Extent.{Extent}
use Rattle.meaning.specs.declared.Block.{Block}
use Rattle.meaning.specs.Flash.{Labels, Lent, block_size, fits}
use Rattle.meaning.specs.Labels.{find_data}
use Rattle.meaning.specs.Mount.{absent, in_data, lacks}
use Rattle.extent.specs.Rows.{extent_of}
use Rattle.label.specs.Search.{found}
use Rattle.label.proofs.Answered.{at_some, nothing_none}
use Rattle.used.specs.Needed.{over, refusal_of, Seen}

-- ---- for callers

-- slices that fit have as many places as there are blocks
pub fit_tags : (g : Geometry) (l : Lent) → fits g l ≡ true → length l.tags ≡ g.blocks
unfolding fits
fit_tags g l e = let t : T (fits g l) = T-yes _ e in search tests

pub over_is : (g : Geometry) (l : Lent) → fits g l ≡ true → over (length l.tags) g ≡ g
over_is g l e = let h : length l.tags ≡ g.blocks = fit_tags g l e in λ j. record { size = g.size; pages = g.pages; blocks = h j }

-- where the slices fit, the answer is meaning's
pub absent_is : (r : std.Option ℕ) (g : Geometry) (l : Lent) (m : Labels) (xs : List Extent) → fits g l ≡ true
    → refusal_of r ≡ absent (over (length l.tags) g) m xs → refusal_of r ≡ absent g m xs
absent_is r g l m xs f e = e ∙ ap (λ (h : Geometry). absent h m xs) (over_is g l f)

-- two answers that stand for the same refusal are equal
pub one_missing : (a b : std.Option ℕ) → refusal_of a ≡ refusal_of b → a ≡ b
unfolding refusal_of
one_missing None None e = refl
one_missing None (Some p) e = cc
one_missing (Some p) None e = cc
one_missing (Some p) (Some q) e = cc

-- ---- one extent

module _ {v : Bool} (n : ℕ) (g : Geometry) (m : Labels) (e : Extent) (d : v ≡ in_data e) where
  pub lacks_log : v ≡ false → false ≡ lacks (over n g) m e
  unfolding lacks
  lacks_log q = rw (← d, q)

  -- a is the code's address, k its number
  module _ {a k : ℕ} (q : v ≡ true) (p : a ≡ e.address) (l : e.address < 2 ^ 32) (h : k ≡ min (a / block_size g) 4294967295) where
    number : (s : ℕ) → s ≡ block_size g → k ≡ e.address / s
    number s z =
        let u : a / block_size g ≡ e.address / s = ap (λ (b : ℕ). a / b) (sym z) ∙ ap (λ (b : ℕ). b / s) p in
        omega (arith, div-le_self e.address s)

    pub lacks_not : {x : std.Option Block} {b : Block} → x ≡ found (find_data n m k) → x ≡ Some b → false ≡ lacks (over n g) m e
    unfolding lacks is_some block_size
    lacks_not f r = rw (← d, q, ← number (block_size g) refl, at_some _ f r)

    pub lacks_all : {x : std.Option Block} → x ≡ found (find_data n m k) → x ≡ None → true ≡ lacks (over n g) m e
    unfolding lacks is_some block_size
    lacks_all f r = rw (← d, q, ← number (block_size g) refl, nothing_none _ f r)

    pub lacks_seen : is_some (find_data n m k) ≡ true → false ≡ lacks (over n g) m e
    unfolding lacks block_size
    lacks_seen t = rw (← d, q, ← number (block_size g) refl, t)

-- ---- the numbers that were found before

pub seen_none : (n : ℕ) (m : Labels) → Seen n m (replicate 4096 false)
seen_none n m = (length-replicate 4096 false, λ d h e. absurd (not_both (get_or (replicate 4096 false) d false) (get_or-replicate 4096 d false false h) (T-yes _ e)))

module _ (n : ℕ) (m : Labels) (seen : List Bool) (z : Seen n m seen) where
  pub seen_more : (d : ℕ) → is_some (find_data n m d) ≡ true → Seen n m (set seen d true)
  seen_more d t = (
    length-set seen d true ∙ z.0,
    λ k h e. ⊎_elim (λ (q : k ≡ d). rw q t) (λ (q : k ≢ d). z.1 k h (sym (get_or-set_other seen d k true false q) ∙ e)) (eq_or k d),
  )

-- the number that was found is there
pub is_there : {x : std.Option Block} {b : Block} (n : ℕ) (m : Labels) (k : ℕ) → x ≡ found (find_data n m k) → x ≡ Some b → is_some (find_data n m k) ≡ true
unfolding is_some
is_there n m k f r = rw (at_some _ f r)

pub ruleset lacking = (lacks_log, lacks_not, lacks_all, lacks_seen, seen_more, is_there)

-- ---- one extent after another: what is left decides

module _ (g : Geometry) (m : Labels) (rows : List (List ℕ)) where
  abbrev pub Passed : ℕ → Type 0
  Passed k = absent g m (map extent_of rows) ≡ absent g m (map extent_of (drop k rows))

  abbrev pub row : ℕ → List ℕ
  row k = get_or rows k []

  here : (k : ℕ) → k < length rows → absent g m (map extent_of (drop k rows)) ≡ absent g m (extent_of (row k) ∷ map extent_of (drop (k + 1) rows))
  here k h = ap (λ (l : List (List ℕ)). absent g m (map extent_of l)) (drop-cons rows k [] h ∙ ap (λ (j : ℕ). row k ∷ drop j rows) (sym (add-one k)))

  pub passed_more : {v : Bool} (k : ℕ) → Passed k → k < length rows → v ≡ lacks g m (extent_of (row k)) → v ≡ false → Passed (k + 1)
  unfolding absent or_else provided
  passed_more k p h e f = p ∙ here k h ∙ rw (← e, f)

  pub passed_hit : {v : Bool} (k : ℕ) → Passed k → k < length rows → v ≡ lacks g m (extent_of (row k)) → v ≡ true
      → refusal_of (Some (get_or (row k) 0 0)) ≡ absent g m (map extent_of rows)
  unfolding absent or_else provided refusal_of
  passed_hit k p h e f = sym (p ∙ here k h ∙ rw (← e, f))

  pub passed_all : (k : ℕ) → Passed k → length rows ≤ k → refusal_of None ≡ absent g m (map extent_of rows)
  unfolding absent refusal_of
  passed_all k p h = sym (p ∙ rw (drop_of_length-le rows h))

pub ruleset passes = (passed_more, passed_hit, passed_all)
