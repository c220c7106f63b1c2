-- "File byte i is the byte of the last write applied to it since the file's creation or last truncation, else 0."
use mathlib.Core.Path.{◌≡◌, refl, sym, ap, ap₂, ◌∙◌, subst}
use mathlib.Core.Logic.{◌≢◌, ⊎_elim}
use mathlib.Core.Bool.{Bool, true, false}
use mathlib.Core.Option.{Option, none, some}
use mathlib.Core.List.{List, [], ◌∷◌, ◌++◌}
use Prim.Native.Nat.{ℕ, ◌+◌, ◌-◌, ◌^◌, ◌≤◌, ◌<◌}
use native.Mathlib.Omega.{arith}
use lib.Dec.{T}
use Rattle.meaning.specs.declared.Geometry.{Geometry}
use Rattle.meaning.specs.declared.Record.{Record}
use Rattle.meaning.specs.declared.Extent.{Extent}
use Rattle.meaning.specs.declared.Message.{Message}
use Rattle.meaning.specs.declared.Message.TheVariants.{Create, Remove, Truncate, Write, Wstat}
use Rattle.base.specs.Choice.{if_true, if_eq, or_else}
use Rattle.base.specs.Member.{All}
use Rattle.base.proofs.Tests.{T-dec, eq_or, lt_or, tests, makes}
use Rattle.base.proofs.Lists.{all_map, all_of}
use Rattle.base.proofs.Choices.{if_yes, if_no, eq_yes, eq_no, all_less, all_eq, test_none}
use Rattle.meaning.specs.Answer.{ok}
use Rattle.meaning.specs.Log.{LogBlock, log_of}
use Rattle.meaning.specs.Replay.{Tree, look, spot, start, end, front, back, before, after, lay, others, judge, applies, extents_after, changed, passed_over, bare, replay}
use Rattle.meaning.specs.Mount.{covers, where_is}
use Rattle.replayed.specs.Shape.{Bounded, Shape, file_at}
use Rattle.replayed.specs.History.{applied_of, holds, heard, last_write}
use Rattle.replayed.proofs.Keeps.{Each, told_all, replay_told}
use Rattle.replayed.proofs.Parses.{Good, log_good}
use Rattle.replayed.proofs.Judged.{judged}
use Rattle.replayed.proofs.Line.{front_start, front_end, front_address, back_start, back_end, back_address, start_end, others_all}
use Rattle.replayed.proofs.Shape.{others_bounded, bare_shape, changed_shape}

pub covers→ : (k : ℕ) (x : Extent) → T (covers k x) → (start x ≤ k) × (k < end x)
unfolding covers
covers→ k x t = search tests

pub →covers : (k : ℕ) (x : Extent) → start x ≤ k → k < end x → T (covers k x)
unfolding covers
→covers k x a b = search makes

or_if : {A : Type 0} (b : Bool) (x : A) (o q : Option A) → or_else (if_true b (some x) o) q ≡ if_true b (some x) (or_else o q)
unfolding or_else if_true
or_if true x o q = refl
or_if false x o q = refl

or_none : {A : Type 0} (o : Option A) → or_else o none ≡ o
unfolding or_else
or_none none = refl
or_none (some x) = refl

-- ---- on the line

module _ (p i : ℕ) where
  abbrev k : ℕ
  k = spot p i

  -- what x makes of the address that the later rows give
  abbrev over : Extent → Option ℕ → Option ℕ
  over x o = if_true (covers k x) (some (x.address + (k - start x))) o

  where_append : (xs ys : List Extent) → where_is (xs ++ ys) p i ≡ or_else (where_is xs p i) (where_is ys p i)
  unfolding where_is or_else
  where_append [] ys = refl
  where_append (x ∷ xs) ys = ap (over x) (where_append xs ys) ∙ sym (or_if (covers k x) _ (where_is xs p i) (where_is ys p i))

  skip : (x : Extent) (o : Option ℕ) → (T (covers k x) → ⊥) → over x o ≡ o
  skip x o n = if_no (covers k x) _ o n

  -- two rows alike
  alike : (x y : Extent) (o : Option ℕ) → (T (covers k x) → T (covers k y)) → (T (covers k y) → T (covers k x))
      → (T (covers k x) → y.address + (k - start y) ≡ x.address + (k - start x)) → over y o ≡ over x o
  alike x y o f h s = ⊎_elim
      (λ (t : T (covers k x)). if_yes (covers k y) _ o (f t) ∙ ap {B = Option ℕ} some (s t) ∙ sym (if_yes (covers k x) _ o t))
      (λ (n : T (covers k x) → ⊥). skip y o (λ u. n (h u)) ∙ sym (skip x o n))
      (T-dec (covers k x))

  before_low : (s : ℕ) (xs : List Extent) → k < s → where_is (before s xs) p i ≡ where_is xs p i
  unfolding before where_is
  before_low s [] l = refl
  before_low s (x ∷ xs) l = all_less (λ (ys : List Extent). where_is ys p i ≡ over x (where_is xs p i)) _ _ _ _
      (λ (b : start x < s). alike x (front s x) (where_is (before s xs) p i)
      (λ u. let c = covers→ k x u in →covers k (front s x) (omega (arith, front_start s x, c)) (omega (arith, front_end s x b, c)))
      (λ u. let c = covers→ k (front s x) u in →covers k x (omega (arith, front_start s x, c)) (omega (arith, front_end s x b, c)))
      (λ u. omega (arith, front_address s x, front_start s x)) ∙ ap (over x) (before_low s xs l))
      (λ (b : s ≤ start x). before_low s xs l ∙ sym (skip x (where_is xs p i) (λ u. let c = covers→ k x u in omega (arith, c))))

  before_high : (s : ℕ) (xs : List Extent) → s ≤ k → where_is (before s xs) p i ≡ none
  unfolding before where_is
  before_high s [] l = refl
  before_high s (x ∷ xs) l = all_less (λ (ys : List Extent). where_is ys p i ≡ none) _ _ _ _
      (λ (b : start x < s). skip (front s x) (where_is (before s xs) p i)
      (λ u. let c = covers→ k (front s x) u in omega (arith, front_end s x b, c)) ∙ before_high s xs l)
      (λ b. before_high s xs l)

  after_high : (e : ℕ) (xs : List Extent) → e ≤ k → where_is (after e xs) p i ≡ where_is xs p i
  unfolding after where_is
  after_high e [] l = refl
  after_high e (x ∷ xs) l = all_less (λ (ys : List Extent). where_is ys p i ≡ over x (where_is xs p i)) _ _ _ _
      (λ (b : e < end x). alike x (back e x) (where_is (after e xs) p i)
      (λ u. let c = covers→ k x u in →covers k (back e x) (omega (arith, back_start e x, c)) (omega (arith, back_end e x b, c)))
      (λ u. let c = covers→ k (back e x) u in →covers k x (omega (arith, back_start e x, c)) (omega (arith, back_end e x b, c)))
      (λ u. let c = covers→ k x u in omega (arith, back_address e x, back_start e x, c)) ∙ ap (over x) (after_high e xs l))
      (λ (b : end x ≤ e). after_high e xs l ∙ sym (skip x (where_is xs p i) (λ u. let c = covers→ k x u in omega (arith, c))))

  after_low : (e : ℕ) (xs : List Extent) → k < e → where_is (after e xs) p i ≡ none
  unfolding after where_is
  after_low e [] l = refl
  after_low e (x ∷ xs) l = all_less (λ (ys : List Extent). where_is ys p i ≡ none) _ _ _ _
      (λ (b : e < end x). skip (back e x) (where_is (after e xs) p i)
      (λ u. let c = covers→ k (back e x) u in omega (arith, back_start e x, c)) ∙ after_low e xs l)
      (λ b. after_low e xs l)

  -- "the run is laid over older extents, which keep what stands before and after it"
  pub lay_where : (run : Extent) (xs : List Extent) → where_is (lay run xs) p i
      ≡ if_true (covers (spot p i) run) (some (run.address + (spot p i - start run))) (where_is xs p i)
  unfolding lay where_is or_else
  lay_where run xs = where_append (before (start run) xs) (run ∷ after (end run) xs) ∙ ⊎_elim
      (λ (l : k < start run).
      let n : T (covers k run) → ⊥ = λ u. let c = covers→ k run u in omega (arith, c) in
      ap₂ or_else (before_low (start run) xs l) (skip run _ n ∙ after_low (end run) xs (omega (arith, start_end run)))
      ∙ or_none _ ∙ sym (skip run _ n))
      (λ (l : start run ≤ k). ap₂ or_else (before_high (start run) xs l) refl ∙ ⊎_elim
      (λ (h : k < end run). if_yes (covers k run) _ _ (→covers k run l h) ∙ sym (if_yes (covers k run) _ _ (→covers k run l h)))
      (λ (h : end run ≤ k). ap (over run) (after_high (end run) xs h))
      (lt_or k (end run)))
      (lt_or k (start run))

-- ---- by path and offset

holds→ : (x : Extent) (p i : ℕ) → T (holds x p i) → (x.path ≡ p) × (x.offset ≤ i) × (i < x.offset + x.count)
unfolding holds
holds→ x p i t = search tests

→holds : (x : Extent) (p i : ℕ) → x.path ≡ p → x.offset ≤ i → i < x.offset + x.count → T (holds x p i)
unfolding holds
→holds x p i a b c = search makes

-- a place below 2^32 of a file is its own place of the line
module _ (p i : ℕ) (small : i < 2 ^ 32) where
  covers_own : (x : Extent) → Bounded x → T (covers (spot p i) x) → (x.path ≡ p) × (x.offset ≤ i) × (i < x.offset + x.count)
  unfolding end start spot
  covers_own x b t =
      let c = covers→ (spot p i) x t in
      let e : x.path ≡ p = omega (arith, c) in
      (e, omega (arith, c), omega (arith, c))

  holds_covers : (x : Extent) → T (holds x p i) → T (covers (spot p i) x)
  unfolding end start spot
  holds_covers x t = let c = holds→ x p i t in →covers (spot p i) x (omega (arith, c)) (omega (arith, c))

  run_heard : (x : Extent) (o : Option ℕ) → Bounded x → over p i x o ≡ if_true (holds x p i) (some (x.address + (i - x.offset))) o
  unfolding start spot
  run_heard x o b = ⊎_elim
      (λ (t : T (holds x p i)). let c = holds→ x p i t in
      if_yes (covers (spot p i) x) _ o (holds_covers x t) ∙ ap {B = Option ℕ} some (omega (arith, c)) ∙ sym (if_yes (holds x p i) _ o t))
      (λ (n : T (holds x p i) → ⊥).
      skip p i x o (λ u. let c = covers_own x b u in n (→holds x p i c.0 c.1 c.2)) ∙ sym (if_no (holds x p i) _ o n))
      (T-dec (holds x p i))

  no_rows : (xs : List Extent) → All Bounded xs → All (λ (x : Extent). x.path ≢ p) xs → where_is xs p i ≡ none
  unfolding where_is
  no_rows [] b h = refl
  no_rows (x ∷ xs) b h = skip p i x (where_is xs p i) (λ u. h.0 (covers_own x b.0 u).0) ∙ no_rows xs b.1 h.1

  others_kept : (q : ℕ) (xs : List Extent) → All Bounded xs → q ≢ p → where_is (others q xs) p i ≡ where_is xs p i
  unfolding others where_is
  others_kept q [] b n = refl
  others_kept q (x ∷ xs) b n = all_eq (λ (ys : List Extent). where_is ys p i ≡ over p i x (where_is xs p i)) _ _ _ _
      (λ (e : x.path ≡ q). others_kept q xs b.1 n ∙ sym (skip p i x (where_is xs p i) (λ u. n (sym e ∙ (covers_own x b.0 u).0))))
      (λ m. ap (over p i x) (others_kept q xs b.1 n))

  others_where : (q : ℕ) (xs : List Extent) → All Bounded xs → where_is (others q xs) p i ≡ if_eq q p none (where_is xs p i)
  others_where q xs b = ⊎_elim
      (λ (e : q ≡ p). no_rows (others q xs) (others_bounded q xs b)
      (others_all (λ (x : Extent). x.path ≢ p) q xs (all_of _ xs (λ x j n z. n (z ∙ sym e))))
      ∙ sym (eq_yes q p none (where_is xs p i) e))
      (λ (n : q ≢ p). others_kept q xs b n ∙ sym (eq_no q p none (where_is xs p i) n))
      (eq_or q p)

  -- no extent of a path that no file has
  fresh : (path : ℕ) (fs : List Record) (xs : List Extent) → look path fs ≡ none → Shape fs xs → where_is xs p i ≡ if_eq path p none (where_is xs p i)
  unfolding file_at
  fresh path fs xs e s = ⊎_elim
      (λ (z : path ≡ p). no_rows xs s.bounded (all_map (λ (x : Extent). T (file_at x.path fs)) (λ (x : Extent). x.path ≢ p) xs
      (λ x t y. test_none _ (look x.path fs) (subst (λ (q : ℕ). look q fs ≡ none) (z ∙ sym y) e) t) s.owned)
      ∙ sym (eq_yes path p none (where_is xs p i) z))
      (λ (n : path ≢ p). sym (eq_no path p none (where_is xs p i) n))
      (eq_or path p)

  -- where byte i of file p stands after an applied message
  pub changed_where : (m : Message) (t : Tree) → Good m → applies (judge m t.records) ≡ true → Shape t.records t.extents
      → where_is (changed m t).extents p i ≡ heard p i m (where_is t.extents p i)
  unfolding changed extents_after heard
  changed_where (Create parent perm path mtime cvers name uid gid) t w a s =
      fresh path t.records t.extents (judged (Create parent perm path mtime cvers name uid gid) t.records a).3 s
  changed_where (Remove path muid mtime) t w a s = others_where path t.extents s.bounded
  changed_where (Truncate path mtime cvers muid) t w a s = others_where path t.extents s.bounded
  changed_where (Write run mtime muid cvers) t w a s = lay_where p i run t.extents ∙ run_heard run (where_is t.extents p i) w.1
  changed_where (Wstat path name uid gid muid perm mtime) t w a s = refl

-- "File byte i is the byte of the last write applied to it since the file's creation or last truncation, else 0."
pub last_write_lem : (g : Geometry) (ls : List LogBlock) (t : Tree) → replay (log_of g ls) ≡ ok t → (p i : ℕ) → i < 2 ^ 32
    → where_is t.extents p i ≡ last_write p i (applied_of (log_of g ls).entries bare) none
unfolding last_write bare where_is passed_over
last_write_lem g ls t h p i small = told_all
    (λ es t ms u. Each Good es → Shape t.records t.extents
    → where_is u.extents p i ≡ last_write p i ms (where_is t.extents p i))
    (λ t w s. refl)
    (λ e es t ms u a f ih w s. ih w.1 (changed_shape e.message t w.0 a s)
    ∙ ap (last_write p i ms) (changed_where p i small e.message t w.0 a s))
    (λ e es t ms u ih w s. ih w.1 s)
    (log_of g ls).entries bare t (replay_told (log_of g ls) t h) (log_good g ls) bare_shape
