-- The shape of every accepted replay's tree.
use mathlib.Core.Path.{◌≡◌, refl, sym, ap, ◌∙◌, subst}
use mathlib.Core.Logic.{◌≢◌, ⊎_elim}
use mathlib.Core.Bool.{Bool, true, not}
use mathlib.Core.Option.{none, some}
use mathlib.Core.List.{List}
use Prim.Native.Nat.{ℕ, suc, ◌^◌, ◌<◌}
use native.Mathlib.Omega.{arith}
use lib.Dec.{T, eqb}
use Rattle.meaning.specs.declared.Geometry.{Geometry}
use Rattle.meaning.specs.declared.Record.{Record}
use Rattle.meaning.specs.declared.Extent.{Extent}
use Rattle.meaning.specs.declared.Message.{Message}
use Rattle.meaning.specs.declared.Message.TheVariants.{Create, Remove, Truncate, Write, Wstat}
use Rattle.base.specs.Choice.{if_true, if_eq, test}
use Rattle.base.specs.Scan.{any_of}
use Rattle.base.specs.Member.{All, On}
use Rattle.base.proofs.Tests.{T-dec, T-not→, →T_not, and_i, eqb_of, →not_eqb, eq_or}
use Rattle.base.proofs.Lists.{all_map, all_in, all_of, all_both, any_in}
use Rattle.base.proofs.Choices.{eq_yes, eq_no, test→, →test, test_none}
use Rattle.meaning.specs.Answer.{ok}
use Rattle.meaning.specs.Log.{LogBlock, log_of}
use Rattle.meaning.specs.Replay.{Tree, root, bit31, is_dir, look, alter, insert, delete, entry_of, is_empty, home_of, start, end, front, back, lay, others, stamp, sized, created, truncated, written, restated, judge, applies, own_after, parent_after, records_after, extents_after, changed, bare, replay}
use Rattle.replayed.specs.Shape.{Sorted, Bounded, Climbs, Shape, dir_at, file_at}
use Rattle.replayed.proofs.Keeps.{replay_keeps}
use Rattle.replayed.proofs.Parses.{Good, log_good}
use Rattle.replayed.proofs.Judged.{judged}
use Rattle.replayed.proofs.Records.{Makes, records_all, look_none, on_map, on_every, alter_every, alter_ascending, test_alter, insert_all, insert_ascending, look_insert, delete_all, delete_ascending, look_delete}
use Rattle.replayed.proofs.Line.{lay_all, lay_lined, others_all, others_lined, lined_sorted, sorted_lined}

abbrev AtRoot : Record → Type 0
AtRoot f = f.path ≡ 0 → f.parent ≡ 0

abbrev HomeIn : List Record → Record → Type 0
HomeIn fs f = T (dir_at f.parent fs)

abbrev FileIn : List Record → Extent → Type 0
FileIn fs x = T (file_at x.path fs)

abbrev Falls : (ℕ → ℕ) → Record → Type 0
Falls rank f = f.path ≢ 0 → rank f.parent < rank f.path

-- ---- one record altered: path, parent and kind stay

module _ (p : ℕ) (h : Record → Record) (path : (f : Record) → (h f).path ≡ f.path) (parent : (f : Record) → (h f).parent ≡ f.parent) where
  alter_shape : (fs : List Record) (xs : List Extent) → On (λ (f : Record). is_dir (h f) ≡ is_dir f) (look p fs) → Shape fs xs → Shape (alter p h fs) xs
  unfolding dir_at file_at
  alter_shape fs xs dir s = record {
    ascending = alter_ascending p h path fs s.ascending;
    rooted = rw (test_alter p h path is_dir 0 fs dir) s.rooted;
    root_home = alter_every p h AtRoot (λ f k z. parent f ∙ k (sym (path f) ∙ z)) fs s.root_home;
    homed = all_map (HomeIn fs) (HomeIn (alter p h fs)) (alter p h fs) (λ f t. rw (test_alter p h path is_dir f.parent fs dir) t)
        (alter_every p h (HomeIn fs) (λ f t. rw (parent f) t) fs s.homed);
    climbs = (s.climbs.0, alter_every p h (Falls s.climbs.0) (λ f k. rw (parent f, path f) k) fs s.climbs.1);
    owned = all_map (FileIn fs) (FileIn (alter p h fs)) xs
        (λ x t. rw (test_alter p h path (λ f. not (is_dir f)) x.path fs (on_map _ _ (look p fs) (λ f e. ap not e) dir)) t) s.owned;
    bounded = s.bounded;
    sorted = s.sorted;
  }

  kept_shape : ((f : Record) → is_dir (h f) ≡ is_dir f) → (fs : List Record) (xs : List Extent) → Shape fs xs → Shape (alter p h fs) xs
  kept_shape dir fs xs s = alter_shape fs xs (on_every (λ (f : Record). is_dir (h f) ≡ is_dir f) (look p fs) dir) s

-- ---- a new record, which no record and no extent knows

module _ (fs : List Record) (f : Record) (new : look f.path fs ≡ none) where
  other : (c : Record → Bool) (q : ℕ) → T (test c (look q fs)) → f.path ≢ q
  other c q t z = test_none c (look q fs) (subst (λ (y : ℕ). look y fs ≡ none) z new) t

  stays : (c : Record → Bool) (q : ℕ) → T (test c (look q fs)) → T (test c (look q (insert f fs)))
  stays c q t = rw (look_insert q f fs (other c q t)) t

  -- it stands one above its parent
  higher : (ℕ → ℕ) → ℕ → ℕ
  higher rank q = if_eq q f.path (suc (rank f.parent)) (rank q)

  higher_same : (rank : ℕ → ℕ) (q : ℕ) → f.path ≢ q → higher rank q ≡ rank q
  unfolding higher
  higher_same rank q n = eq_no q f.path _ _ (λ z. n (sym z))

  higher_new : (rank : ℕ → ℕ) → higher rank f.path ≡ suc (rank f.parent)
  unfolding higher
  higher_new rank = eq_yes f.path f.path _ _ refl

  insert_climbs : HomeIn fs f → All (HomeIn fs) fs → Climbs fs → Climbs (insert f fs)
  unfolding dir_at
  insert_climbs h homed c = (
    higher c.0,
    insert_all (Falls (higher c.0)) f fs (λ n. omega (arith, higher_new c.0, higher_same c.0 f.parent (other is_dir f.parent h)))
        (all_both (λ (r : Record). r.path ≢ f.path) (λ (r : Record). Falls c.0 r × HomeIn fs r) (Falls (higher c.0)) fs
        (λ r n k z. rw (higher_same c.0 r.parent (other is_dir r.parent k.1), higher_same c.0 r.path (λ y. n (sym y))) (k.0 z))
        (look_none f.path fs new) (all_both _ _ _ fs (λ r a b. (a, b)) c.1 homed)),
  )

  insert_shape : (xs : List Extent) → HomeIn fs f → Shape fs xs → Shape (insert f fs) xs
  unfolding dir_at file_at
  insert_shape xs h s = record {
    ascending = insert_ascending f fs new s.ascending;
    rooted = stays is_dir 0 s.rooted;
    root_home = insert_all AtRoot f fs (λ z. absurd (other is_dir 0 s.rooted z)) s.root_home;
    homed = insert_all (HomeIn (insert f fs)) f fs (stays is_dir f.parent h)
        (all_map (HomeIn fs) _ fs (λ r t. stays is_dir r.parent t) s.homed);
    climbs = insert_climbs h s.homed s.climbs;
    owned = all_map (FileIn fs) (FileIn (insert f fs)) xs (λ x t. stays (λ r. not (is_dir r)) x.path t) s.owned;
    bounded = s.bounded;
    sorted = s.sorted;
  }

-- ---- a record deleted, that has neither entries nor extents

module _ (fs : List Record) (p : ℕ) (f : Record) (there : look p fs ≡ some f) (no-root : p ≢ 0) (empty : T (is_dir f) → T (is_empty p fs)) where
  -- nothing has the deleted file for its parent
  elsewhere : All AtRoot fs → All (HomeIn fs) fs → All (λ (r : Record). r.parent ≢ p) fs
  unfolding is_empty entry_of dir_at
  elsewhere root_home homed = ⊎_elim
      (λ (d : T (is_dir f)). all_of (λ (r : Record). r.parent ≢ p) fs (λ r i z. ⊎_elim
      (λ (o : r.path ≡ 0). no-root (sym z ∙ all_in AtRoot fs root_home r i o))
      (λ (n : r.path ≢ 0). T-not→ (any_of (entry_of p) fs) (empty d)
      (any_in (entry_of p) fs r i (and_i (eqb r.parent p) (not (eqb r.path 0)) (eqb_of z) (→not_eqb r.path 0 n))))
      (eq_or r.path 0)))
      (λ (n : T (is_dir f) → ⊥). all_map (HomeIn fs) (λ (r : Record). r.parent ≢ p) fs
      (λ r t z. n (test→ is_dir (look r.parent fs) f (rw z there) t)) homed)
      (T-dec (is_dir f))

  stands : (c : Record → Bool) (q : ℕ) → q ≢ p → T (test c (look q fs)) → T (test c (look q (delete p fs)))
  stands c q n t = rw (look_delete q p fs (λ z. n (sym z))) t

  delete_shape : (xs : List Extent) → All (λ (x : Extent). x.path ≢ p) xs → Shape fs xs → Shape (delete p fs) xs
  unfolding dir_at file_at
  delete_shape xs gone s = record {
    ascending = delete_ascending p fs s.ascending;
    rooted = stands is_dir 0 (λ z. no-root (sym z)) s.rooted;
    root_home = delete_all AtRoot p fs s.root_home;
    homed = delete_all (HomeIn (delete p fs)) p fs
        (all_both _ (HomeIn fs) _ fs (λ r n t. stands is_dir r.parent n t) (elsewhere s.root_home s.homed) s.homed);
    climbs = (s.climbs.0, delete_all (Falls s.climbs.0) p fs s.climbs.1);
    owned = all_both (λ (x : Extent). x.path ≢ p) (FileIn fs) (FileIn (delete p fs)) xs
        (λ x n t. stands (λ r. not (is_dir r)) x.path n t) gone s.owned;
    bounded = s.bounded;
    sorted = s.sorted;
  }

-- ---- other extents

pub others_bounded : (p : ℕ) (xs : List Extent) → All Bounded xs → All Bounded (others p xs)
others_bounded p xs b = others_all Bounded p xs (all_map Bounded _ xs (λ x k n. k) b)

pub others_sorted : (p : ℕ) (xs : List Extent) → All Bounded xs → Sorted xs → Sorted (others p xs)
others_sorted p xs b s = lined_sorted (others p xs) (others_bounded p xs b) (others_lined p xs (sorted_lined xs b s))

pub lay_bounded : (run : Extent) (xs : List Extent) → Bounded run → All Bounded xs → All Bounded (lay run xs)
unfolding front back start end
lay_bounded run xs h b = lay_all Bounded run xs h (all_map Bounded _ xs (λ x k. (λ l. omega arith, λ l. omega arith)) b)

pub lay_sorted : (run : Extent) (xs : List Extent) → 0 < run.count → Bounded run → All Bounded xs → Sorted xs → Sorted (lay run xs)
lay_sorted run xs c h b s = lined_sorted (lay run xs) (lay_bounded run xs h b) (lay_lined run xs c (sorted_lined xs b s))

over : (fs : List Record) (xs ys : List Extent) → Shape fs xs → All (FileIn fs) ys → All Bounded ys → Sorted ys → Shape fs ys
over fs xs ys s o b r = record {
  ascending = s.ascending;
  rooted = s.rooted;
  root_home = s.root_home;
  homed = s.homed;
  climbs = s.climbs;
  owned = o;
  bounded = b;
  sorted = r;
}

others_shape : (p : ℕ) (fs : List Record) (xs : List Extent) → Shape fs xs → Shape fs (others p xs)
others_shape p fs xs s = over fs xs (others p xs) s (others_all (FileIn fs) p xs (all_map (FileIn fs) _ xs (λ x k n. k) s.owned))
    (others_bounded p xs s.bounded) (others_sorted p xs s.bounded s.sorted)

lay_shape : (run : Extent) (fs : List Record) (xs : List Extent) → 0 < run.count → Bounded run → FileIn fs run → Shape fs xs → Shape fs (lay run xs)
unfolding front back
lay_shape run fs xs c h o s = over fs xs (lay run xs) s (lay_all (FileIn fs) run xs o (all_map (FileIn fs) _ xs (λ x k. (λ l. k, λ l. k)) s.owned))
    (lay_bounded run xs h s.bounded) (lay_sorted run xs c h s.bounded s.sorted)

-- ---- the messages

pub changed_shape : (m : Message) (t : Tree) → Good m → applies (judge m t.records) ≡ true
    → Shape t.records t.extents → Shape (changed m t).records (changed m t).extents
unfolding changed records_after parent_after own_after extents_after created truncated written restated stamp sized is_dir dir_at file_at
changed_shape (Create parent perm path mtime cvers name uid gid) t w a s =
    let j = judged (Create parent perm path mtime cvers name uid gid) t.records a in
    insert_shape t.records _ j.3 t.extents (→test is_dir (look parent t.records) j.0 j.1 j.2) s
changed_shape (Remove path muid mtime) t w a s =
    let j = judged (Remove path muid mtime) t.records a in
    let xs : List Extent = others path t.extents in
    kept_shape (home_of path t.records) (stamp mtime muid) (λ f. refl) (λ f. refl) (λ f. refl) (delete path t.records) xs
    (delete_shape t.records path j.0 j.1 j.2 j.3 xs
    (others_all (λ (x : Extent). x.path ≢ path) path t.extents (all_of _ t.extents (λ x i n. n)))
    (others_shape path t.records t.extents s))
changed_shape (Truncate path mtime cvers muid) t w a s =
    kept_shape path (truncated mtime cvers muid) (λ f. refl) (λ f. refl) (λ f. refl) t.records (others path t.extents)
    (others_shape path t.records t.extents s)
changed_shape (Write run mtime muid cvers) t w a s =
    let j = judged (Write run mtime muid cvers) t.records a in
    kept_shape run.path (written run mtime muid) (λ f. refl) (λ f. refl) (λ f. refl) t.records (lay run t.extents)
    (lay_shape run t.records t.extents w.0 w.1
    (→test (λ f. not (is_dir f)) (look run.path t.records) j.0 j.1 (→T_not (is_dir j.0) j.2)) s)
changed_shape (Wstat path name uid gid muid perm mtime) t w a s =
    let j = judged (Wstat path name uid gid muid perm mtime) t.records a in
    alter_shape path (restated name perm uid gid mtime muid) (λ f. refl) (λ f. refl) t.records t.extents
    (subst (On (λ (f : Record). is_dir (restated name perm uid gid mtime muid f) ≡ is_dir f)) (sym j.1) j.2) s

pub bare_shape : Shape bare.records bare.extents
unfolding bare root dir_at look is_dir bit31 test if_eq if_true
bare_shape = record {
  ascending = (tt, tt);
  rooted = tt;
  root_home = (λ z. refl, tt);
  homed = (tt, tt);
  climbs = (λ q. 0, (λ n. absurd (n refl), tt));
  owned = tt;
  bounded = tt;
  sorted = tt;
}

-- "Records .. stand in the table by ascending path". "Extents are sorted, disjoint, not empty, and never joined."
pub replay_shape : (g : Geometry) (ls : List LogBlock) (t : Tree) → replay (log_of g ls) ≡ ok t → Shape t.records t.extents
replay_shape g ls t e = replay_keeps Shape Good changed_shape (log_of g ls) t (log_good g ls) bare_shape e

-- ---- lengths: "Length grows to offset + count if larger.", which is below 2^32

abbrev pub Short : Record → Type 0
Short f = f.length < 2 ^ 32

length_made : (m : Message) → Good m → Makes Short m
unfolding created truncated written restated stamp sized
length_made (Create parent perm path mtime cvers name uid gid) w = omega arith
length_made (Remove path muid mtime) w = λ f h. h
length_made (Truncate path mtime cvers muid) w = λ f h. omega arith
length_made (Write run mtime muid cvers) w = λ f h. omega arith
length_made (Wstat path name uid gid muid perm mtime) w = λ f h. h

pub replay_lengths : (g : Geometry) (ls : List LogBlock) (t : Tree) → replay (log_of g ls) ≡ ok t → All Short t.records
unfolding bare root changed
replay_lengths g ls t e = replay_keeps (λ fs xs. All Short fs) Good
    (λ m t w a h. records_all Short m t.records (length_made m w) h) (log_of g ls) t (log_good g ls) (omega arith, tt) e
