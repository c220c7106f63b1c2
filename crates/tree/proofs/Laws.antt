-- For those who hold a Tree: what is found at a position, what a change there makes of the files, and that the Tree stays kept.
use Prim.Native.Nat.{ℕ, ◌+◌, ◌≤◌, ◌<◌, zero-le}
use mathlib.Core.Path.{◌≡◌, sym, ap, subst, ◌∙◌}
use mathlib.Core.Logic.{◌⊎◌, inl, inr}
use mathlib.Core.Bool.{Bool, true, false}
use mathlib.Core.Option.{none, some}
use mathlib.Core.List.{List, [], ◌∷◌, map}
use native.Mathlib.Omega.{arith}
use native.Mathlib.Numerals.{add-one}
use lib.ListN.{length, take, drop, set, get_or, length-set, length-map, drop_of_length-le}
use lib.Seq.{get_or-take, get_or-set_same, length-take-le, take-suc, drop-cons, map-set_same}
use Rattle.std.specs.Prelude.{Ok, Err}
use Rattle.base.specs.Scan.{any_of}
use Rattle.base.specs.Member.{In}
use Rattle.base.proofs.Tests.{lt_or}
use Rattle.meaning.specs.declared.Record.{Record}
use Rattle.meaning.specs.Replay.{root, look, alter, insert, delete, entry_of, is_empty}
use Rattle.tree.specs.declared.Tree.{Tree}
use Rattle.tree.specs.Shift.{insert_at, remove_at}
use Rattle.tree.specs.Tree.{no_record, record_at, live, files, path_of, Rise, Kept, Numbered, Rising, Lower, Stands, put, inserted, removed}
use Rattle.tree.proofs.Shifts.{opened_first, closed_first, opened_length, closed_length}
use Rattle.tree.proofs.Slots.{slots_take, slot_below, free_apart, slots_opened, slots_closed, store_other, store_at, numbered_slots}
use Rattle.tree.proofs.Positions.{path_at, look_none, look_at, alter_at, delete_at, insert_at_lem, map_insert, map_remove, map_at, rise_insert, rise_remove, rise_strict}

-- no file before position j is an entry of directory p
abbrev pub NoneBefore : Tree → ℕ → ℕ → Type 0
NoneBefore t p j = any_of (entry_of p) (files t) ≡ any_of (entry_of p) (drop j (files t))

module _ (t : Tree) (k : Kept t) where
  enough : (xs : List ℕ) → length xs ≡ 256 → t.count ≤ length xs
  enough xs e = omega (arith, k.few)

  live_length : length (live t) ≡ t.count
  live_length = length-take-le t.count t.slots (enough t.slots k.slots_len)

  pub files_length : length (files t) ≡ t.count
  files_length = length-map (live t) (record_at t) ∙ live_length

  pub file_at_lem : (a : ℕ) → a < t.count → get_or (files t) a no_record ≡ record_at t (get_or t.slots a 0)
  file_at_lem a h = map_at (record_at t) (live t) a 0 no_record (omega (arith, live_length)) ∙ ap (record_at t) (get_or-take t.count t.slots a 0 h)

  key_is : (a : ℕ) → a < t.count → get_or t.keys a 0 ≡ path_at (files t) a
  key_is a h =
      sym (get_or-take t.count t.keys a 0 h) ∙ ap (λ (l : List ℕ). get_or l a 0) k.keyed
      ∙ map_at path_of (files t) a no_record 0 (omega (arith, files_length))

  path_is : (a : ℕ) → a < t.count → get_or t.keys a 0 ≡ get_or (map path_of (files t)) a 0
  path_is a h = sym (get_or-take t.count t.keys a 0 h) ∙ ap (λ (l : List ℕ). get_or l a 0) k.keyed

  paths_length : length (map path_of (files t)) ≡ t.count
  paths_length = length-map (files t) path_of ∙ files_length

  -- what `find` requires
  pub kept_rising : Rising t.keys t.count
  kept_rising a b l h =
      let u : a < t.count = omega arith in
      rw (path_is a u, path_is b h) (rise_strict 0 (map path_of (files t)) k.rise a b l (omega (arith, paths_length)))

  -- the slot of each position is one
  pub slot_there : (a : ℕ) → a < 256 → get_or t.slots a 0 < 256
  slot_there a h = slot_below t.slots a k.slots (omega (arith, k.slots_len))

  lows : (p i : ℕ) → i ≤ t.count → Lower t.keys p i → (a : ℕ) → a < i → path_at (files t) a < p
  lows p i h f a l = let u : a < t.count = omega arith in rw (← key_is a u) (f a l)

  -- ---- the path stands at i
  module _ (p i : ℕ) (s : Stands t.keys t.count p (Ok i)) where
    here : path_at (files t) i ≡ p
    here = sym (key_is i s.0) ∙ s.1.0

    inside : i < length (files t)
    inside = omega (arith, files_length, s.0)

    less : (a : ℕ) → a < i → path_at (files t) a < p
    less = lows p i (omega (arith, s.0)) s.1.1

    pub found_slot : get_or t.slots i 0 < 256
    found_slot = slot_there i (omega (arith, s.0, k.few))

    pub found_look : look p (files t) ≡ some (record_at t (get_or t.slots i 0))
    found_look = look_at p (files t) i inside here less ∙ ap some (file_at_lem i s.0)

    pub found_path : (record_at t (get_or t.slots i 0)).path ≡ p
    found_path = sym (ap path_of (file_at_lem i s.0)) ∙ here

    put_set : (q : Record) → files (put (get_or t.slots i 0) q t) ≡ set (files t) i q
    put_set q =
        let e : get_or (live t) i 0 ≡ get_or t.slots i 0 = get_or-take t.count t.slots i 0 s.0 in
        rw (← e) (store_at t.records q (live t) i k.records_len (slots_take t.count t.slots k.slots) (omega (arith, live_length, s.0)))

    pub found_alter : (h : Record → Record) → files (put (get_or t.slots i 0) (h (record_at t (get_or t.slots i 0))) t) ≡ alter p h (files t)
    found_alter h = put_set _ ∙ ap (λ (f : Record). set (files t) i (h f)) (sym (file_at_lem i s.0)) ∙ sym (alter_at p h (files t) i inside here less)

    pub kept_put : (q : Record) → q.path ≡ p → Kept (put (get_or t.slots i 0) q t)
    kept_put q e =
        let m : map path_of (files (put (get_or t.slots i 0) q t)) ≡ map path_of (files t) = ap (map path_of) (put_set q) ∙ map-set_same path_of (files t) i q no_record (e ∙ sym here) in
        record {
          few = k.few;
          records_len = length-set t.records (get_or t.slots i 0) q ∙ k.records_len;
          keys_len = k.keys_len;
          slots_len = k.slots_len;
          keyed = k.keyed ∙ sym m;
          rise = subst (Rise 0) (sym m) k.rise;
          slots = k.slots;
        }

    pub live_removed : live (removed i t) ≡ remove_at i (live t)
    live_removed = closed_first t.slots t.count i s.0 (enough t.slots k.slots_len)

    files_removed : files (removed i t) ≡ remove_at i (files t)
    files_removed = ap (map (record_at t)) live_removed ∙ map_remove (record_at t) i (live t)

    pub found_delete : files (removed i t) ≡ delete p (files t)
    found_delete = files_removed ∙ sym (delete_at p (files t) i inside here less)

    pub kept_remove : Kept (removed i t)
    kept_remove =
        let m : map path_of (files (removed i t)) ≡ remove_at i (map path_of (files t)) = ap (map path_of) files_removed ∙ map_remove path_of i (files t) in
        record {
          few = omega (arith, k.few);
          records_len = k.records_len;
          keys_len = closed_length t.keys t.count i s.0 (enough t.keys k.keys_len) ∙ k.keys_len;
          slots_len = closed_length t.slots t.count i s.0 (enough t.slots k.slots_len) ∙ k.slots_len;
          keyed = closed_first t.keys t.count i s.0 (enough t.keys k.keys_len) ∙ ap (remove_at i) k.keyed ∙ sym m;
          rise = subst (Rise 0) (sym m) (rise_remove 0 (map path_of (files t)) i k.rise);
          slots = slots_closed t.slots t.count i k.slots s.0 (enough t.slots k.slots_len);
        }

  -- ---- the path is missing, and its place is i
  module _ (p i : ℕ) (s : Stands t.keys t.count p (Err i)) where
    over : (a : ℕ) → i ≤ a → a < length (files t) → p < path_at (files t) a
    over a h l = let u : a < t.count = omega (arith, files_length) in rw (← key_is a u) (s.1.1 a h u)

    pub gap_look : look p (files t) ≡ none
    gap_look = look_none p (files t) (λ a l e. apart a l e (lt_or a i))
      where
        apart : (a : ℕ) → a < length (files t) → path_at (files t) a ≡ p → (a < i) ⊎ (i ≤ a) → ⊥
        apart a l e (inl b) = omega (arith, lows p i s.0 s.1.0 a b)
        apart a l e (inr b) = omega (arith, over a b l)

    module _ (q : Record) (e : q.path ≡ p) (room : t.count < 256) where
      wide : (xs : List ℕ) → length xs ≡ 256 → t.count < length xs
      wide xs z = omega arith

      -- the slot that q takes is no other's
      pub free_slot : In (get_or t.slots t.count 0) (live t) → ⊥
      free_slot = free_apart t.slots t.count i k.slots (wide t.slots k.slots_len)

      pub live_inserted : live (inserted i q t) ≡ insert_at i (get_or t.slots t.count 0) (live t)
      live_inserted = opened_first t.slots t.count i _ s.0 (enough t.slots k.slots_len)

      files_inserted : files (inserted i q t) ≡ insert_at i q (files t)
      unfolding insert_at
      files_inserted =
          let v : get_or t.slots t.count 0 < 256 = slot_there t.count room in
          ap (map (record_at (inserted i q t))) live_inserted
          ∙ map_insert (record_at (inserted i q t)) i (get_or t.slots t.count 0) (live t)
          ∙ ap (insert_at i (record_at (inserted i q t) (get_or t.slots t.count 0))) (store_other t.records q (get_or t.slots t.count 0) (live t) free_slot)
          ∙ ap (λ (f : Record). insert_at i f (files t)) (stored v)
        where
          stored : get_or t.slots t.count 0 < 256 → record_at (inserted i q t) (get_or t.slots t.count 0) ≡ q
          stored v = get_or-set_same t.records (get_or t.slots t.count 0) q no_record (omega (arith, k.records_len))

      pub gap_insert : files (inserted i q t) ≡ insert q (files t)
      gap_insert =
          files_inserted
          ∙ sym (insert_at_lem q (files t) i (omega (arith, files_length, s.0)) (λ a h. omega (arith, e, lows p i s.0 s.1.0 a h)) (λ a h l. omega (arith, e, over a h l)))

      pub kept_insert : Kept (inserted i q t)
      kept_insert =
          let m : map path_of (files (inserted i q t)) ≡ insert_at i q.path (map path_of (files t)) = ap (map path_of) files_inserted ∙ map_insert path_of i q (files t) in
          record {
            few = omega arith;
            records_len = length-set t.records _ q ∙ k.records_len;
            keys_len = opened_length t.keys t.count i q.path s.0 (wide t.keys k.keys_len) ∙ k.keys_len;
            slots_len = opened_length t.slots t.count i _ s.0 (wide t.slots k.slots_len) ∙ k.slots_len;
            keyed = opened_first t.keys t.count i q.path s.0 (enough t.keys k.keys_len) ∙ ap (insert_at i q.path) k.keyed ∙ sym m;
            rise = subst (Rise 0) (sym m) (rise_insert 0 q.path (map path_of (files t)) i zero-le below beyond k.rise);
            slots = slots_opened t.slots t.count i k.slots s.0 (wide t.slots k.slots_len);
          }
        where
          below : (a : ℕ) → a < i → get_or (map path_of (files t)) a 0 < q.path
          below a h = let u : a < t.count = omega (arith, s.0) in omega (arith, e, path_is a u, s.1.0 a h)

          beyond : (a : ℕ) → i ≤ a → a < length (map path_of (files t)) → q.path < get_or (map path_of (files t)) a 0
          beyond a h l = let u : a < t.count = omega (arith, paths_length) in omega (arith, e, path_is a u, s.1.1 a h u)

  -- ---- the entries of a directory, one position after another
  module _ (p j : ℕ) where
    next : j < length (live t) → drop j (files t) ≡ record_at t (get_or (live t) j 0) ∷ drop (j + 1) (files t)
    next h =
        let l : j < length (files t) = omega (arith, length-map (live t) (record_at t)) in
        drop-cons (files t) j no_record l ∙ rw (map_at (record_at t) (live t) j 0 no_record h, add-one j)

    pub entry_slot : j < length (live t) → get_or (live t) j 0 < 256
    entry_slot h = slot_below (live t) j (slots_take t.count t.slots k.slots) h

    pub entry_hit : NoneBefore t p j → j < length (live t) → (v : Bool) → v ≡ entry_of p (record_at t (get_or (live t) j 0)) → v ≡ true → false ≡ is_empty p (files t)
    unfolding is_empty any_of
    entry_hit u h v e y = rw (u, next h, ← e, y)

    pub entry_on : NoneBefore t p j → j < length (live t) → (v : Bool) → v ≡ entry_of p (record_at t (get_or (live t) j 0)) → v ≡ false → NoneBefore t p (j + 1)
    unfolding any_of
    entry_on u h v e y = rw (u, next h, ← e, y)

    pub entry_end : NoneBefore t p j → length (live t) ≤ j → true ≡ is_empty p (files t)
    unfolding is_empty any_of
    entry_end u h =
        let l : length (files t) ≤ j = omega (arith, length-map (live t) (record_at t)) in
        rw (u, drop_of_length-le (files t) l)

-- ---- the root alone

module _ (rs : List Record) (ks ss : List ℕ) where
  abbrev alone : Tree
  alone = record { records = rs; keys = ks; slots = ss; count = 1 }

  one : (xs : List ℕ) → length xs ≡ 256 → take 1 xs ≡ get_or xs 0 0 ∷ []
  one xs e = take-suc xs 0 0 (omega arith)

  pub root_alone : length rs ≡ 256 → length ks ≡ 256 → Numbered ss 256 → get_or rs 0 no_record ≡ root → get_or ks 0 0 ≡ 0
      → (files (record { records = rs; keys = ks; slots = ss; count = 1 }) ≡ root ∷ []) × Kept (record { records = rs; keys = ks; slots = ss; count = 1 })
  unfolding root
  root_alone lr lk d r z =
      let f : files alone ≡ root ∷ [] = rw (one ss d.len, d.own 0 (omega arith), r) in
      let m : map path_of (files alone) ≡ 0 ∷ [] = rw f in (
        f,
        record {
          few = omega arith;
          records_len = lr;
          keys_len = lk;
          slots_len = d.len;
          keyed = one ks lk ∙ rw (z, m);
          rise = subst (Rise 0) (sym m) (zero-le, tt);
          slots = numbered_slots ss d;
        },
      )
