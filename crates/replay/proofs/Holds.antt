-- The tree and its rows stay in order: a record changed, a file less, a file more.
use Prim.Native.Nat.{ℕ, suc, ◌+◌, ◌<◌, ◌≤◌, ◌^◌, zero-le}
use mathlib.Core.Path.{◌≡◌, refl, sym, ap, subst, ◌∙◌}
use mathlib.Core.Logic.{◌≢◌, ⊎_elim}
use mathlib.Core.List.{List, [], ◌∷◌, ◌++◌, map}
use native.Mathlib.Omega.{arith}
use lib.ListN.{length, take, drop, set, get_or, take-append-drop, length-set}
use lib.Seq.{split_at, get_or-set_same, get_or-set_other, get_or-take, take-suc, length-take-le}
use Rattle.std.specs.Prelude.{Ok, Err}
use Rattle.base.specs.Member.{All, In}
use Rattle.base.proofs.Tests.{eq_or}
use Rattle.base.proofs.Choices.{eq_yes, eq_no}
use Rattle.base.proofs.Lists.{all_map}
use Rattle.meaning.specs.declared.Extent.{Extent}
use Rattle.meaning.specs.declared.Record.{Record}
use Rattle.meaning.specs.Replay.{root, others}
use Rattle.tree.specs.declared.Tree.{Tree}
use Rattle.tree.specs.Shift.{insert_at, remove_at}
use Rattle.tree.specs.Tree.{no_record, record_at, live, files, path_of, Rise, Kept, Stands, put, inserted, removed}
use Rattle.tree.proofs.Laws.{files_length, found_slot, found_path, kept_put, live_removed, kept_remove, free_slot, live_inserted, kept_insert, slot_there}
use Rattle.runs.specs.declared.Span.{Span}
use Rattle.runs.specs.Runs.{capacity, span_at, vacant, gather, Live, Placed, Owned, Rising}
use Rattle.runs.proofs.Slots.{slot_in}
use Rattle.runs.proofs.Laws.{gather_open, open_placed, open_owned, gather_close, close_placed, close_owned, start_placed, start_owned, start_gather}
use Rattle.change.specs.declared.room.Room.{Room}
use Rattle.change.specs.Room as rooms
use Rattle.change.specs.Room.{Known, Laid}
use Rattle.replay.specs.Replay.{path_at, Held}
use Rattle.change.proofs.Steps.{others_twice}

-- ---- paths

owned_by : (path path' : ℕ → ℕ) (spans : List Span) (rows : List (List ℕ)) (ss : List ℕ) → ((s : ℕ) → In s ss → path' s ≡ path s) → Owned path spans rows ss → Owned path' spans rows ss
owned_by path path' spans rows ss e w = record { own = λ s i. rw (e s i) (w.own s i) }

rise_above : (path : ℕ → ℕ) (lo : ℕ) (ss : List ℕ) → Rise lo (map path ss) → All (λ (s : ℕ). lo ≤ path s) ss
rise_above path lo [] r = tt
rise_above path lo (s ∷ ss) r = (r.0, all_map (λ (u : ℕ). path s + 1 ≤ path u) (λ (u : ℕ). lo ≤ path u) ss (λ u h. omega (arith, r.0)) (rise_above path (path s + 1) ss r.1))

rise_rising : (path : ℕ → ℕ) (lo : ℕ) (ss : List ℕ) → Rise lo (map path ss) → Rising path ss
rise_rising path lo [] r = tt
rise_rising path lo (s ∷ ss) r = (
  all_map (λ (u : ℕ). path s + 1 ≤ path u) (λ (u : ℕ). path s < path u) ss (λ u h. omega arith) (rise_above path (path s + 1) ss r.1),
  rise_rising path (path s + 1) ss r.1,
)

paths_of : (t : Tree) (ss : List ℕ) → map path_of (map (record_at t) ss) ≡ map (path_at t) ss
paths_of t [] = refl
paths_of t (s ∷ ss) = ap (λ (l : List ℕ). path_at t s ∷ l) (paths_of t ss)

pub rising_paths : (t : Tree) → Kept t → Rising (path_at t) (live t)
rising_paths t k = rise_rising (path_at t) 0 (live t) (subst (Rise 0) (paths_of t (live t)) k.rise)

pub live_so : (t : Tree) → Kept t → Live t.slots t.count
live_so t k = record { all = k.slots_len; few = k.few }

others_fewer : (p : ℕ) (xs : List Extent) → length (others p xs) ≤ length xs
unfolding others
others_fewer p [] = zero-le
others_fewer p (x ∷ xs) = ⊎_elim
    (λ (z : x.path ≡ p). rw (eq_yes x.path p (others p xs) (x ∷ others p xs) z) (omega (arith, others_fewer p xs)))
    (λ (z : x.path ≢ p). rw (eq_no x.path p (others p xs) (x ∷ others p xs) z) (omega (arith, others_fewer p xs)))
    (eq_or x.path p)

-- ---- the file of a path is at i

module _ (t : Tree) (spans : List Span) (rows : List (List ℕ)) (room : Room) (h : Held t spans rows room) (p i : ℕ) (d : Stands t.keys t.count p (Ok i)) where
  abbrev s : ℕ
  s = get_or t.slots i 0

  pub found_in : In s (live t)
  found_in = slot_in t.slots t.count (live_so t h.kept) i s (omega (arith, length-take-le t.count t.slots (omega (arith, h.kept.few, h.kept.slots_len)), d.0)) (sym (get_or-take t.count t.slots i 0 d.0))

  pub found_stands : rooms.Stands spans rows room (live t) s
  found_stands = record { placed = h.placed; one = found_in; used = h.used }

  pub found_known : p < 2 ^ 32 → Known (path_at t) spans rows (live t) s p
  found_known l = record { owned = h.owned; rising = rising_paths t h.kept; own = found_path t h.kept p i d; low = l }

  -- a record with the same path
  module _ (q : Record) (e : q.path ≡ p) where
    put_path : (u : ℕ) → path_at (put s q t) u ≡ path_at t u
    put_path u = ⊎_elim
        (λ (z : u ≡ s). rw z (ap (λ (f : Record). f.path) (get_or-set_same t.records s q no_record (omega (arith, h.kept.records_len, found_slot t h.kept p i d))) ∙ e ∙ sym (found_path t h.kept p i d)))
        (λ (z : u ≢ s). ap (λ (f : Record). f.path) (get_or-set_other t.records s u q no_record z))
        (eq_or u s)

    pub held_put : (spans' : List Span) (rows' : List (List ℕ)) (room' : Room) (xs : List Extent) → Laid (path_at t) spans' rows' room' (live t) xs → length xs ≤ 1024 → Held (put s q t) spans' rows' room'
    held_put spans' rows' room' xs w few = record {
      kept = kept_put t h.kept p i d q e;
      placed = record { parts = w.parts; few = rw w.all few };
      owned = owned_by (path_at t) (path_at (put s q t)) spans' rows' (live t) (λ u j. put_path u) w.owned;
      used = w.used ∙ ap length (sym w.all);
    }

    -- and its rows as they were
    pub held_same : Held (put s q t) spans rows room
    held_same = held_put spans rows room (gather spans rows (live t)) (record { parts = h.placed.parts; owned = h.owned; all = refl; used = h.used }) h.placed.few

  -- ---- it is live no more

  live_split : live t ≡ take i (live t) ++ (s ∷ drop (suc i) (live t))
  live_split =
      split_at (live t) i 0 (omega (arith, length-take-le t.count t.slots (omega (arith, h.kept.few, h.kept.slots_len)), d.0))
      ∙ ap (λ (u : ℕ). take i (live t) ++ (u ∷ drop (suc i) (live t))) (get_or-take t.count t.slots i 0 d.0)

  -- its rows are cleared, and its place among the keys and slots is closed
  module _ (spans' : List Span) (rows' : List (List ℕ)) (room' : Room) (w : Laid (path_at t) spans' rows' room' (live t) (others p (gather spans rows (live t)))) where
    abbrev ls : List ℕ
    ls = take i (live t)

    abbrev rs : List ℕ
    rs = drop (suc i) (live t)

    fewer : length (gather spans' rows' (live t)) ≤ 1024
    fewer = rw w.all (omega (arith, others_fewer p (gather spans rows (live t)), h.placed.few))

    split_placed : Placed spans' rows' room'.bump (ls ++ (s ∷ rs))
    split_placed = subst (Placed spans' rows' room'.bump) live_split (record { parts = w.parts; few = fewer })

    split_owned : Owned (path_at t) spans' rows' (ls ++ (s ∷ rs))
    split_owned = subst (Owned (path_at t) spans' rows') live_split w.owned

    closed_live : live (removed i t) ≡ ls ++ rs
    unfolding remove_at
    closed_live = live_removed t h.kept p i d

    pub removed_gather : gather spans' rows' (live (removed i t)) ≡ others p (gather spans rows (live t))
    removed_gather =
        ap (gather spans' rows') closed_live
        ∙ gather_close (path_at t) spans' rows' room'.bump ls rs s split_owned (subst (Rising (path_at t)) live_split (rising_paths t h.kept))
        ∙ ap (λ (ss : List ℕ). others (path_at t s) (gather spans' rows' ss)) (sym live_split)
        ∙ ap (others (path_at t s)) w.all
        ∙ ap (λ (u : ℕ). others u (others p (gather spans rows (live t)))) (found_path t h.kept p i d)
        ∙ others_twice p (gather spans rows (live t))

    pub held_removed : Held (removed i t) spans' rows' room'
    held_removed = record {
      kept = kept_remove t h.kept p i d;
      placed = rw closed_live (close_placed (path_at t) spans' rows' room'.bump ls rs s split_placed);
      owned = rw closed_live (close_owned (path_at t) spans' rows' room'.bump ls rs s split_owned);
      used = w.used ∙ ap length (sym removed_gather);
    }

-- ---- a new file, in the first free slot

module _ (t : Tree) (spans : List Span) (rows : List (List ℕ)) (room : Room) (h : Held t spans rows room) (p j : ℕ) (d : Stands t.keys t.count p (Err j)) (q : Record) (e : q.path ≡ p)
    (few : t.count < 256) where
  abbrev u : ℕ
  u = get_or t.slots t.count 0

  abbrev before : List ℕ
  before = take j (live t)

  abbrev after : List ℕ
  after = drop j (live t)

  parted : live t ≡ before ++ after
  parted = sym (take-append-drop j (live t))

  free : In u (before ++ after) → ⊥
  free = subst (λ (ss : List ℕ). In u ss → ⊥) parted (free_slot t h.kept p j d q e few)

  opened_live : live (inserted j q t) ≡ before ++ (u ∷ after)
  unfolding insert_at
  opened_live = live_inserted t h.kept p j d q e few

  placed_so : Placed spans rows room.bump (before ++ after)
  placed_so = subst (Placed spans rows room.bump) parted h.placed

  low : u < 256
  low = slot_there t h.kept t.count few

  pub inserted_gather : gather (set spans u vacant) rows (live (inserted j q t)) ≡ gather spans rows (live t)
  inserted_gather =
      ap (gather (set spans u vacant) rows) opened_live
      ∙ gather_open (path_at t) (path_at t) spans rows room.bump before after u placed_so low free
      ∙ ap (gather spans rows) (sym parted)

  others_kept : (v : ℕ) → In v (before ++ after) → path_at (inserted j q t) v ≡ path_at t v
  others_kept v i = ap (λ (f : Record). f.path) (get_or-set_other t.records u v q no_record (λ (z : v ≡ u). free (subst (λ (y : ℕ). In y (before ++ after)) z i)))

  pub held_inserted : Held (inserted j q t) (set spans u vacant) rows room
  held_inserted = record {
    kept = kept_insert t h.kept p j d q e few;
    placed = rw opened_live (open_placed (path_at t) (path_at (inserted j q t)) spans rows room.bump before after u placed_so low free);
    owned = rw opened_live (open_owned (path_at t) (path_at (inserted j q t)) spans rows room.bump before after u placed_so low free
        (subst (Owned (path_at t) spans rows) parted h.owned) others_kept);
    used = h.used ∙ ap length (sym inserted_gather);
  }

-- ---- the root alone

module _ (t : Tree) (k : Kept t) (r : files t ≡ root ∷ []) (spans : List Span) (rows : List (List ℕ)) (hs : length spans ≡ 256) (hr : length rows ≡ capacity) where
  abbrev first : ℕ
  first = get_or t.slots 0 0

  one : t.count ≡ 1
  one = sym (files_length t k) ∙ ap length r

  alone : live t ≡ first ∷ []
  alone = rw one (take-suc t.slots 0 0 (omega (arith, k.slots_len)))

  pub first_low : first < length spans
  first_low = omega (arith, hs, slot_there t k 0 (omega arith))

  abbrev fresh : List Span
  fresh = set spans first vacant

  fresh_length : length fresh ≡ 256
  fresh_length = length-set spans first vacant ∙ hs

  first_fresh : span_at fresh first ≡ vacant
  first_fresh = get_or-set_same spans first vacant vacant first_low

  pub none_gathered : gather fresh rows (live t) ≡ []
  none_gathered = ap (gather fresh rows) alone ∙ start_gather (path_at t) fresh rows first fresh_length hr (slot_there t k 0 (omega arith)) first_fresh

  pub held_root : Held t fresh rows (record { bump = 0; used = 0 })
  held_root = record {
    kept = k;
    placed = rw alone (start_placed (path_at t) fresh rows first fresh_length hr (slot_there t k 0 (omega arith)) first_fresh);
    owned = rw alone (start_owned (path_at t) fresh rows first fresh_length hr (slot_there t k 0 (omega arith)) first_fresh);
    used = ap length (sym none_gathered);
  }
