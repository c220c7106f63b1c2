-- A turn by what its message finds: the file of its path at a position, or a gap.
use Prim.Native.Nat.{ℕ, ◌+◌, ◌-◌, ◌<◌, ◌≤◌, ◌^◌}
use mathlib.Core.Path.{◌≡◌, refl, sym, ap, ap₂, subst, ◌∙◌}
use mathlib.Core.Logic.{⊎_elim}
use mathlib.Core.Bool.{Bool, true, false}
use mathlib.Core.Option.{none, some}
use mathlib.Core.List.{List, [], ◌∷◌}
use native.Mathlib.Omega.{arith}
use lib.ListN.{length, set, get_or}
use Rattle.std.specs.Prelude.{Result, Ok, Err}
use Rattle.std.specs.declared.option.Option as option
use Rattle.std.specs.declared.option.Option.TheVariants as made
use Rattle.base.proofs.Tests.{lt_or, zero_one}
use Rattle.base.proofs.Choices.{less_yes, less_no}
use Rattle.meaning.specs.declared.Address.{Address}
use Rattle.meaning.specs.declared.Extent.{Extent}
use Rattle.meaning.specs.declared.Geometry.{Geometry}
use Rattle.meaning.specs.declared.Message.{Message}
use Rattle.meaning.specs.declared.Plan.{Plan}
use Rattle.meaning.specs.declared.Record.{Record}
use Rattle.meaning.specs.declared.Refusal.TheVariants as refused
use Rattle.meaning.specs.Answer.{no}
use Rattle.meaning.specs.Flash.{Lent, image_of}
use Rattle.meaning.specs.Log.{log_of, replayed}
use Rattle.meaning.specs.Replay.{bit31, is_dir, is_empty, look, alter, insert, delete, applies, judge, extents_after, lay, others, replay}
use Rattle.flash_log.specs.declared.Cursor.{Cursor}
use Rattle.tree.specs.declared.Tree.{Tree}
use Rattle.tree.specs.Shift.{opened, closed}
use Rattle.tree.specs.Tree.{record_at, live, files, Kept, Rising, put, inserted, removed}
use Rattle.tree.specs.Tree as trees
use Rattle.tree.proofs.Laws.{files_length, kept_rising, found_look, found_slot, found_path, found_alter, kept_remove, found_delete, gap_look, gap_insert, slot_there}
use Rattle.extent.specs.Rows.{Fit}
use Rattle.runs.specs.declared.Span.{Span}
use Rattle.runs.specs.Runs.{gather, vacant, Live}
use Rattle.change.specs.declared.edit.Edit.{Edit}
use Rattle.change.specs.declared.edit.Edit.TheVariants.{Ignored, Written, Truncated, Restated, Removed}
use Rattle.change.specs.declared.room.Room.{Room}
use Rattle.change.specs.Edit.{subject, edit_of, newborn, stamped_by}
use Rattle.change.specs.Room.{Stands, Known, Laid, Turns, Some}
use Rattle.replay.specs.Replay.{path_at, Held}
use Rattle.change.proofs.Steps.{rank, record_of, revised, made_revised, written_run, written_extents, truncated_extents, restated_extents, others_fewer, ignored_there, changed_there, changed_records, removed_full, removed_there, removed_records, removed_extents, unborn, no_parent, no_directory, born_there, born_path, born_records, born_extents, revised_path, stamped_path, alter_absent}
use Rattle.replay.proofs.Holds.{found_stands, found_known, held_put, held_same, removed_gather, held_removed, inserted_gather, held_inserted, live_so}
use Rattle.replay.proofs.Turns.{Going, Heard, goes_ignored, goes_applied, full_extents, full_records}

insert_length : (f : Record) (fs : List Record) → length (insert f fs) ≡ length fs + 1
unfolding insert
insert_length f [] = refl
insert_length f (h ∷ hs) = ⊎_elim
    (λ (z : f.path < h.path). rw (less_yes f.path h.path (f ∷ h ∷ hs) (h ∷ insert f hs) z) (omega arith))
    (λ (z : h.path ≤ f.path). rw (less_no f.path h.path (f ∷ h ∷ hs) (h ∷ insert f hs) z) (omega (arith, insert_length f hs)))
    (lt_or f.path h.path)

false_true : false ≡ true → ⊥
false_true e = zero_one (ap number e)
  where
    number : Bool → ℕ
    number false = 0
    number true = 1

-- a tree that was changed a field at a time
pub removed_is : (t : Tree) (i : ℕ) {keys slots : List ℕ} → keys ≡ closed t.count i t.keys → slots ≡ closed t.count i t.slots
    → record { records = t.records; keys = keys; slots = slots; count = t.count - 1 } ≡ removed i t
removed_is t i a b = ap₂ {C = Tree} (λ ks ss. record { records = t.records; keys = ks; slots = ss; count = t.count - 1 }) a b

inserted_is : (t : Tree) (j : ℕ) (q : Record) {keys slots : List ℕ} {s : ℕ} → s ≡ get_or t.slots t.count 0
    → keys ≡ opened t.count j q.path t.keys → slots ≡ opened t.count j (get_or t.slots t.count 0) t.slots
    → record { records = set t.records s q; keys = keys; slots = slots; count = t.count + 1 } ≡ inserted j q t
inserted_is t j q {keys} {slots} e a b =
    ap {B = Tree} (λ (x : ℕ). record { records = set t.records x q; keys = keys; slots = slots; count = t.count + 1 }) e
    ∙ ap₂ {C = Tree} (λ ks ss. record { records = set t.records (get_or t.slots t.count 0) q; keys = ks; slots = ss; count = t.count + 1 }) a b

-- ---- positions and slots

module _ {t : Tree} (kept : Kept t) where
  pub may_find : (t.count ≤ 256) × Rising t.keys t.count
  may_find = (kept.few, kept_rising t kept)

  module _ (q : ℕ) {i : ℕ} {x : Result ℕ ℕ} (f : trees.Stands t.keys t.count q x) (xe : x ≡ Ok i) where
    there : trees.Stands t.keys t.count q (Ok i)
    there = subst (trees.Stands t.keys t.count q) xe f

    pub at_slot : get_or t.slots i 0 < 256
    at_slot = found_slot t kept q i there

    pub less_kept : {t₁ : Tree} → t₁ ≡ removed i t → Kept t₁
    less_kept z = rw z (kept_remove t kept q i there)

pub free_slot : {t : Tree} {spans : List Span} {rows : List (List ℕ)} {room : Room} {s : ℕ} → Held t spans rows room → t.count < 256 → s ≡ get_or t.slots t.count 0 → (s < length spans) × (s < 256)
free_slot {t} h few z = let u = slot_there t h.kept t.count few in (omega (arith, u, h.placed.parts.slots), omega (arith, u))

-- ---- a turn

module _ {g : Geometry} {l : Lent} {p : Plan} {t : Tree} {spans : List Span} {rows : List (List ℕ)} {room : Room} {applied ignored : ℕ} {c : Cursor} (k : Going g l p t spans rows room applied ignored c)
    {m : Message} {a : Address} {d : Cursor} (y : Heard g l p c m a d) where
  abbrev kept : Kept t
  kept = k.held.kept

  -- ---- the file is there
  module _ {q i : ℕ} {x : Result ℕ ℕ} (f : trees.Stands t.keys t.count q x) (xe : x ≡ Ok i) (qe : (q ≡ subject m) × (q < 2 ^ 32)) where
    abbrev s : ℕ
    s = get_or t.slots i 0

    stands : trees.Stands t.keys t.count (subject m) (Ok i)
    stands = subst (λ (z : ℕ). trees.Stands t.keys t.count z (Ok i)) qe.0 (subst (trees.Stands t.keys t.count q) xe f)

    looked : look (subject m) (files t) ≡ some (record_at t s)
    looked = found_look t kept (subject m) i stands

    pub at_ignored : {v : Edit} {n : ℕ} → v ≡ edit_of m (record_at t s) → v ≡ Ignored → n ≡ ignored + 1 → Going g l p t spans rows room applied n d
    at_ignored e h z = goes_ignored k y z (ignored_there (files t) (record_at t s) m looked (sym e ∙ h))

    known : Known (path_at t) spans rows (live t) s (subject m)
    known = found_known t spans rows room k.held (subject m) i stands (omega (arith, qe.0, qe.1))

    -- ---- a change of its record: the rows hold what the message leaves of the extents

    changed : {spans' : List Span} {rows' : List (List ℕ)} {room' : Room} {v : Edit} {r : Record} {n : ℕ} → Laid (path_at t) spans' rows' room' (live t) (extents_after m (gather spans rows (live t)))
        → room'.used ≤ 1024 → v ≡ edit_of m (record_at t s) → 1 < rank v → record_of v ≡ r → n ≡ applied + 1 → Going g l p (put s r t) spans' rows' room' n ignored d
    changed {spans'} {rows'} {room'} {r = r} laid u e h z nz =
        let ch : 1 < rank (edit_of m (record_at t s)) = subst (λ (x : Edit). 1 < rank x) e h in
        let rz : r ≡ revised m (record_at t s) = sym z ∙ ap record_of e ∙ made_revised m (record_at t s) ch in
        let e' : r.path ≡ subject m = ap (λ (f : Record). f.path) rz ∙ revised_path m (record_at t s) ∙ found_path t kept (subject m) i stands in
        goes_applied k y nz (changed_there (files t) (record_at t s) m looked ch)
        (held_put t spans rows room k.held (subject m) i stands r e' spans' rows' room' _ laid (omega (arith, laid.used)))
        (ap (λ (f : Record). files (put s f t)) rz ∙ found_alter t kept (subject m) i stands (revised m) ∙ sym (changed_records (files t) (record_at t s) m ch))
        laid.all

    pub at_restated : {v : Edit} {r : Record} {n : ℕ} → v ≡ edit_of m (record_at t s) → v ≡ Restated r → n ≡ applied + 1 → Going g l p (put s r t) spans rows room n ignored d
    at_restated e h nz =
        let xs = gather spans rows (live t) in
        let same : Laid (path_at t) spans rows room (live t) xs = record { parts = k.held.placed.parts; owned = k.held.owned; all = refl; used = k.held.used } in
        changed (subst (Laid (path_at t) spans rows room (live t)) (sym (restated_extents (record_at t s) m xs (sym e ∙ h))) same)
        (omega (arith, k.held.used, k.held.placed.few)) e (subst (λ (x : Edit). 1 < rank x) (sym h) (omega arith)) (ap record_of h) nz

    module _ {v : Edit} {run : Extent} {r : Record} (e : v ≡ edit_of m (record_at t s)) (h : v ≡ Written run r) where
      wrote : edit_of m (record_at t s) ≡ Written run r
      wrote = sym e ∙ h

      known_run : Known (path_at t) spans rows (live t) s run.path
      known_run = subst (Known (path_at t) spans rows (live t) s) (sym (written_run (record_at t s) m wrote).0) known

      pub at_run : Live t.slots t.count × Stands spans rows room (live t) s × Some spans rows (live t) s run.path × Fit run
      at_run = (live_so t kept, found_stands t spans rows room k.held (subject m) i stands, (path_at t, known_run), (written_run (record_at t s) m wrote).1 y.ranged)

      module _ {spans' : List Span} {rows' : List (List ℕ)} {room' : Room} (w : Turns spans rows spans' rows' room' (live t) s run.path (lay run (gather spans rows (live t)))) where
        laid : Laid (path_at t) spans' rows' room' (live t) (extents_after m (gather spans rows (live t)))
        laid = subst (Laid (path_at t) spans' rows' room' (live t)) (sym (written_extents (record_at t s) m (gather spans rows (live t)) wrote)) (w (path_at t) known_run)

        pub at_written : {n : ℕ} → room'.used ≤ 1024 → n ≡ applied + 1 → Going g l p (put s r t) spans' rows' room' n ignored d
        at_written u nz = changed laid u e (subst (λ (x : Edit). 1 < rank x) (sym h) (omega arith)) (ap record_of h) nz

        pub at_full : 1024 < room'.used → no (refused.Full a) ≡ replay (log_of g (replayed g (image_of g l)))
        at_full u = full_extents k y (changed_there (files t) (record_at t s) m looked (subst (λ (x : Edit). 1 < rank x) (sym wrote) (omega arith))) (omega (arith, laid.used))

    known_too : Known (path_at t) spans rows (live t) s q
    known_too = subst (Known (path_at t) spans rows (live t) s) (sym qe.0) known

    pub at_clear : Stands spans rows room (live t) s × Some spans rows (live t) s q
    at_clear = (found_stands t spans rows room k.held (subject m) i stands, (path_at t, known_too))

    module _ {spans' : List Span} {room' : Room} (w : Turns spans rows spans' rows room' (live t) s q (others q (gather spans rows (live t)))) where
      cleared : Laid (path_at t) spans' rows room' (live t) (others (subject m) (gather spans rows (live t)))
      cleared = subst (λ (z : ℕ). Laid (path_at t) spans' rows room' (live t) (others z (gather spans rows (live t)))) qe.0 (w (path_at t) known_too)

      pub at_truncated : {v : Edit} {r : Record} {n : ℕ} → v ≡ edit_of m (record_at t s) → v ≡ Truncated r → n ≡ applied + 1 → Going g l p (put s r t) spans' rows room' n ignored d
      at_truncated e h nz =
          let xs = gather spans rows (live t) in
          changed (subst (Laid (path_at t) spans' rows room' (live t)) (sym (truncated_extents (record_at t s) m xs (sym e ∙ h))) cleared)
          (omega (arith, cleared.used, others_fewer (subject m) xs, k.held.placed.few)) e (subst (λ (x : Edit). 1 < rank x) (sym h) (omega arith)) (ap record_of h) nz

    -- ---- a remove, of a file that may go

    module _ {spans' : List Span} {room' : Room} (w : Turns spans rows spans' rows room' (live t) s q (others q (gather spans rows (live t)))) {v : Edit} (e : v ≡ edit_of m (record_at t s))
        (h : v ≡ Removed) (go : is_dir (record_at t s) ≡ true → is_empty (subject m) (files t) ≡ true) where
      ed : edit_of m (record_at t s) ≡ Removed
      ed = sym e ∙ h

      module _ {t₁ : Tree} (z : t₁ ≡ removed i t) where
        gone : Held t₁ spans' rows room'
        gone = rw z (held_removed t spans rows room k.held (subject m) i stands spans' rows room' (cleared w))

        gathered : gather spans' rows (live t₁) ≡ extents_after m (gather spans rows (live t))
        gathered = rw z (removed_gather t spans rows room k.held (subject m) i stands spans' rows room' (cleared w)) ∙ sym (removed_extents (files t) (record_at t s) m (gather spans rows (live t)) ed)

        deleted : files t₁ ≡ delete (subject m) (files t)
        deleted = rw z (found_delete t kept (subject m) i stands)

        module _ {x₁ : Result ℕ ℕ} (f₁ : trees.Stands t₁.keys t₁.count (record_at t s).parent x₁) where
          pub at_removed : {j n : ℕ} → x₁ ≡ Err j → n ≡ applied + 1 → Going g l p t₁ spans' rows room' n ignored d
          at_removed {j} xj nz =
              goes_applied k y nz (removed_there (files t) (record_at t s) m looked ed go) gone
              (deleted
              ∙ sym (alter_absent (record_at t s).parent (stamped_by m) (delete (subject m) (files t))
              (ap (look (record_at t s).parent) (sym deleted) ∙ gap_look t₁ gone.kept (record_at t s).parent j (subst (trees.Stands t₁.keys t₁.count (record_at t s).parent) xj f₁)))
              ∙ sym (removed_records (files t) (record_at t s) m looked ed))
              gathered

          pub at_stamped : {j : ℕ} {r : Record} {n : ℕ} → x₁ ≡ Ok j → r ≡ stamped_by m (record_at t₁ (get_or t₁.slots j 0)) → n ≡ applied + 1
              → Going g l p (put (get_or t₁.slots j 0) r t₁) spans' rows room' n ignored d
          at_stamped {j} {r} xj rz nz =
              let o = there gone.kept (record_at t s).parent f₁ xj in
              let e' : r.path ≡ (record_at t s).parent = ap (λ (f : Record). f.path) rz ∙ stamped_path m (record_at t₁ (get_or t₁.slots j 0)) ∙ found_path t₁ gone.kept (record_at t s).parent j o in
              goes_applied k y nz (removed_there (files t) (record_at t s) m looked ed go)
              (held_same t₁ spans' rows room' gone (record_at t s).parent j o r e')
              (ap (λ (f : Record). files (put (get_or t₁.slots j 0) f t₁)) rz
              ∙ found_alter t₁ gone.kept (record_at t s).parent j o (stamped_by m)
              ∙ ap (alter (record_at t s).parent (stamped_by m)) deleted
              ∙ sym (removed_records (files t) (record_at t s) m looked ed))
              gathered

    -- a directory with entries stays
    pub at_kept : {v : Edit} {u w : Bool} {n : ℕ} → v ≡ edit_of m (record_at t s) → v ≡ Removed → u ≡ bit31 (record_at t s).perm → u ≡ true → w ≡ is_empty (record_at t s).path (files t) → w ≡ false
        → n ≡ ignored + 1 → Going g l p t spans rows room applied n d
    unfolding is_dir
    at_kept e h ue uh we wh z =
        goes_ignored k y z (removed_full (files t) (record_at t s) m looked (sym e ∙ h) (sym ue ∙ uh)
        (ap (λ (z : ℕ). is_empty z (files t)) (sym (found_path t kept (subject m) i stands)) ∙ sym we ∙ wh))

    pub may_empty : {w : Bool} → w ≡ is_empty (record_at t s).path (files t) → w ≡ true → is_dir (record_at t s) ≡ true → is_empty (subject m) (files t) ≡ true
    may_empty we wh z = ap (λ (z : ℕ). is_empty z (files t)) (sym (found_path t kept (subject m) i stands)) ∙ sym we ∙ wh

    pub may_plain : {u : Bool} → u ≡ bit31 (record_at t s).perm → u ≡ false → is_dir (record_at t s) ≡ true → is_empty (subject m) (files t) ≡ true
    unfolding is_dir
    may_plain ue uh z = absurd (false_true (sym uh ∙ ue ∙ z))

  -- ---- the path is free
  module _ {q j : ℕ} {x : Result ℕ ℕ} (f : trees.Stands t.keys t.count q x) (xe : x ≡ Err j) (qe : (q ≡ subject m) × (q < 2 ^ 32)) where
    gap : trees.Stands t.keys t.count (subject m) (Err j)
    gap = subst (λ (z : ℕ). trees.Stands t.keys t.count z (Err j)) qe.0 (subst (trees.Stands t.keys t.count q) xe f)

    missing : look (subject m) (files t) ≡ none
    missing = gap_look t kept (subject m) j gap

    pub gap_ignored : {v : option.Option Record} {n : ℕ} → v ≡ newborn m → v ≡ made.None → n ≡ ignored + 1 → Going g l p t spans rows room applied n d
    gap_ignored e h z = goes_ignored k y z (unborn (files t) m missing (sym e ∙ h))

    module _ {v : option.Option Record} {r : Record} (e : v ≡ newborn m) (h : v ≡ made.Some r) where
      nb : newborn m ≡ made.Some r
      nb = sym e ∙ h

      module _ {x₁ : Result ℕ ℕ} (f₁ : trees.Stands t.keys t.count r.parent x₁) where
        pub gap_orphan : {i n : ℕ} → x₁ ≡ Err i → n ≡ ignored + 1 → Going g l p t spans rows room applied n d
        gap_orphan {i} xi z =
            goes_ignored k y z (no_parent (files t) r r m nb (gap_look t kept r.parent i (subst (trees.Stands t.keys t.count r.parent) xi f₁)))

        module _ {i : ℕ} (xi : x₁ ≡ Ok i) where
          abbrev parent : Record
          parent = record_at t (get_or t.slots i 0)

          parent_there : look r.parent (files t) ≡ some parent
          parent_there = found_look t kept r.parent i (there kept r.parent f₁ xi)

          pub gap_plain : {u : Bool} {n : ℕ} → u ≡ bit31 parent.perm → u ≡ false → n ≡ ignored + 1 → Going g l p t spans rows room applied n d
          unfolding is_dir
          gap_plain ue uh z = goes_ignored k y z (no_directory (files t) r parent m nb parent_there (sym ue ∙ uh))

          module _ {u : Bool} (ue : u ≡ bit31 parent.perm) (uh : u ≡ true) where
            born : applies (judge m (files t)) ≡ true
            unfolding is_dir
            born = born_there (files t) r parent m nb missing parent_there (sym ue ∙ uh)

            pub gap_full : t.count ≡ 256 → no (refused.Full a) ≡ replay (log_of g (replayed g (image_of g l)))
            gap_full z = full_records k y born (rw (born_records r m (files t) nb) (omega (arith, insert_length r (files t), files_length t kept)))

            gap_inserted : {t₁ : Tree} {spans₁ : List Span} {n : ℕ} → n ≡ applied + 1 → t.count < 256 → t₁ ≡ inserted j r t → spans₁ ≡ set spans (get_or t.slots t.count 0) vacant
                → Going g l p t₁ spans₁ rows room n ignored d
            gap_inserted nz few z sz = rw (z, sz)
                (goes_applied k y nz born
                (held_inserted t spans rows room k.held (subject m) j gap r (born_path r m nb) few)
                (gap_insert t kept (subject m) j gap r (born_path r m nb) few ∙ sym (born_records r m (files t) nb))
                (inserted_gather t spans rows room k.held (subject m) j gap r (born_path r m nb) few ∙ sym (born_extents r m (gather spans rows (live t)) nb)))

            -- as the fields are changed, one after another
            pub gap_opened : {keys slots : List ℕ} {s n : ℕ} {spans₁ : List Span} → t.count < 256 → s ≡ get_or t.slots t.count 0 → keys ≡ opened t.count j r.path t.keys
                → slots ≡ opened t.count j (get_or t.slots t.count 0) t.slots → spans₁ ≡ set spans s vacant → n ≡ applied + 1
                → Going g l p (record { records = set t.records s r; keys = keys; slots = slots; count = t.count + 1 }) spans₁ rows room n ignored d
            gap_opened few z a b sz nz = gap_inserted nz few (inserted_is t j r z a b) (sz ∙ ap (λ (n : ℕ). set spans n vacant) z)
