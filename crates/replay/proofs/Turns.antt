-- What holds before each turn of the replay holds after it, and what is said at its end.
use Prim.Native.Nat.{ℕ, ◌+◌, ◌<◌, ◌≤◌, ◌^◌}
use mathlib.Core.Path.{◌≡◌, sym, ap, ap₂, subst, ◌∙◌}
use mathlib.Core.Bool.{true, false}
use mathlib.Core.List.{List, [], ◌∷◌}
use native.Mathlib.Omega.{arith}
use lib.ListN.{length, set, get_or}
use Rattle.meaning.specs.declared.Address.{Address}
use Rattle.meaning.specs.declared.Geometry.{Geometry}
use Rattle.meaning.specs.declared.Message.{Message}
use Rattle.meaning.specs.declared.Plan.{Plan}
use Rattle.meaning.specs.declared.Refusal.{Refusal}
use Rattle.meaning.specs.declared.Refusal.TheVariants as refused
use Rattle.meaning.specs.Answer.{Answer, ok, no}
use Rattle.meaning.specs.Flash.{Lent, image_of}
use Rattle.meaning.specs.Log.{Log, entry, log_of, replayed}
use Rattle.meaning.specs.Replay as meaning
use Rattle.meaning.specs.Replay.{root, judge, applies, records_after, extents_after, changed, passed_over, bare, replay}
use Rattle.flash_log.specs.declared.Cursor.{Cursor}
use Rattle.std.specs.Prelude.{Option, Some, None}
use Rattle.flash_log.specs.declared.Turn.{Turn}
use Rattle.flash_log.specs.declared.Turn.TheVariants as turns
use Rattle.flash_log.specs.Turn.{onto}
use Rattle.flash_log.specs.Cursor.{Placed, Ranged, Ready, Says, Next, ahead, left, whole}
use Rattle.flash_log.proofs.Told.{swept_low, active_low}
use Rattle.tree.specs.declared.Tree.{Tree}
use Rattle.tree.specs.Tree.{live, files, Kept}
use Rattle.tree.proofs.Laws.{files_length}
use Rattle.runs.specs.declared.Span.{Span}
use Rattle.runs.specs.Runs.{capacity, gather, vacant}
use Rattle.change.specs.declared.room.Room.{Room}
use Rattle.replay.specs.Replay.{shape, Held}
use Rattle.replay.proofs.Holds.{none_gathered, held_root}
use Rattle.replay.proofs.Onward.{onward, onward_all, onward_empty, onward_stopped, onward_ignored, onward_applied, onward_full, many_records, many_extents}

-- ---- before a turn

pub record Going (g : Geometry) (l : Lent) (p : Plan) (t : Tree) (spans : List Span) (rows : List (List ℕ)) (room : Room) (applied ignored : ℕ) (c : Cursor) : Type 0 where
  pub at : Placed g l p c
  pub held : Held t spans rows room
  pub rest : onward (ahead g l c) (shape t spans rows applied ignored) ≡ replay (log_of g (replayed g (image_of g l)))
  pub counts : applied + ignored + left g p c ≤ whole p

-- a message was told, and there is less to come
pub record Heard (g : Geometry) (l : Lent) (p : Plan) (c : Cursor) (m : Message) (a : Address) (d : Cursor) : Type 0 where
  pub is : ahead g l c ≡ entry a.0 m (ahead g l d)
  pub next : Next g l p (left g p c) d
  pub ranged : Ranged m

-- the root alone
module _ (t : Tree) (f : files t ≡ root ∷ []) (k : Kept t) (spans : List Span) (rows : List (List ℕ)) (hs : length spans ≡ 256) (hr : length rows ≡ capacity) {spans' : List Span}
    (e : spans' ≡ set spans (get_or t.slots 0 0) vacant) where
  pub start_held : Held t spans' rows (record { bump = 0; used = 0 })
  start_held = rw e (held_root t k f spans rows hs hr)

  pub start_bare : shape t spans' rows 0 0 ≡ bare
  unfolding bare
  start_bare = rw e (ap₂ {C = meaning.Tree} (λ rs xs. record { records = rs; extents = xs; applied = 0; ignored = 0 }) f (none_gathered t k f spans rows hs hr))

module _ (g : Geometry) (l : Lent) (p : Plan) where
  abbrev Begins : Option Cursor → Type 0
  Begins s = Says g l p (whole p) (log_of g (replayed g (image_of g l))) (onto s)

  pub going_first : {t : Tree} {spans : List Span} {rows : List (List ℕ)} {room : Room} {s : Option Cursor} {c : Cursor} → Begins s → s ≡ Some c → Held t spans rows room → shape t spans rows 0 0 ≡ bare
      → Going g l p t spans rows room 0 0 c
  going_first {t} {spans} {rows} {room} {s} {c} b e h z =
      let n = subst Begins e b in
      record {
        at = n.1.placed;
        held = h;
        rest = ap₂ onward (sym n.0) z ∙ onward_all _;
        counts = omega (arith, n.1.less);
      }

  pub nowhere_so : (t : Tree) (spans : List Span) (rows : List (List ℕ)) {s : Option Cursor} → Begins s → s ≡ None → shape t spans rows 0 0 ≡ bare
      → ok (shape t spans rows 0 0) ≡ replay (log_of g (replayed g (image_of g l)))
  nowhere_so t spans rows b e z =
      ap {B = Answer meaning.Tree} ok z ∙ sym (onward_empty bare) ∙ sym (ap (λ (x : Log). onward x bare) (subst Begins e b)) ∙ onward_all _

  pub counts_low : Ready g l p → whole p < 2 ^ 32
  unfolding whole
  counts_low r = omega (arith, swept_low g l p r, active_low g l p r)

  pub sums_low : Ready g l p → (n m k : ℕ) → n + m + k ≤ whole p → (n < 2 ^ 32) × (m < 2 ^ 32)
  sums_low r n m k h = (omega (arith, counts_low r), omega (arith, counts_low r))

module _ {g : Geometry} {l : Lent} {p : Plan} where
  module _ {t : Tree} {spans : List Span} {rows : List (List ℕ)} {room : Room} {applied ignored : ℕ} {c : Cursor} (k : Going g l p t spans rows room applied ignored c) where
    module _ {x : Turn} (s : Says g l p (left g p c) (ahead g l c) x) where
      pub heard : {m : Message} {a : Address} {d : Cursor} → x ≡ turns.Told d m a → Heard g l p c m a d
      heard e =
          let n = subst (Says g l p (left g p c) (ahead g l c)) e s in
          record { is = n.0; next = n.1; ranged = n.2 }

      pub ends_so : x ≡ turns.End → ok (shape t spans rows applied ignored) ≡ replay (log_of g (replayed g (image_of g l)))
      ends_so e = sym (onward_empty _) ∙ ap (λ (y : Log). onward y (shape t spans rows applied ignored)) (sym (subst (Says g l p (left g p c) (ahead g l c)) e s)) ∙ k.rest

      pub stops_so : {r : Refusal} → x ≡ turns.Refused r → no r ≡ replay (log_of g (replayed g (image_of g l)))
      stops_so {r} e = sym (onward_stopped r _) ∙ ap (λ (y : Log). onward y (shape t spans rows applied ignored)) (sym (subst (Says g l p (left g p c) (ahead g l c)) e s)) ∙ k.rest

      pub goes_on : {d : Cursor} → x ≡ turns.On d → Going g l p t spans rows room applied ignored d
      goes_on e =
          let n = subst (Says g l p (left g p c) (ahead g l c)) e s in
          record {
            at = n.1.placed;
            held = k.held;
            rest = ap (λ (y : Log). onward y (shape t spans rows applied ignored)) (sym n.0) ∙ k.rest;
            counts = omega (arith, n.1.less, k.counts);
          }

    module _ {m : Message} {a : Address} {d : Cursor} (y : Heard g l p c m a d) where
      told_so : onward (entry a.0 m (ahead g l d)) (shape t spans rows applied ignored) ≡ replay (log_of g (replayed g (image_of g l)))
      told_so = ap (λ (z : Log). onward z (shape t spans rows applied ignored)) (sym y.is) ∙ k.rest

      -- "A message failing its test is ignored and counted."
      pub goes_ignored : {n : ℕ} → n ≡ ignored + 1 → applies (judge m (files t)) ≡ false → Going g l p t spans rows room applied n d
      unfolding passed_over
      goes_ignored e h = rw e (record {
        at = y.next.placed;
        held = k.held;
        rest = sym (onward_ignored a.0 m (ahead g l d) (shape t spans rows applied ignored) h) ∙ told_so;
        counts = omega (arith, y.next.less, k.counts);
      })

      -- the message is applied, within the limits
      pub goes_applied : {t' : Tree} {spans' : List Span} {rows' : List (List ℕ)} {room' : Room} {n : ℕ} → n ≡ applied + 1 → applies (judge m (files t)) ≡ true → Held t' spans' rows' room'
          → files t' ≡ records_after m (files t) → gather spans' rows' (live t') ≡ extents_after m (gather spans rows (live t)) → Going g l p t' spans' rows' room' n ignored d
      unfolding changed
      goes_applied {t'} {spans'} {rows'} e h w f x = rw e (record {
        at = y.next.placed;
        held = w;
        rest =
            ap₂ {C = Answer meaning.Tree} (λ rs xs. onward (ahead g l d) (record { records = rs; extents = xs; applied = applied + 1; ignored = ignored })) f x
            ∙ sym (onward_applied a.0 m (ahead g l d) (shape t spans rows applied ignored) h
            (omega (arith, ap length (sym f), files_length t' w.kept, w.kept.few))
            (omega (arith, ap length (sym x), w.placed.few)))
            ∙ told_so;
        counts = omega (arith, y.next.less, k.counts);
      })

      -- or past one of them
      pub full_extents : applies (judge m (files t)) ≡ true → 1024 < length (extents_after m (gather spans rows (live t))) → no (refused.Full a) ≡ replay (log_of g (replayed g (image_of g l)))
      unfolding changed
      full_extents h n = sym (onward_full a.0 m (ahead g l d) (shape t spans rows applied ignored) h (many_extents _ n)) ∙ told_so

      pub full_records : applies (judge m (files t)) ≡ true → 256 < length (records_after m (files t)) → no (refused.Full a) ≡ replay (log_of g (replayed g (image_of g l)))
      unfolding changed
      full_records h n = sym (onward_full a.0 m (ahead g l d) (shape t spans rows applied ignored) h (many_records _ n)) ∙ told_so

pub as_long : {n m : ℕ} → n ≡ m → 1024 ≤ m → 1024 ≤ n
as_long e h = omega arith
