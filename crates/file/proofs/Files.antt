-- The file of a path, and what a read answers of it.
use Prim.Native.Nat.{ℕ, ◌-◌, ◌^◌, ◌<◌, ◌≤◌, min}
use mathlib.Core.Path.{◌≡◌, refl, sym, ap, subst, ◌∙◌}
use mathlib.Core.Bool.{Bool, true, false, cond}
use mathlib.Core.Option.{Option, none, some}
use mathlib.Core.List.{List, [], ◌∷◌, map}
use native.Mathlib.Omega.{arith}
use native.Mathlib.Nat.{sub-zero}
use lib.Dec.{eqb}
use lib.ListN.{length, get_or, take}
use Rattle.std.specs.List.{find}
use Rattle.std.specs.Prelude as std
use Rattle.std.specs.Prelude.{None, Some, Err}
use Rattle.std.specs.Option.{ok_or}
use Rattle.base.specs.Choice.{if_true, if_eq, on_some}
use Rattle.meaning.specs.declared.Extent.{Extent}
use Rattle.meaning.specs.declared.Geometry.{Geometry}
use Rattle.meaning.specs.declared.Record.{Record}
use Rattle.meaning.specs.declared.Refusal.{Refusal}
use Rattle.meaning.specs.declared.Refusal.TheVariants as refused
use Rattle.meaning.specs.Answer.{Answer, ok, no, and_then}
use Rattle.meaning.specs.Flash.{Lent, Image, image_of}
use Rattle.meaning.specs.Mount.{Mounted, mount_of}
use Rattle.meaning.specs.Replay.{bit31, is_dir, look}
use Rattle.meaning.specs.Services.{buffer_after, bytes_from, copied, read, readable}
use Rattle.extent.specs.Rows.{extent_of, Within}
use Rattle.shown.specs.declared.Shown.{Shown}
use Rattle.shown.specs.Shown.{Lines, mounted, rows_shown}
use Rattle.shown.proofs.Lines.{rows_low}
use Rattle.file.specs.File.{length_of}

-- ---- the file of a path

abbrev pub is_at : ℕ → Record → Bool
is_at p f = eqb f.path p

by_option : std.Option Record → Option Record
by_option None = none
by_option (Some f) = some f

look_step : (p : ℕ) (f : Record) (rs : List Record) (b : Bool) → look p rs ≡ by_option (find (is_at p) rs)
    → cond b (some f) (look p rs) ≡ by_option (cond b (Some f) (find (is_at p) rs))
unfolding by_option
look_step p f rs true e = refl
look_step p f rs false e = e

look_find : (p : ℕ) (rs : List Record) → look p rs ≡ by_option (find (is_at p) rs)
unfolding look if_eq if_true by_option
look_find p [] = refl
look_find p (f ∷ rs) = look_step p f rs (eqb f.path p) (look_find p rs)

module _ (p : ℕ) (rs : List Record) where
  pub nobody : find (is_at p) rs ≡ None → None ≡ length_of (look p rs)
  unfolding length_of on_some by_option
  nobody e = rw (look_find p rs, e)

  pub folder : {f : Record} → find (is_at p) rs ≡ Some f → true ≡ bit31 f.perm → None ≡ length_of (look p rs)
  unfolding length_of on_some if_true is_dir by_option
  folder e d = rw (look_find p rs, e, ← d)

  pub plain : {f : Record} → find (is_at p) rs ≡ Some f → false ≡ bit31 f.perm → Some f.length ≡ length_of (look p rs)
  unfolding length_of on_some if_true is_dir by_option
  plain e d = rw (look_find p rs, e, ← d)

pub ruleset lengths = (nobody, folder, plain)

-- ---- what a read answers, and leaves in the buffer

-- no byte
none_copied : (g : Geometry) (m : Image) (xs : List Extent) (p x : ℕ) (buffer : List ℕ) → buffer ≡ copied g m xs p x buffer 0
unfolding copied bytes_from
none_copied g m xs p x buffer = refl

module _ (p x room : ℕ) where
  -- what is answered of a record or none
  abbrev of_file : Option Record → Answer ℕ
  of_file o = on_some o (no (refused.NoFile p)) (λ f. if_true (is_dir f) (no (refused.NoFile p)) (ok (min room (f.length - x))))

  torn : (f : Record) (b : Bool) → if_true b None (Some f.length) ≡ None → if_true b (no (refused.NoFile p)) (ok (min room (f.length - x))) ≡ no (refused.NoFile p)
  unfolding if_true
  torn f true h = refl
  torn f false h = absurd (cc)

  whole : (f : Record) (b : Bool) {len : ℕ} → if_true b None (Some f.length) ≡ Some len → if_true b (no (refused.NoFile p)) (ok (min room (f.length - x))) ≡ ok (min room (len - x))
  unfolding if_true
  whole f true h = absurd (cc)
  whole f false {len} h = let y : f.length ≡ len = cc in ap {B = Answer ℕ} (λ k. ok (min room (k - x))) y

  absent_is : (o : Option Record) → length_of o ≡ None → of_file o ≡ no (refused.NoFile p)
  unfolding length_of on_some
  absent_is none h = refl
  absent_is (some f) h = torn f (is_dir f) h

  plain_is : (o : Option Record) {len : ℕ} → length_of o ≡ Some len → of_file o ≡ ok (min room (len - x))
  unfolding length_of on_some
  plain_is none h = absurd (cc)
  plain_is (some f) h = whole f (is_dir f) h

module _ (g : Geometry) (l : Lent) (p x : ℕ) (buffer : List ℕ) where
  abbrev pub Reads : Answer ℕ → List ℕ → Type 0
  Reads o after = (o ≡ read g l p x (length buffer)) × (after ≡ buffer_after g l p x buffer)

  -- by what the mount and then the read answer
  abbrev by_read : Mounted → Answer ℕ → List ℕ
  by_read a o = elim o [ no r ↦ buffer | ok n ↦ copied g (image_of g l) a.tree.extents p x buffer n ]

  abbrev by_mount : Answer Mounted → List ℕ
  by_mount o = elim o [ no r ↦ buffer | ok a ↦ by_read a (readable a p x (length buffer)) ]

  after_is : buffer_after g l p x buffer ≡ by_mount (mount_of g l)
  unfolding buffer_after
  after_is = refl

  pub refused_reads : {r : Refusal} → mount_of g l ≡ no r → Reads (no r) buffer
  unfolding read and_then
  refused_reads e = (rw e, sym (after_is ∙ ap by_mount e))

  module _ (s : Shown) (rows : List (List ℕ)) (e : ok (mounted s rows) ≡ mount_of g l) where
    so : {o : Answer ℕ} → readable (mounted s rows) p x (length buffer) ≡ o → Reads o (by_read (mounted s rows) o)
    unfolding read and_then readable
    so h = (rw (← e) (sym h), sym (after_is ∙ ap by_mount (sym e) ∙ ap (by_read (mounted s rows)) h))

    -- what the search finds among the records that are shown
    module _ {o : std.Option ℕ} (found : o ≡ length_of (look p (take (s.files - 0) s.records))) where
      found_is : o ≡ length_of (look p (take s.files s.records))
      found_is = found ∙ ap (λ (k : ℕ). length_of (look p (take k s.records))) (sub-zero s.files)

      pub absent_reads : o ≡ None → Reads (no (refused.NoFile p)) buffer
      unfolding readable
      absent_reads h = so (absent_is p x (length buffer) (look p (take s.files s.records)) (sym found_is ∙ h))

      module _ {len n : ℕ} (h : o ≡ Some len) (z : n ≡ min (length buffer) (len - x)) where
        answered : readable (mounted s rows) p x (length buffer) ≡ ok n
        unfolding readable
        answered = plain_is p x (length buffer) (look p (take s.files s.records)) (sym found_is ∙ h) ∙ ap {B = Answer ℕ} ok (sym z)

        pub plain_reads : {after : List ℕ} → after ≡ copied g (image_of g l) (map extent_of (take (s.extents - 0) rows)) p x buffer n → Reads (ok n) after
        plain_reads c =
            let w = so answered in
            (w.0, c ∙ ap (λ (k : ℕ). copied g (image_of g l) (map extent_of (take k rows)) p x buffer n) (sub-zero s.extents) ∙ w.1)

        -- no byte: the buffer is as it was
        pub none_reads : n ≤ 0 → Reads (ok n) buffer
        none_reads k =
            let w = so answered in
            let y : 0 ≡ n = omega arith in
            (w.0, none_copied g (image_of g l) (rows_shown rows s.extents) p x buffer ∙ ap (copied g (image_of g l) (rows_shown rows s.extents) p x buffer) y ∙ w.1)

-- ---- what the code asks

-- no value, so the error that is given
pub none_of : {o : std.Option ℕ} {r y : Refusal} → Err y ≡ ok_or o r → o ≡ None → y ≡ r
none_of {o} {r} {y} e h = let z : Err y ≡ Err r = e ∙ ap (λ (v : std.Option ℕ). ok_or v r) h in cc

pub rows_within : (rows : List (List ℕ)) (n : ℕ) → Lines (take n rows) → ((i : ℕ) → i < length (take (n - 0) rows) → get_or (get_or (take (n - 0) rows) i []) 0 0 < 2 ^ 32)
    → Within 0 (2 ^ 64) (take (n - 0) rows)
rows_within rows n w h = rows_low _ (subst Lines (ap (λ (k : ℕ). take k rows) (sym (sub-zero n))) w) h
