-- One message told to a tree: what its edit says of the verdict and of the change.
use Prim.Native.Nat.{ℕ, ◌<◌, ◌≤◌}
use mathlib.Core.Path.{◌≡◌, refl, sym, ap, subst, ◌∙◌}
use mathlib.Core.Bool.{Bool, true, false}
use mathlib.Core.Option.{Option, none, some}
use mathlib.Core.List.{List, [], ◌∷◌}
use native.Mathlib.Omega.{arith}
use lib.ListN.{length}
use mathlib.Core.Logic.{◌≢◌, ⊎_elim}
use Rattle.std.specs.Prelude.{Some, None}
use Rattle.base.proofs.Tests.{eq_or, zero_one}
use Rattle.base.proofs.Choices.{eq_yes, eq_no}
use Rattle.base.specs.Choice.{if_true, if_eq, on_some, is_some}
use Rattle.meaning.specs.declared.Extent.{Extent}
use Rattle.meaning.specs.declared.Message.{Message}
use Rattle.meaning.specs.declared.Message.TheVariants.{Create, Remove, Truncate, Write, Wstat}
use Rattle.meaning.specs.declared.Record.{Record}
use Rattle.meaning.specs.declared.Verdict.TheVariants.{Applied, NoParent, ParentNoDirectory, PathTaken, TheRoot, NotEmpty}
use Rattle.meaning.specs.Log.{empty}
use Rattle.meaning.specs.Replay.{root, created, truncated, written, restated, stamp, sized, is_dir, look, alter, insert, delete, is_empty, home_of, lay, others, judge, applies, own_after, parent_after, records_after, extents_after}
use Rattle.extent.specs.Rows.{Fit}
use Rattle.flash_log.specs.Cursor.{Ranged}
use Rattle.tree.specs.Judge.{judge_create, judge_remove}
use Rattle.tree.proofs.Judged as judged
use Rattle.tree.proofs.Judged.{not_emptied, created_there, created_absent, removed_absent, truncated_there, truncated_absent, written_there, written_absent, restated_there, restated_absent}
use Rattle.change.specs.declared.edit.Edit.{Edit}
use Rattle.change.specs.declared.edit.Edit.TheVariants.{Ignored, Written, Truncated, Restated, Removed}
use Rattle.change.specs.Edit.{subject, edit_if, edit_of, newborn, stamped_by}

-- ---- edits and verdicts

-- what an edit does: from 2 on, it makes a record of the one that is there
abbrev pub rank : Edit → ℕ
rank Ignored = 0
rank Removed = 1
rank (Written run q) = 2
rank (Truncated q) = 3
rank (Restated q) = 4

abbrev pub record_of : Edit → Record
record_of Ignored = root
record_of Removed = root
record_of (Written run q) = q
record_of (Truncated q) = q
record_of (Restated q) = q

abbrev run_of : Edit → Extent
run_of Ignored = record { path = 0; offset = 0; count = 0; address = 0 }
run_of Removed = record { path = 0; offset = 0; count = 0; address = 0 }
run_of (Written run q) = run
run_of (Truncated q) = record { path = 0; offset = 0; count = 0; address = 0 }
run_of (Restated q) = record { path = 0; offset = 0; count = 0; address = 0 }

ignored_removed : Ignored ≡ Removed → ⊥
ignored_removed e = cc

-- what an edit says of the test behind it
applied_if : (b : Bool) (e : Edit) → 1 < rank (edit_if b e) → b ≡ true
unfolding edit_if if_true
applied_if true e p = refl
applied_if false e p = absurd (omega arith)

made_if : (b : Bool) (e : Edit) → 1 < rank (edit_if b e) → edit_if b e ≡ e
unfolding edit_if if_true
made_if true e p = refl
made_if false e p = absurd (omega arith)

ignored_if : (b : Bool) (e : Edit) → edit_if b e ≡ Ignored → 0 < rank e → b ≡ false
unfolding edit_if if_true
ignored_if true e h p = let z : rank e ≡ 0 = ap rank h in absurd (omega arith)
ignored_if false e h p = refl

rank_if : (b : Bool) (e v : Edit) → edit_if b e ≡ v → 0 < rank v → rank e ≡ rank v
unfolding edit_if if_true
rank_if true e v h p = ap rank h
rank_if false e v h p = let z : 0 ≡ rank v = ap rank h in absurd (omega arith)

same_run : (b : Bool) (run run' : Extent) (q q' : Record) → edit_if b (Written run' q') ≡ Written run q → run' ≡ run
unfolding edit_if if_true
same_run true run run' q q' h = ap run_of h
same_run false run run' q q' h = let z : ◌≡◌ {A = ℕ} 0 2 = ap rank h in absurd (omega arith)

never_removed : (b : Bool) (e : Edit) → edit_if b e ≡ Removed → 1 < rank e → ⊥
never_removed b e h p = let z : rank e ≡ 1 = rank_if b e Removed h (omega arith) in omega arith

root_ignored : (path : ℕ) → if_eq path 0 Ignored Removed ≡ Ignored → path ≡ 0
root_ignored path e = ⊎_elim (λ (z : path ≡ 0). z) (λ (z : path ≢ 0). absurd (ignored_removed (sym e ∙ eq_no path 0 Ignored Removed z))) (eq_or path 0)

root_removed : (path : ℕ) → if_eq path 0 Ignored Removed ≡ Removed → path ≢ 0
root_removed path e z = ignored_removed (sym (eq_yes path 0 Ignored Removed z) ∙ e)

root_rank : (path : ℕ) → rank (if_eq path 0 Ignored Removed) ≤ 1
root_rank path = ⊎_elim
    (λ (z : path ≡ 0). let h : rank (if_eq path 0 Ignored Removed) ≡ 0 = ap rank (eq_yes path 0 Ignored Removed z) in omega arith)
    (λ (z : path ≢ 0). let h : rank (if_eq path 0 Ignored Removed) ≡ 1 = ap rank (eq_no path 0 Ignored Removed z) in omega arith)
    (eq_or path 0)

-- a create of a path that is there
taken_or : (b : Bool) → applies (if_true b PathTaken ParentNoDirectory) ≡ false
unfolding if_true applies
taken_or true = refl
taken_or false = refl

taken : (o p : Option Record) (f : Record) → p ≡ some f
    → applies (on_some o NoParent (λ d. if_true (is_dir d) (on_some p Applied (λ g. PathTaken)) ParentNoDirectory)) ≡ false
unfolding on_some applies
taken none p f e = refl
taken (some d) p f e = rw e (taken_or (is_dir d))

-- a remove of the root, and of a file that may go
root_stays : (path : ℕ) (f : Record) (empty : Bool) → path ≡ 0 → judge_remove path f empty ≡ TheRoot
unfolding judge_remove
root_stays path f empty z = eq_yes path 0 _ _ z

may_go : (path : ℕ) (f : Record) (empty : Bool) → path ≢ 0 → (is_dir f ≡ true → empty ≡ true) → judge_remove path f empty ≡ Applied
unfolding judge_remove if_true
may_go path f empty z h = eq_no path 0 _ _ z ∙ go (is_dir f) empty h
  where
    go : (b e : Bool) → (b ≡ true → e ≡ true) → if_true b (if_true e Applied NotEmpty) Applied ≡ Applied
    go true e h = rw (h refl)
    go false e h = refl

-- the record that a change makes
unfoldable pub revised : Message → Record → Record
revised (Create parent perm path mtime cvers name uid gid) f = f
revised (Remove path muid mtime) f = f
revised (Truncate path mtime cvers muid) f = truncated mtime cvers muid f
revised (Write run mtime muid cvers) f = written run mtime muid f
revised (Wstat path name uid gid muid perm mtime) f = restated name perm uid gid mtime muid f

pub made_revised : (m : Message) (f : Record) → 1 < rank (edit_of m f) → record_of (edit_of m f) ≡ revised m f
unfolding edit_of revised
made_revised (Create parent perm path mtime cvers name uid gid) f e = absurd (omega arith)
made_revised (Remove path muid mtime) f e = absurd (omega (arith, root_rank path))
made_revised (Truncate path mtime cvers muid) f e = ap record_of (made_if _ _ e)
made_revised (Write run mtime muid cvers) f e = ap record_of (made_if _ _ e)
made_revised (Wstat path name uid gid muid perm mtime) f e = ap record_of (made_if _ _ e)

-- ---- what becomes of the extents

module _ (f : Record) where
  pub written_run : (m : Message) {run : Extent} {q : Record} → edit_of m f ≡ Written run q → (run.path ≡ subject m) × (Ranged m → Fit run)
  unfolding edit_of subject
  written_run (Create parent perm path mtime cvers name uid gid) e = let z : ◌≡◌ {A = ℕ} 0 2 = ap rank e in absurd (omega arith)
  written_run (Remove path muid mtime) e = let z : rank (if_eq path 0 Ignored Removed) ≡ 2 = ap rank e in absurd (omega (arith, root_rank path))
  written_run (Truncate path mtime cvers muid) e = let z : ◌≡◌ {A = ℕ} 3 2 = rank_if _ _ _ e (omega arith) in absurd (omega arith)
  written_run (Write run' mtime muid cvers) {run} e =
      let z : run' ≡ run = same_run _ _ _ _ _ e in
      (ap (λ (x : Extent). x.path) (sym z), λ r. subst Fit z (record { some = r.0; file = r.1; flash = r.2 }))
  written_run (Wstat path name uid gid muid perm mtime) e = let z : ◌≡◌ {A = ℕ} 4 2 = rank_if _ _ _ e (omega arith) in absurd (omega arith)

  pub written_extents : (m : Message) {run : Extent} {q : Record} (xs : List Extent) → edit_of m f ≡ Written run q → extents_after m xs ≡ lay run xs
  unfolding edit_of extents_after
  written_extents (Create parent perm path mtime cvers name uid gid) xs e = let z : ◌≡◌ {A = ℕ} 0 2 = ap rank e in absurd (omega arith)
  written_extents (Remove path muid mtime) xs e = let z : rank (if_eq path 0 Ignored Removed) ≡ 2 = ap rank e in absurd (omega (arith, root_rank path))
  written_extents (Truncate path mtime cvers muid) xs e = let z : ◌≡◌ {A = ℕ} 3 2 = rank_if _ _ _ e (omega arith) in absurd (omega arith)
  written_extents (Write run' mtime muid cvers) xs e = ap (λ (x : Extent). lay x xs) (same_run _ _ _ _ _ e)
  written_extents (Wstat path name uid gid muid perm mtime) xs e = let z : ◌≡◌ {A = ℕ} 4 2 = rank_if _ _ _ e (omega arith) in absurd (omega arith)

  pub truncated_extents : (m : Message) {q : Record} (xs : List Extent) → edit_of m f ≡ Truncated q → extents_after m xs ≡ others (subject m) xs
  unfolding edit_of subject extents_after
  truncated_extents (Create parent perm path mtime cvers name uid gid) xs e = let z : ◌≡◌ {A = ℕ} 0 3 = ap rank e in absurd (omega arith)
  truncated_extents (Remove path muid mtime) xs e = refl
  truncated_extents (Truncate path mtime cvers muid) xs e = refl
  truncated_extents (Write run mtime muid cvers) xs e = let z : ◌≡◌ {A = ℕ} 2 3 = rank_if _ _ _ e (omega arith) in absurd (omega arith)
  truncated_extents (Wstat path name uid gid muid perm mtime) xs e = let z : ◌≡◌ {A = ℕ} 4 3 = rank_if _ _ _ e (omega arith) in absurd (omega arith)

  pub restated_extents : (m : Message) {q : Record} (xs : List Extent) → edit_of m f ≡ Restated q → extents_after m xs ≡ xs
  unfolding edit_of extents_after
  restated_extents (Create parent perm path mtime cvers name uid gid) xs e = refl
  restated_extents (Remove path muid mtime) xs e = let z : rank (if_eq path 0 Ignored Removed) ≡ 4 = ap rank e in absurd (omega (arith, root_rank path))
  restated_extents (Truncate path mtime cvers muid) xs e = let z : ◌≡◌ {A = ℕ} 3 4 = rank_if _ _ _ e (omega arith) in absurd (omega arith)
  restated_extents (Write run mtime muid cvers) xs e = let z : ◌≡◌ {A = ℕ} 2 4 = rank_if _ _ _ e (omega arith) in absurd (omega arith)
  restated_extents (Wstat path name uid gid muid perm mtime) xs e = refl

module _ (fs : List Record) (f : Record) where
  -- the file of its path is there
  pub ignored_there : (m : Message) → look (subject m) fs ≡ some f → edit_of m f ≡ Ignored → applies (judge m fs) ≡ false
  unfolding subject edit_of judge applies
  ignored_there (Create parent perm path mtime cvers name uid gid) l e = taken (look parent fs) (look path fs) f l
  ignored_there (Remove path muid mtime) l e = ap applies (judged.removed_there fs path mtime muid f l ∙ root_stays path f _ (root_ignored path e))
  ignored_there (Truncate path mtime cvers muid) l e = ap applies (truncated_there fs path mtime cvers muid f l) ∙ ignored_if _ _ e (omega arith)
  ignored_there (Write run mtime muid cvers) l e = ap applies (written_there fs run mtime cvers muid f l) ∙ ignored_if _ _ e (omega arith)
  ignored_there (Wstat path name uid gid muid perm mtime) l e = ap applies (restated_there fs path name perm uid gid mtime muid f l) ∙ ignored_if _ _ e (omega arith)

  pub changed_there : (m : Message) → look (subject m) fs ≡ some f → 1 < rank (edit_of m f) → applies (judge m fs) ≡ true
  unfolding subject edit_of
  changed_there (Create parent perm path mtime cvers name uid gid) l e = absurd (omega arith)
  changed_there (Remove path muid mtime) l e = absurd (omega (arith, root_rank path))
  changed_there (Truncate path mtime cvers muid) l e = ap applies (truncated_there fs path mtime cvers muid f l) ∙ applied_if _ _ e
  changed_there (Write run mtime muid cvers) l e = ap applies (written_there fs run mtime cvers muid f l) ∙ applied_if _ _ e
  changed_there (Wstat path name uid gid muid perm mtime) l e = ap applies (restated_there fs path name perm uid gid mtime muid f l) ∙ applied_if _ _ e

  pub changed_records : (m : Message) → 1 < rank (edit_of m f) → records_after m fs ≡ alter (subject m) (revised m) fs
  unfolding subject edit_of records_after parent_after own_after revised
  changed_records (Create parent perm path mtime cvers name uid gid) e = absurd (omega arith)
  changed_records (Remove path muid mtime) e = absurd (omega (arith, root_rank path))
  changed_records (Truncate path mtime cvers muid) e = refl
  changed_records (Write run mtime muid cvers) e = refl
  changed_records (Wstat path name uid gid muid perm mtime) e = refl

  -- a directory with entries
  pub removed_full : (m : Message) → look (subject m) fs ≡ some f → edit_of m f ≡ Removed → is_dir f ≡ true → is_empty (subject m) fs ≡ false → applies (judge m fs) ≡ false
  unfolding subject edit_of applies
  removed_full (Create parent perm path mtime cvers name uid gid) l e d n = absurd (ignored_removed e)
  removed_full (Remove path muid mtime) l e d n = ap applies (judged.removed_there fs path mtime muid f l ∙ not_emptied path f _ (root_removed path e) d n)
  removed_full (Truncate path mtime cvers muid) l e d n = absurd (never_removed _ _ e (omega arith))
  removed_full (Write run mtime muid cvers) l e d n = absurd (never_removed _ _ e (omega arith))
  removed_full (Wstat path name uid gid muid perm mtime) l e d n = absurd (never_removed _ _ e (omega arith))

  pub removed_there : (m : Message) → look (subject m) fs ≡ some f → edit_of m f ≡ Removed → (is_dir f ≡ true → is_empty (subject m) fs ≡ true) → applies (judge m fs) ≡ true
  unfolding subject edit_of applies
  removed_there (Create parent perm path mtime cvers name uid gid) l e d = absurd (ignored_removed e)
  removed_there (Remove path muid mtime) l e d = ap applies (judged.removed_there fs path mtime muid f l ∙ may_go path f _ (root_removed path e) d)
  removed_there (Truncate path mtime cvers muid) l e d = absurd (never_removed _ _ e (omega arith))
  removed_there (Write run mtime muid cvers) l e d = absurd (never_removed _ _ e (omega arith))
  removed_there (Wstat path name uid gid muid perm mtime) l e d = absurd (never_removed _ _ e (omega arith))

  pub removed_records : (m : Message) → look (subject m) fs ≡ some f → edit_of m f ≡ Removed → records_after m fs ≡ alter f.parent (stamped_by m) (delete (subject m) fs)
  unfolding subject edit_of records_after parent_after own_after stamped_by home_of on_some
  removed_records (Create parent perm path mtime cvers name uid gid) l e = absurd (ignored_removed e)
  removed_records (Remove path muid mtime) l e = rw l
  removed_records (Truncate path mtime cvers muid) l e = absurd (never_removed _ _ e (omega arith))
  removed_records (Write run mtime muid cvers) l e = absurd (never_removed _ _ e (omega arith))
  removed_records (Wstat path name uid gid muid perm mtime) l e = absurd (never_removed _ _ e (omega arith))

  pub removed_extents : (m : Message) (xs : List Extent) → edit_of m f ≡ Removed → extents_after m xs ≡ others (subject m) xs
  unfolding subject edit_of extents_after
  removed_extents (Create parent perm path mtime cvers name uid gid) xs e = absurd (ignored_removed e)
  removed_extents (Remove path muid mtime) xs e = refl
  removed_extents (Truncate path mtime cvers muid) xs e = absurd (never_removed _ _ e (omega arith))
  removed_extents (Write run mtime muid cvers) xs e = absurd (never_removed _ _ e (omega arith))
  removed_extents (Wstat path name uid gid muid perm mtime) xs e = absurd (never_removed _ _ e (omega arith))

-- ---- no file of its path is there

module _ (fs : List Record) where
  pub unborn : (m : Message) → look (subject m) fs ≡ none → newborn m ≡ None → applies (judge m fs) ≡ false
  unfolding subject newborn applies
  unborn (Create parent perm path mtime cvers name uid gid) l e = absurd (cc)
  unborn (Remove path muid mtime) l e = ap applies (removed_absent fs path mtime muid l)
  unborn (Truncate path mtime cvers muid) l e = ap applies (truncated_absent fs path mtime cvers muid l)
  unborn (Write run mtime muid cvers) l e = ap applies (written_absent fs run mtime cvers muid l)
  unborn (Wstat path name uid gid muid perm mtime) l e = ap applies (restated_absent fs path name perm uid gid mtime muid l)

not_made : (q : Record) → None ≡ Some q → ⊥
not_made q e = cc

made : {q r : Record} → Some q ≡ Some r → q ≡ r
made e = cc

-- a create of a path that is free, under a directory or not
under : (o : Option Record) (d : Record) → o ≡ none → is_dir d ≡ true → applies (judge_create d (is_some o)) ≡ true
unfolding judge_create applies is_some if_true
under o d e h = rw (e, h)

not_under : (b : Bool) (d : Record) → is_dir d ≡ false → applies (judge_create d b) ≡ false
unfolding judge_create applies if_true
not_under b d h = rw h

module _ (fs : List Record) (q d : Record) where
  pub no_parent : (m : Message) → newborn m ≡ Some q → look q.parent fs ≡ none → applies (judge m fs) ≡ false
  unfolding newborn applies created
  no_parent (Create parent perm path mtime cvers name uid gid) e l =
      ap applies (created_absent fs parent perm path mtime cvers name uid gid (ap (λ (r : Record). look r.parent fs) (made e) ∙ l))
  no_parent (Remove path muid mtime) e l = absurd (not_made q e)
  no_parent (Truncate path mtime cvers muid) e l = absurd (not_made q e)
  no_parent (Write run mtime muid cvers) e l = absurd (not_made q e)
  no_parent (Wstat path name uid gid muid perm mtime) e l = absurd (not_made q e)

  pub no_directory : (m : Message) → newborn m ≡ Some q → look q.parent fs ≡ some d → is_dir d ≡ false → applies (judge m fs) ≡ false
  unfolding newborn created
  no_directory (Create parent perm path mtime cvers name uid gid) e l h =
      ap applies (created_there fs parent perm path mtime cvers name uid gid d (ap (λ (r : Record). look r.parent fs) (made e) ∙ l)) ∙ not_under (is_some (look path fs)) d h
  no_directory (Remove path muid mtime) e l h = absurd (not_made q e)
  no_directory (Truncate path mtime cvers muid) e l h = absurd (not_made q e)
  no_directory (Write run mtime muid cvers) e l h = absurd (not_made q e)
  no_directory (Wstat path name uid gid muid perm mtime) e l h = absurd (not_made q e)

  pub born_there : (m : Message) → newborn m ≡ Some q → look (subject m) fs ≡ none → look q.parent fs ≡ some d → is_dir d ≡ true → applies (judge m fs) ≡ true
  unfolding newborn created subject
  born_there (Create parent perm path mtime cvers name uid gid) e f l h =
      ap applies (created_there fs parent perm path mtime cvers name uid gid d (ap (λ (r : Record). look r.parent fs) (made e) ∙ l)) ∙ under (look path fs) d f h
  born_there (Remove path muid mtime) e f l h = absurd (not_made q e)
  born_there (Truncate path mtime cvers muid) e f l h = absurd (not_made q e)
  born_there (Write run mtime muid cvers) e f l h = absurd (not_made q e)
  born_there (Wstat path name uid gid muid perm mtime) e f l h = absurd (not_made q e)

module _ (q : Record) where
  pub born_path : (m : Message) → newborn m ≡ Some q → q.path ≡ subject m
  unfolding newborn created subject
  born_path (Create parent perm path mtime cvers name uid gid) e = ap (λ (r : Record). r.path) (sym (made e))
  born_path (Remove path muid mtime) e = absurd (not_made q e)
  born_path (Truncate path mtime cvers muid) e = absurd (not_made q e)
  born_path (Write run mtime muid cvers) e = absurd (not_made q e)
  born_path (Wstat path name uid gid muid perm mtime) e = absurd (not_made q e)

  pub born_records : (m : Message) (fs : List Record) → newborn m ≡ Some q → records_after m fs ≡ insert q fs
  unfolding newborn records_after parent_after own_after
  born_records (Create parent perm path mtime cvers name uid gid) fs e = ap (λ (r : Record). insert r fs) (made e)
  born_records (Remove path muid mtime) fs e = absurd (not_made q e)
  born_records (Truncate path mtime cvers muid) fs e = absurd (not_made q e)
  born_records (Write run mtime muid cvers) fs e = absurd (not_made q e)
  born_records (Wstat path name uid gid muid perm mtime) fs e = absurd (not_made q e)

  pub born_extents : (m : Message) (xs : List Extent) → newborn m ≡ Some q → extents_after m xs ≡ xs
  unfolding newborn extents_after
  born_extents (Create parent perm path mtime cvers name uid gid) xs e = refl
  born_extents (Remove path muid mtime) xs e = absurd (not_made q e)
  born_extents (Truncate path mtime cvers muid) xs e = absurd (not_made q e)
  born_extents (Write run mtime muid cvers) xs e = absurd (not_made q e)
  born_extents (Wstat path name uid gid muid perm mtime) xs e = absurd (not_made q e)

-- a record keeps its path
pub revised_path : (m : Message) (f : Record) → (revised m f).path ≡ f.path
unfolding revised truncated written restated stamp sized
revised_path (Create parent perm path mtime cvers name uid gid) f = refl
revised_path (Remove path muid mtime) f = refl
revised_path (Truncate path mtime cvers muid) f = refl
revised_path (Write run mtime muid cvers) f = refl
revised_path (Wstat path name uid gid muid perm mtime) f = refl

pub stamped_path : (m : Message) (f : Record) → (stamped_by m f).path ≡ f.path
unfolding stamped_by stamp
stamped_path (Create parent perm path mtime cvers name uid gid) f = refl
stamped_path (Remove path muid mtime) f = refl
stamped_path (Truncate path mtime cvers muid) f = refl
stamped_path (Write run mtime muid cvers) f = refl
stamped_path (Wstat path name uid gid muid perm mtime) f = refl

abbrev held : Option Record → ℕ
held (some f) = 0
held none = 1

look_here : (p : ℕ) (f : Record) (fs : List Record) → f.path ≡ p → look p (f ∷ fs) ≡ some f
unfolding look
look_here p f fs z = eq_yes f.path p _ _ z

look_on : (p : ℕ) (f : Record) (fs : List Record) → f.path ≢ p → look p (f ∷ fs) ≡ look p fs
unfolding look
look_on p f fs z = eq_no f.path p _ _ z

-- without the record, and without the extents of its path, nothing changes
pub alter_absent : (p : ℕ) (h : Record → Record) (fs : List Record) → look p fs ≡ none → alter p h fs ≡ fs
unfolding alter
alter_absent p h [] e = refl
alter_absent p h (f ∷ fs) e = ⊎_elim
    (λ (z : f.path ≡ p). absurd (zero_one (ap held (sym (look_here p f fs z) ∙ e))))
    (λ (z : f.path ≢ p). eq_no f.path p _ _ z ∙ ap (λ (gs : List Record). f ∷ gs) (alter_absent p h fs (sym (look_on p f fs z) ∙ e)))
    (eq_or f.path p)

pub others_twice : (p : ℕ) (xs : List Extent) → others p (others p xs) ≡ others p xs
unfolding others
others_twice p [] = refl
others_twice p (x ∷ xs) = ⊎_elim
    (λ (z : x.path ≡ p). ap (others p) (eq_yes x.path p _ _ z) ∙ others_twice p xs ∙ sym (eq_yes x.path p _ _ z))
    (λ (z : x.path ≢ p). ap (others p) (eq_no x.path p _ _ z) ∙ eq_no x.path p _ _ z ∙ ap (λ (ys : List Extent). x ∷ ys) (others_twice p xs) ∙ sym (eq_no x.path p _ _ z))
    (eq_or x.path p)

pub others_fewer : (p : ℕ) (xs : List Extent) → length (others p xs) ≤ length xs
unfolding others
others_fewer p [] = omega arith
others_fewer p (x ∷ xs) = ⊎_elim
    (λ (z : x.path ≡ p). rw (eq_yes x.path p (others p xs) (x ∷ others p xs) z) (omega (arith, others_fewer p xs)))
    (λ (z : x.path ≢ p). rw (eq_no x.path p (others p xs) (x ∷ others p xs) z) (omega (arith, others_fewer p xs)))
    (eq_or x.path p)
