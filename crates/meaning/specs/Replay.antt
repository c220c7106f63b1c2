-- Replay: the records and extents, by the messages of the log in their order (01, "Replay").
use Rattle.std.specs.Prelude.{ℕ, ◌+◌, ◌-◌, ◌*◌, ◌^◌, min, max, Bool, true, false, not, ◌&&◌, ◌||◌, List, [], ◌∷◌, ◌++◌, length, eqb, ltb, leb}
use Rattle.std.specs.Bool.{xor}
use Rattle.std.proofs.Math.Option.{Option, none, some}
use Rattle.meaning.specs.declared.Place.{Place}
use Rattle.meaning.specs.declared.Record.{Record}
use Rattle.meaning.specs.declared.Extent.{Extent}
use Rattle.meaning.specs.declared.Message.{Message}
use Rattle.meaning.specs.declared.Message.TheVariants.{Create, Remove, Truncate, Write, Wstat}
use Rattle.meaning.specs.declared.Verdict.{Verdict}
use Rattle.meaning.specs.declared.Verdict.TheVariants.{Applied, NoParent, ParentNoDirectory, PathTaken, NoFile, TheRoot, NotEmpty, Directory, OtherVersion, DirectoryBit, RootName}
use Rattle.meaning.specs.declared.Refusal.TheVariants as refused
use Rattle.base.specs.Choice.{if_true, if_less, if_eq, on_some}
use Rattle.base.specs.Scan.{any_of}
use Rattle.meaning.specs.Answer.{Answer, ok, no, and_then, unless, address}
use Rattle.meaning.specs.Log.{Entry, Log}

pub record Tree : Type 0 where
  pub records : List Record  -- by ascending path
  pub extents : List Extent  -- of all files, by path and then offset
  pub applied : ℕ
  pub ignored : ℕ

-- ---- records

unfoldable pub nothing : Place
nothing = record { at = 0; len = 0 }

-- "Root: path 0, its own parent but not its own entry, perm 0x800001ed, other numbers 0, strings empty."
unfoldable pub root : Record
root = record {
  path = 0;
  parent = 0;
  perm = 0x800001ed;
  length = 0;
  cvers = 0;
  mtime = 0;
  name = nothing;
  uid = nothing;
  gid = nothing;
  muid = nothing;
}

-- "Bit 31 of perm marks a directory."
unfoldable pub bit31 : ℕ → Bool
bit31 perm = leb (2 ^ 31) perm

unfoldable pub is_dir : Record → Bool
is_dir f = bit31 f.perm

-- the record of a path
unfoldable pub look : ℕ → List Record → Option Record
look p [] = none
look p (f ∷ fs) = if_eq f.path p (some f) (look p fs)

-- what h makes of the record of a path, the others as they are
unfoldable pub alter : ℕ → (Record → Record) → List Record → List Record
alter p h [] = []
alter p h (f ∷ fs) = if_eq f.path p (h f ∷ fs) (f ∷ alter p h fs)

-- a new record in its place among the others
unfoldable pub insert : Record → List Record → List Record
insert f [] = f ∷ []
insert f (h ∷ hs) = if_less f.path h.path (f ∷ h ∷ hs) (h ∷ insert f hs)

-- without the record of a path
unfoldable pub delete : ℕ → List Record → List Record
delete p [] = []
delete p (f ∷ fs) = if_eq f.path p fs (f ∷ delete p fs)

-- f is an entry of directory p; the root is no entry
unfoldable pub entry_of : ℕ → Record → Bool
entry_of p f = eqb f.parent p && not (eqb f.path 0)

unfoldable pub is_empty : ℕ → List Record → Bool
is_empty p fs = not (any_of (entry_of p) fs)

-- the directory that the file of a path is in
unfoldable pub home_of : ℕ → List Record → ℕ
home_of p fs = on_some (look p fs) 0 (λ f. f.parent)

-- ---- extents, all on one line: byte i of file p stands at p × 2^32 + i. A run ends below 2^32 in its file, so runs of two files
-- never meet, and their order on the line is by path and then offset.

unfoldable pub spot : ℕ → ℕ → ℕ
spot p i = p * 2 ^ 32 + i

unfoldable pub start : Extent → ℕ
start x = spot x.path x.offset

unfoldable pub end : Extent → ℕ
end x = start x + x.count

-- what of x stands before s, and what stands from e on
unfoldable pub front : ℕ → Extent → Extent
front s x = record { path = x.path; offset = x.offset; count = min x.count (s - start x); address = x.address }

unfoldable pub back : ℕ → Extent → Extent
back e x = record {
  path = x.path;
  offset = x.offset + (e - start x);
  count = x.count - (e - start x);
  address = x.address + (e - start x);
}

unfoldable pub before : ℕ → List Extent → List Extent
before s [] = []
before s (x ∷ xs) = if_less (start x) s (front s x ∷ before s xs) (before s xs)

unfoldable pub after : ℕ → List Extent → List Extent
after e [] = []
after e (x ∷ xs) = if_less e (end x) (back e x ∷ after e xs) (after e xs)

-- "the run is laid over older extents, which keep what stands before and after it. Extents are sorted, disjoint, not empty, and
-- never joined."
unfoldable pub lay : Extent → List Extent → List Extent
lay run xs = before (start run) xs ++ run ∷ after (end run) xs

-- "no extents": those of the other files
unfoldable pub others : ℕ → List Extent → List Extent
others p [] = []
others p (x ∷ xs) = if_eq x.path p (others p xs) (x ∷ others p xs)

-- ---- what a message makes of a record

-- "mtime and muid as given"
unfoldable pub stamp : ℕ → Place → Record → Record
stamp mtime muid f = record {
  path = f.path;
  parent = f.parent;
  perm = f.perm;
  length = f.length;
  cvers = f.cvers;
  mtime = mtime;
  name = f.name;
  uid = f.uid;
  gid = f.gid;
  muid = muid;
}

unfoldable pub sized : ℕ → ℕ → Record → Record
sized length cvers f = record {
  path = f.path;
  parent = f.parent;
  perm = f.perm;
  length = length;
  cvers = cvers;
  mtime = f.mtime;
  name = f.name;
  uid = f.uid;
  gid = f.gid;
  muid = f.muid;
}

-- c: "New record: mtime and cvers as given, muid = uid, length 0."
unfoldable pub created : ℕ → ℕ → ℕ → ℕ → ℕ → Place → Place → Place → Record
created parent perm path mtime cvers name uid gid = record {
  path = path;
  parent = parent;
  perm = perm;
  length = 0;
  cvers = cvers;
  mtime = mtime;
  name = name;
  uid = uid;
  gid = gid;
  muid = uid;
}

-- t: "cvers, mtime, muid as given; length 0"
unfoldable pub truncated : ℕ → ℕ → Place → Record → Record
truncated mtime cvers muid f = stamp mtime muid (sized 0 cvers f)

-- w: "mtime and muid as given; .. Length grows to offset + count if larger."
unfoldable pub written : Extent → ℕ → Place → Record → Record
written run mtime muid f = stamp mtime muid (sized (max f.length (run.offset + run.count)) f.cvers f)

-- W: "A numeric field of all ones or an empty string is no change."
unfoldable pub given : ℕ → ℕ → ℕ
given new old = if_eq new 0xffff_ffff old new

unfoldable pub given_text : Place → Place → Place
given_text new old = if_eq new.len 0 old new

unfoldable pub restated : Place → ℕ → Place → Place → ℕ → Place → Record → Record
restated name perm uid gid mtime muid f = record {
  path = f.path;
  parent = f.parent;
  perm = given perm f.perm;
  length = f.length;
  cvers = f.cvers;
  mtime = given mtime f.mtime;
  name = given_text name f.name;
  uid = given_text uid f.uid;
  gid = given_text gid f.gid;
  muid = given_text muid f.muid;
}

-- ---- the verdict on a message: its tests in the order written
-- "c: parent must exist and be a directory, newpath must not exist."
-- "r: must exist, not be the root, be empty if a directory."
-- "t: must exist, not be a directory."
-- "w: must exist, not be a directory, cvers equal."
-- "W: must exist. .. Ignored whole if it would change bit 31 of perm, or if it gives the root a name that is not empty."
unfoldable pub judge : Message → List Record → Verdict
judge (Create parent perm path mtime cvers name uid gid) fs =
    on_some (look parent fs) NoParent (λ d.
    if_true (is_dir d) (on_some (look path fs) Applied (λ f. PathTaken)) ParentNoDirectory)
judge (Remove path muid mtime) fs =
    on_some (look path fs) NoFile (λ f.
    if_eq path 0 TheRoot
    (if_true (is_dir f) (if_true (is_empty path fs) Applied NotEmpty) Applied))
judge (Truncate path mtime cvers muid) fs =
    on_some (look path fs) NoFile (λ f.
    if_true (is_dir f) Directory Applied)
judge (Write run mtime muid cvers) fs =
    on_some (look run.path fs) NoFile (λ f.
    if_true (is_dir f) Directory (if_eq cvers f.cvers Applied OtherVersion))
judge (Wstat path name uid gid muid perm mtime) fs =
    on_some (look path fs) NoFile (λ f.
    if_true (xor (is_dir f) (bit31 (given perm f.perm))) DirectoryBit
    (if_eq path 0 (if_eq name.len 0 Applied RootName) Applied))

unfoldable pub applies : Verdict → Bool
applies Applied = true
applies NoParent = false
applies ParentNoDirectory = false
applies PathTaken = false
applies NoFile = false
applies TheRoot = false
applies NotEmpty = false
applies Directory = false
applies OtherVersion = false
applies DirectoryBit = false
applies RootName = false

-- ---- the change

-- the message's own record
unfoldable pub own_after : Message → List Record → List Record
own_after (Create parent perm path mtime cvers name uid gid) fs = insert (created parent perm path mtime cvers name uid gid) fs
own_after (Remove path muid mtime) fs = delete path fs
own_after (Truncate path mtime cvers muid) fs = alter path (truncated mtime cvers muid) fs
own_after (Write run mtime muid cvers) fs = alter run.path (written run mtime muid) fs
own_after (Wstat path name uid gid muid perm mtime) fs = alter path (restated name perm uid gid mtime muid) fs

-- its parent's, where fs stood before the message and gs holds its own change: "c: .. The parent's record is unchanged."
-- "r: .. The parent takes mtime and muid."
unfoldable pub parent_after : Message → List Record → List Record → List Record
parent_after (Create parent perm path mtime cvers name uid gid) fs gs = gs
parent_after (Remove path muid mtime) fs gs = alter (home_of path fs) (stamp mtime muid) gs
parent_after (Truncate path mtime cvers muid) fs gs = gs
parent_after (Write run mtime muid cvers) fs gs = gs
parent_after (Wstat path name uid gid muid perm mtime) fs gs = gs

unfoldable pub records_after : Message → List Record → List Record
records_after m fs = parent_after m fs (own_after m fs)

-- "t: .. no extents." "w: .. the run is laid over older extents"
unfoldable pub extents_after : Message → List Extent → List Extent
extents_after (Create parent perm path mtime cvers name uid gid) xs = xs
extents_after (Remove path muid mtime) xs = others path xs
extents_after (Truncate path mtime cvers muid) xs = others path xs
extents_after (Write run mtime muid cvers) xs = lay run xs
extents_after (Wstat path name uid gid muid perm mtime) xs = xs

unfoldable pub changed : Message → Tree → Tree
changed m t = record {
  records = records_after m t.records;
  extents = extents_after m t.extents;
  applied = t.applied + 1;
  ignored = t.ignored;
}

-- ---- one message, and the log

-- FULL: "At no time may there be more than 256 records, root included, or 1024 extents over all files."
unfoldable pub full : Tree → Bool
full t = ltb 256 (length t.records) || ltb 1024 (length t.extents)

unfoldable pub within_limits : ℕ → Tree → Answer Tree
within_limits place t = if_true (full t) (no (refused.Full (address place))) (ok t)

-- "A message failing its test is ignored and counted."
unfoldable pub passed_over : Tree → Tree
passed_over t = record { records = t.records; extents = t.extents; applied = t.applied; ignored = t.ignored + 1 }

unfoldable pub step : Entry → Tree → Answer Tree
step e t = if_true (applies (judge e.message t.records)) (within_limits e.address (changed e.message t)) (ok (passed_over t))

-- the tree after the messages, one after another
unfoldable pub told : List Entry → Tree → Answer Tree
told [] t = ok t
told (e ∷ es) t = and_then (step e t) (told es)

unfoldable pub bare : Tree
bare = record { records = root ∷ []; extents = []; applied = 0; ignored = 0 }

-- "7, 8 and 9 come in replay order": the log's fault, 7 or 8, comes after all its messages
unfoldable pub replay : Log → Answer Tree
replay log = and_then (told log.entries bare) (λ t. unless log.fault (ok t))
