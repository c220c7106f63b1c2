-- Where power may go, and what it may not change (01, "Making room, and where power may go").
use Rattle.std.specs.Prelude.{ℕ, ◌<◌, ◌≡◌, ◌⊎◌, ◌≢◌, true, false, List, [], ◌∷◌, length, get_or, replicate}
use Rattle.std.proofs.Math.Option.{some}
use Rattle.meaning.specs.declared.Geometry.{Geometry}
use Rattle.meaning.specs.declared.Record.{Record}
use Rattle.meaning.specs.declared.Step.{Step}
use Rattle.meaning.specs.declared.Step.TheVariants.{Erase, PageWrite, LabelWrite}
use Rattle.meaning.specs.declared.Tag.TheVariants.{Free, Data}
use Rattle.base.specs.Member.{In}
use Rattle.meaning.specs.Answer.{ok}
use Rattle.meaning.specs.Flash.{Lent, image_of, begins, block_size, page_of, blank, byte_of, erased_path, r_of, text}
use Rattle.meaning.specs.Labels.{find_data}
use Rattle.meaning.specs.Replay.{look}
use Rattle.meaning.specs.Mount.{Mounted, mount_of, used}
use Rattle.meaning.specs.Services.{overwrite, relabel, done, renewed_path, read, buffer_after}

-- the block under work holds any bytes: "Within a page write or an erase, the block under work may hold any bytes. .. Other blocks are
-- untouched."
abbrev pub Spoilt : Geometry → Lent → ℕ → Lent → Type 0
Spoilt g l i l' = (b : List ℕ) × (length b ≡ block_size g) × (l' ≡ overwrite l (begins g i) b)

-- "A label is old or new, never half; an erase cut short leaves the label as it was or free."
abbrev pub Torn : Geometry → Lent → Step → Lent → Type 0
Torn g l (Erase b) l' = Spoilt g l b.0 l' ⊎ ((path : ℕ) × Spoilt g (relabel l b.0 (byte_of Free) path) b.0 l')
Torn g l (PageWrite from to p) l' = Spoilt g l to.0 l'
Torn g l (LabelWrite b tag path) l' = ⊥

-- "A cut falls between steps or within one.": l' may be left of l by a cut of the steps
abbrev pub Cut : Geometry → List Step → Lent → Lent → Type 0
Cut g [] l l' = l' ≡ l
Cut g (s ∷ ss) l l' = (l' ≡ l) ⊎ (Torn g l s l' ⊎ Cut g ss (done g l s) l')

-- the four strings of a record
pub record SameStrings (contents contents' : List ℕ) (f : Record) : Type 0 where
  pub name : text contents' f.name ≡ text contents f.name
  pub uid : text contents' f.uid ≡ text contents f.uid
  pub gid : text contents' f.gid ≡ text contents f.gid
  pub muid : text contents' f.muid ≡ text contents f.muid

-- Demand 3: l' mounts, "and shows the same files, records and extents, and every file reads back the same bytes". a is what l showed.
pub record Shows (g : Geometry) (l l' : Lent) (a : Mounted) : Type 0 where
  pub answer : Mounted
  pub accepted : mount_of g l' ≡ ok answer
  pub tree : answer.tree ≡ a.tree  -- records, extents, and the message counts too
  pub insert : answer.insert ≡ a.insert
  pub strings : (p : ℕ) (f : Record) → look p a.tree.records ≡ some f → SameStrings l.contents l'.contents f
  pub reads : (p x room : ℕ) → read g l' p x room ≡ read g l p x room
  pub buffers : (p x : ℕ) (buffer : List ℕ) → buffer_after g l' p x buffer ≡ buffer_after g l p x buffer

-- ---- a run that is not cut

-- "An erased block has all bytes 0xff, tag 0xff, path 2^34 − 1."
abbrev pub Erased : Geometry → Lent → ℕ → Type 0
Erased g l i =
    (get_or l.tags i 0 ≡ byte_of Free) × (get_or l.paths i 0 ≡ erased_path)
    × ((image_of g l).bytes i ≡ replicate (block_size g) 0xff)

-- label and bytes of a block are as they were
abbrev pub Kept : Geometry → Lent → Lent → ℕ → Type 0
Kept g l l' i =
    (get_or l'.tags i 0 ≡ get_or l.tags i 0) × (get_or l'.paths i 0 ≡ get_or l.paths i 0)
    × ((image_of g l').bytes i ≡ (image_of g l).bytes i)

-- Demand 3: "With no cut, a settle frees every listed block"
pub record Settled (g : Geometry) (l l' : Lent) (a : Mounted) : Type 0 where
  pub freed : (i : ℕ) → In i a.erase → Erased g l' i
  pub kept : (i : ℕ) → i < g.blocks → (In i a.erase → ⊥) → Kept g l l' i
  pub shows : Shows g l l' a
  pub settled : shows.answer.erase ≡ []

-- "a reclaim leaves one data block of that number, its used pages as they were, every other page blank." "No other block changes."
pub record Reclaimed (g : Geometry) (l l' : Lent) (a : Mounted) (d : ℕ) : Type 0 where
  pub old : ℕ
  pub target : ℕ
  pub stood : find_data g.blocks (image_of g l).labels d ≡ some old
  pub stands : find_data g.blocks (image_of g l').labels d ≡ some target
  pub sole : (i : ℕ) → i < g.blocks → (image_of g l').labels.tag i ≡ Data → r_of (get_or l'.paths i 0) ≡ d → i ≡ target
  pub tag : get_or l'.tags target 0 ≡ byte_of Data
  pub path : get_or l'.paths target 0 ≡ renewed_path (image_of g l).labels d old
  pub live : (p : ℕ) → p < g.pages → used g a.tree.extents d p ≡ true → page_of g ((image_of g l').bytes target) p ≡ page_of g ((image_of g l).bytes old) p
  pub dead : (p : ℕ) → p < g.pages → used g a.tree.extents d p ≡ false → blank (page_of g ((image_of g l').bytes target) p) ≡ true
  pub freed : Erased g l' old
  pub kept : (i : ℕ) → i < g.blocks → i ≢ old → i ≢ target → Kept g l l' i
  pub shows : Shows g l l' a
