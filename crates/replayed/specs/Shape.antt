-- What every accepted replay has.
use Rattle.std.specs.Prelude.{ℕ, ◌+◌, ◌^◌, ◌≤◌, ◌<◌, ◌≡◌, ◌⊎◌, ◌≢◌, Bool, not, List, [], ◌∷◌, length, T}
use Rattle.meaning.specs.declared.Record.{Record}
use Rattle.meaning.specs.declared.Extent.{Extent}
use Rattle.base.specs.Choice.{test}
use Rattle.base.specs.Member.{All}
use Rattle.meaning.specs.Replay.{Tree, is_dir, look}

-- x stands wholly before y: in a file of a lower path, or in the same file
abbrev pub Before : Extent → Extent → Type 0
Before x y = (x.path < y.path) ⊎ ((x.path ≡ y.path) × (x.offset + x.count ≤ y.offset))

-- "Extents are sorted, disjoint, not empty"
abbrev pub Sorted : List Extent → Type 0
Sorted [] = Unit {0}
Sorted (x ∷ xs) = (0 < x.count) × All (Before x) xs × Sorted xs

-- "Records .. stand in the table by ascending path"
abbrev pub Ascending : List Record → Type 0
Ascending [] = Unit {0}
Ascending (f ∷ fs) = All (λ (h : Record). f.path < h.path) fs × Ascending fs

-- p is a directory, and p is a plain file
unfoldable pub dir_at : ℕ → List Record → Bool
dir_at p fs = test is_dir (look p fs)

unfoldable pub file_at : ℕ → List Record → Bool
file_at p fs = test (λ f. not (is_dir f)) (look p fs)

-- a run ends below 2^32 in its file
abbrev pub Bounded : Extent → Type 0
Bounded x = x.offset + x.count < 2 ^ 32

-- Climbing from parent to parent ends: some number falls with each step towards the root.
abbrev pub Climbs : List Record → Type 0
Climbs fs = (rank : ℕ → ℕ) × All (λ (f : Record). f.path ≢ 0 → rank f.parent < rank f.path) fs

pub record Shape (fs : List Record) (xs : List Extent) : Type 0 where
  pub ascending : Ascending fs
  pub rooted : T (dir_at 0 fs)
  pub root_home : All (λ (f : Record). f.path ≡ 0 → f.parent ≡ 0) fs
  pub homed : All (λ (f : Record). T (dir_at f.parent fs)) fs  -- each record's parent is there and is a directory
  pub climbs : Climbs fs
  pub owned : All (λ (x : Extent). T (file_at x.path fs)) xs  -- each extent's file is there and is no directory
  pub bounded : All Bounded xs
  pub sorted : Sorted xs

-- "At no time may there be more than 256 records, root included, or 1024 extents over all files."
pub record Small (t : Tree) : Type 0 where
  pub records : length t.records ≤ 256
  pub extents : length t.extents ≤ 1024
