-- Extents as rows of numbers: path, offset, count, address.
use Rattle.std.specs.Prelude.{ℕ, ◌+◌, ◌^◌, ◌≤◌, ◌<◌, ◌≡◌, List, [], ◌∷◌, ◌++◌, map, length, get_or, take, drop, Option, Some, None}
use Rattle.std.specs.declared.ops.Range.{Range}
use Rattle.meaning.specs.declared.Extent.{Extent}
use Rattle.base.specs.Member.{All}
use Rattle.meaning.specs.Replay.{start, end, before}

abbrev pub extent_of : List ℕ → Extent
extent_of r = record { path = get_or r 0 0; offset = get_or r 1 0; count = get_or r 2 0; address = get_or r 3 0 }

abbrev pub row_of : Extent → List ℕ
row_of x = x.path ∷ x.offset ∷ x.count ∷ x.address ∷ []

-- the extents of the first n rows
abbrev pub runs : List (List ℕ) → ℕ → List Extent
runs rows n = map extent_of (take n rows)

-- an extent that is not empty, and ends below 2^32 in its file and among addresses
pub record Fit (x : Extent) : Type 0 where
  pub some : 0 < x.count
  pub file : x.offset + x.count < 2 ^ 32
  pub flash : x.address + x.count < 2 ^ 32

-- fit extents on the line from lo to hi, each past the one before: "sorted, disjoint, not empty"
abbrev pub Lined : ℕ → ℕ → List Extent → Type 0
Lined lo hi [] = lo ≤ hi
Lined lo hi (x ∷ xs) = (lo ≤ start x) × Fit x × Lined (end x) hi xs

-- not empty, and by s at its end; from e on
abbrev pub EndsBy : ℕ → Extent → Type 0
EndsBy s x = (0 < x.count) × (end x ≤ s)

abbrev pub StartsFrom : ℕ → Extent → Type 0
StartsFrom e x = (0 < x.count) × (e ≤ start x)

abbrev pub Four : List ℕ → Type 0
Four r = length r ≡ 4

-- a row that is an extent
pub record Sound (r : List ℕ) : Type 0 where
  pub four : Four r
  pub fit : Fit (extent_of r)

-- rows that are extents in order, from lo to hi
pub record Within (lo hi : ℕ) (rows : List (List ℕ)) : Type 0 where
  pub four : All Four rows
  pub lined : Lined lo hi (map extent_of rows)

-- what laying v over the first n rows asks: room for two more
pub record Layable (rows : List (List ℕ)) (n : ℕ) (v : List ℕ) : Type 0 where
  pub room : n + 2 ≤ length rows
  pub within : Within 0 (2 ^ 64) (take n rows)
  pub run : Sound v

-- the first r extents start before k, the others do not
pub record Split (k : ℕ) (xs : List Extent) (r : ℕ) : Type 0 where
  pub few : r ≤ length xs
  pub low : All (λ (x : Extent). start x < k) (take r xs)
  pub high : All (λ (x : Extent). k ≤ start x) (drop r xs)

-- the first n rows are extents in order; the first p of them start before k
pub record Low (rows : List (List ℕ)) (n p k : ℕ) : Type 0 where
  pub few : p ≤ n
  pub room : n ≤ length rows
  pub within : Within 0 (2 ^ 64) (take n rows)
  pub low : All (λ (x : Extent). start x < k) (runs rows p)

-- the extents that start from s on and before e: those of a range
pub record Ranged (s e : ℕ) (xs : List Extent) (g : Range ℕ) : Type 0 where
  pub low : Split s xs g.start
  pub high : Split e xs g.end
  pub order : g.start ≤ g.end

-- a row or none
abbrev pub pieces : Option (List ℕ) → List (List ℕ)
pieces None = []
pieces (Some r) = r ∷ []

-- v and bs between what stands before s and the rows past the range
abbrev pub around : ℕ → List ℕ → List (List ℕ) → List (List ℕ) → ℕ → Range ℕ → List (List ℕ)
around s v bs rows n g = map row_of (before s (runs rows g.start)) ++ (v ∷ (bs ++ drop g.end (take n rows)))
