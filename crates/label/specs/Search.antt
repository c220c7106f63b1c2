-- The label search: what is asked of one place, and the answer.
use Rattle.std.specs.Prelude.{ℕ, ◌%◌, ◌≤◌, ◌<◌, ◌≡◌, ◌≢◌, Bool, false, ◌&&◌, List, eqb, ltb, length, get_or, Option, Some, None}
use Rattle.std.proofs.Math.Option as maybe
use Rattle.base.specs.Scan.{any}
use Rattle.meaning.specs.declared.Tag.{Tag}
use Rattle.meaning.specs.Answer.{block}
use Rattle.meaning.specs.Flash.{Labels, same_tag, copy_of, r_of, path_of, successor}
use Rattle.meaning.specs.Labels.{older}
use Rattle.meaning.specs.declared.Block.{Block}

-- the place, if there is one
unfoldable pub found : maybe.Option ℕ → Option Block
found maybe.none = None
found (maybe.some i) = Some (block i)

-- place i is of tag t and r
unfoldable pub bears : Labels → Tag → ℕ → ℕ → Bool
bears m t r i = same_tag (m.tag i) t && eqb (r_of (m.path i)) r

-- place i is of tag t and has this path
unfoldable pub labelled : Labels → Tag → ℕ → ℕ → Bool
labelled m t path i = same_tag (m.tag i) t && eqb (m.path i) path

-- the path of the newer copy of a block
unfoldable pub newer_path : ℕ → ℕ
newer_path path = path_of (r_of path) (successor (copy_of path))

-- x is the first place from `from` on whose path is of r, or is past all paths
pub record Next (paths : List ℕ) (r from x : ℕ) : Type 0 where
  pub above : from ≤ x
  pub here : x < length paths → r_of (get_or paths x 0) ≡ r
  pub none : (k : ℕ) → from ≤ k → k < x → r_of (get_or paths k 0) ≢ r

-- a mark for each low bits of a path: it is set where one of the first n paths has them
pub record Noted (paths : List ℕ) (n : ℕ) (marks : List Bool) : Type 0 where
  pub long : length marks ≡ 1024
  pub exact : (h : ℕ) → h < 1024 → get_or marks h false ≡ any n (λ i. eqb (get_or paths i 0 % 1024) h)

-- a flag for each of 1024 places: it is set for the older copies among the first k of n blocks
pub record Olders (n : ℕ) (m : Labels) (k : ℕ) (flags : List Bool) : Type 0 where
  pub long : length flags ≡ 1024
  pub exact : (i : ℕ) → i < 1024 → get_or flags i false ≡ (ltb i k && older n m i)
