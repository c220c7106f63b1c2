-- The data blocks that live extents need.
use Rattle.std.specs.Prelude.{ℕ, ◌<◌, ◌≡◌, Bool, true, false, List, length, get_or, Option, Some, None}
use Rattle.std.proofs.Math.Option as maybe
use Rattle.base.specs.Choice.{is_some}
use Rattle.meaning.specs.Flash.{Labels}
use Rattle.meaning.specs.Labels.{find_data}
use Rattle.meaning.specs.declared.Geometry.{Geometry}
use Rattle.meaning.specs.declared.Refusal.{Refusal}
use Rattle.meaning.specs.declared.Refusal.TheVariants as refused

-- The geometry with n blocks. The code counts the places of the lent slices, which are g's blocks wherever the slices fit.
abbrev pub over : ℕ → Geometry → Geometry
over n g = record { size = g.size; pages = g.pages; blocks = n }

-- a mark for each number: one that is set is that of a data block that is there
abbrev pub Seen : ℕ → Labels → List Bool → Type 0
Seen n m seen = (length seen ≡ 4096) × ((d : ℕ) → d < 4096 → get_or seen d false ≡ true → is_some (find_data n m d) ≡ true)

-- the refusal that a path stands for, if there is one. DATA: "lowest path of a file with one"
unfoldable pub refusal_of : Option ℕ → maybe.Option Refusal
refusal_of None = maybe.none
refusal_of (Some p) = maybe.some (refused.Data p)
