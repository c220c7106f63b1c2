-- What the insertion point answers.
use Rattle.std.specs.Prelude.{ℕ, ◌+◌, ◌*◌, Bool, List, take, drop, Option, Some, None}
use Rattle.std.proofs.Math.Option as maybe
use Rattle.base.specs.Choice.{on_some}
use Rattle.base.specs.Scan.{first}
use Rattle.meaning.specs.declared.Address.{Address}
use Rattle.meaning.specs.declared.Geometry.{Geometry}
use Rattle.meaning.specs.Answer.{address}
use Rattle.meaning.specs.Flash.{address_of, blank}

-- the place, if there is one
unfoldable pub point : maybe.Option ℕ → Option Address
point maybe.none = None
point (maybe.some a) = Some (address a)

-- page p of the block that begins at `begin` is blank
unfoldable pub is_blank : Geometry → List ℕ → ℕ → ℕ → Bool
is_blank g contents begin p = blank (take g.size (drop (begin + p * g.size) contents))

-- the address of the first such page, where the block's number is n
unfoldable pub blank_page : Geometry → List ℕ → ℕ → ℕ → maybe.Option ℕ
blank_page g contents begin n = on_some (first g.pages (is_blank g contents begin)) maybe.none (λ p. maybe.some (address_of g n p 0))
