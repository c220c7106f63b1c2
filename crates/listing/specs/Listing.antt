-- The whole listing of a mount, and what the listing program writes of a text.
use Rattle.std.specs.Prelude.{ℕ, List, [], ◌∷◌, ◌++◌, length, Option, Some, None}
use Rattle.std.proofs.Math.Option as maybe
use Rattle.base.specs.Choice.{if_eq}
use Rattle.meaning.specs.declared.Address.{Address}
use Rattle.meaning.specs.declared.Record.{Record}
use Rattle.meaning.specs.declared.Extent.{Extent}
use Rattle.meaning.specs.Answer.{Answer, ok, no, address}
use Rattle.meaning.specs.Flash.{text}
use Rattle.meaning.specs.Mount.{Mounted, mount_of}
use Rattle.dump.specs.Given.{given}
use Rattle.listing.specs.Lines.{total_line, file_line, extent_line, refusal_line}

unfoldable pub insertion_of : maybe.Option ℕ → Option Address
insertion_of maybe.none = None
insertion_of (maybe.some a) = Some (address a)

-- the extents of file p, in their order: "E, after its F"
unfoldable pub extent_lines : ℕ → List Extent → List ℕ
extent_lines p [] = []
extent_lines p (e ∷ es) = if_eq e.path p (extent_line e) [] ++ extent_lines p es

-- "F, by path": records stand so
unfoldable pub file_lines : List ℕ → List Extent → List Record → List ℕ
file_lines contents xs [] = []
file_lines contents xs (f ∷ fs) = file_line f (text contents f.name) ++ (extent_lines f.path xs ++ file_lines contents xs fs)

unfoldable pub mount_lines : Mounted → List ℕ → List ℕ
mount_lines a contents =
    total_line (length a.tree.records) (length a.tree.extents) a.tree.applied a.tree.ignored (insertion_of a.insert)
    ++ file_lines contents a.tree.extents a.tree.records

-- "A refusal prints `X`, number, place alone."
unfoldable pub listing : Answer Mounted → List ℕ → List ℕ
listing (no r) contents = refusal_line r
listing (ok a) contents = mount_lines a contents

-- "The first bad line gives DUMP before any mount": a text whose first line has that number, as a dump, mounted and listed
unfoldable pub listed : List ℕ → ℕ → List ℕ
listed s first = elim (given s first) [ no r ↦ refusal_line r | ok d ↦ listing (mount_of d.geometry d.lent) d.lent.contents ]
