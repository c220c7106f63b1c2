use mathlib.Core.List.{map}
use Rattle.extent.specs.Rows.{extent_of}
use Rattle.listing.specs.Listing.{file_lines}
use Rattle.listing.proofs.Left.{Left}
use Rattle.lister.proofs.put_files.Given as goal

abbrev pub invariant-loop-f : goal.invariant-loop-f
invariant-loop-f l = Left (file_lines l.contents (map extent_of l.xs)) l.records l.initial.out l.at l.f-index l.out l.to
