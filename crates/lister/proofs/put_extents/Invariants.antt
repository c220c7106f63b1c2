use Rattle.listing.proofs.Left.{Left}
use Rattle.lister.proofs.Lists.{row_lines}
use Rattle.lister.proofs.put_extents.Given as goal

abbrev pub invariant-loop-row : goal.invariant-loop-row
invariant-loop-row l = Left (row_lines l.path) l.xs l.initial.out l.at l.row-index l.out l.to
