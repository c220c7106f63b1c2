-- The flags and the extents that are left say which pages are used.
use Rattle.used.proofs.Touch.{Flags}
use Rattle.used.proofs.flags_of.Given as goal

abbrev pub invariant-loop-row : goal.invariant-loop-row
invariant-loop-row l = Flags l.g l.xs l.d l.flags l.row-index
