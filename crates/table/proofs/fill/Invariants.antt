-- The first i of the records stand in the table.
use mathlib.Core.Path.{◌≡◌}
use Rattle.table.proofs.Lists.{mixed}
use Rattle.table.proofs.fill.Given as goal

abbrev pub invariant-loop-i : goal.invariant-loop-i
invariant-loop-i l = l.table ≡ mixed l.i l.records l.initial.table
