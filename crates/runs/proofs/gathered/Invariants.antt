-- Out begins with the rows of the slots passed.
use mathlib.Core.Path.{◌≡◌}
use lib.ListN.{take}
use Rattle.runs.specs.Runs.{total, gather_rows, put}
use Rattle.runs.proofs.gathered.Given as goal

abbrev pub invariant-loop-s : goal.invariant-loop-s
invariant-loop-s l = (l.at ≡ total l.spans (take l.s-index l.slots)) × (l.out ≡ put l.initial.out 0 (gather_rows l.spans l.rows (take l.s-index l.slots)))
