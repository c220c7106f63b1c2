-- All places stay.
use Rattle.std.proofs.Common.{◌≡◌, length}
use Rattle.cut.proofs.lists.erases.Given as goal

abbrev pub invariant-loop-i : goal.invariant-loop-i
invariant-loop-i l = length l.steps ≡ 35
