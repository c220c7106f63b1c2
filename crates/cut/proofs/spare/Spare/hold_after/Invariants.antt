-- A step leaves the geometry.
use Rattle.std.proofs.Common.{◌≡◌}
use Rattle.cut.proofs.spare.Spare.hold_after.Given as goal

abbrev pub invariant-loop-s : goal.invariant-loop-s
invariant-loop-s l = l.self.geometry ≡ l.fn.flash.geometry
