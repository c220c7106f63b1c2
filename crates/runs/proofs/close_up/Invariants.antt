-- The spans of the slots passed stand one after another; that of the next is as it was.
use mathlib.Core.Path.{◌≡◌}
use lib.ListN.{take}
use Rattle.runs.specs.Runs.{total, closed}
use Rattle.runs.proofs.close_up.Given as goal

abbrev pub invariant-loop-s : goal.invariant-loop-s
invariant-loop-s l = (l.at ≡ total l.initial.spans (take l.s-index l.slots)) × (l.spans ≡ closed l.initial.spans l.initial.spans (take l.s-index l.slots) 0)
