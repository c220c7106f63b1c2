-- The steps before this one are done.
use mathlib.Core.Path.{◌≡◌}
use lib.ListN.{take}
use Rattle.plan.specs.Select.{lent}
use Rattle.settle.specs.Settled.{each}
use Rattle.reclaim.proofs.do_all.Given as goal

abbrev pub invariant-loop-s : goal.invariant-loop-s
invariant-loop-s l = lent l.tags l.paths l.contents ≡ each l.g (lent l.initial.tags l.initial.paths l.initial.contents) (take l.s-index l.steps)
