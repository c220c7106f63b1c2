-- The blocks before this one are erased.
use mathlib.Core.Path.{◌≡◌}
use lib.ListN.{take}
use Rattle.meaning.specs.Services.{settle_steps}
use Rattle.plan.specs.Select.{lent}
use Rattle.settle.specs.Settled.{each}
use Rattle.settle.proofs.erase_all.Given as goal

abbrev pub invariant-loop-b : goal.invariant-loop-b
invariant-loop-b l =
    lent l.tags l.paths l.contents ≡ each l.g (lent l.initial.tags l.initial.paths l.initial.contents) (settle_steps (take l.b-index l.blocks))
