-- The first k are in numbers.
use mathlib.Core.Path.{◌≡◌}
use mathlib.Core.List.{map}
use lib.ListN.{length, take}
use Rattle.action.specs.Action.{action_of}
use Rattle.action.proofs.actions_of.Given as goal

abbrev pub invariant-loop-k : goal.invariant-loop-k
invariant-loop-k l = (length l.actions ≡ 35) × (take l.k l.actions ≡ map action_of (take l.k l.s-items))
