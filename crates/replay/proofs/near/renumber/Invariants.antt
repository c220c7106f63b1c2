-- What is left to number, numbered, is what the whole would be.
use Prim.Native.Nat.{◌-◌}
use mathlib.Core.Path.{◌≡◌}
use Rattle.replay.specs.Near.{renumbered}
use Rattle.replay.proofs.near.renumber.Given as goal

abbrev pub invariant-loop-k : goal.invariant-loop-k
invariant-loop-k l = renumbered l.slots l.k (l.n - l.k) l.place ≡ renumbered l.slots l.from (l.n - l.from) l.initial.place
