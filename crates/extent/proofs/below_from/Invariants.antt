-- The first k start before the key.
use Prim.Native.Nat.{◌<◌}
use lib.ListN.{take}
use Rattle.meaning.specs.declared.Extent.{Extent}
use Rattle.base.specs.Member.{All}
use Rattle.meaning.specs.Replay.{start}
use Rattle.extent.specs.Rows.{runs}
use Rattle.extent.proofs.below_from.Given as goal

abbrev pub invariant-loop-k : goal.invariant-loop-k
invariant-loop-k l = All (λ (x : Extent). start x < l.key) (take l.k (runs l.rows l.n))
