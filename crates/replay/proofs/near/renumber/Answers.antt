use Prim.Native.Nat.{ℕ, zero, suc, ◌+◌, ◌-◌, ◌<◌}
use mathlib.Core.Path.{◌≡◌}
use mathlib.Core.List.{List, [], ◌∷◌}
use native.Mathlib.Omega.{arith}
use lib.ListN.{get_or}
use Rattle.tree.specs.Tree.{Slots}
use Rattle.replay.specs.Near.{renumbered}
use Rattle.replay.proofs.near.renumber.Goals as goal

slot-low : (ss : List ℕ) (k : ℕ) → Slots ss → get_or ss k 0 < 256
slot-low [] k h = omega arith
slot-low (s ∷ ss) zero h = h.0
slot-low (s ∷ ss) (suc k) h = slot-low ss k h.1.1

pub bounds-place-slots : goal.bounds-place-slots
bounds-place-slots c = slot-low c.args.slots.now c.loop-k.k c.requires.1

pub loop-k-preserved : goal.loop-k-preserved
unfolding renumbered
loop-k-preserved c = let e : c.args.n - c.loop-k.k ≡ suc (c.args.n - (c.loop-k.k + 1)) = omega arith in
    rw e at c.loop-k.invariant

pub returns : goal.returns
unfolding renumbered
returns c = let e : c.args.n - c.loop-k.k ≡ 0 = omega arith in rw e at c.loop-k.invariant
