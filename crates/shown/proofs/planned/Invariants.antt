-- The loop's invariant: the first k records are the tree's, by ascending path.
use mathlib.Core.Path.{◌≡◌}
use lib.ListN.{length, take}
use Rattle.tree.specs.Tree.{files, Kept}
use Rattle.shown.proofs.planned.Given as goal

abbrev pub invariant-loop-k : goal.invariant-loop-k
invariant-loop-k l = (l.count ≡ l.t.count) × Kept l.t × (length l.shown.records ≡ 256) × (take l.k l.shown.records ≡ take l.k (files l.t))
