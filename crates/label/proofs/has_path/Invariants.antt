-- The invariant: what is so far found is the scan of the paths passed.
use mathlib.Core.Path.{◌≡◌}
use lib.Dec.{eqb}
use lib.ListN.{get_or}
use Rattle.base.specs.Scan.{any}
use Rattle.label.proofs.has_path.Given as goal

abbrev pub invariant-loop-p : goal.invariant-loop-p
invariant-loop-p l = l.hit ≡ any l.p-index (λ k. eqb (get_or l.paths k 0) l.path)
