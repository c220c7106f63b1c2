-- The free blocks below i are counted.
use Prim.Native.Nat.{◌≤◌}
use mathlib.Core.Path.{◌≡◌}
use lib.ListN.{length}
use Rattle.base.specs.Scan.{places}
use Rattle.meaning.specs.Services.{is_free}
use Rattle.label.specs.Lent.{labels}
use Rattle.reclaim.proofs.free_blocks.Given as goal

abbrev pub invariant-loop-i : goal.invariant-loop-i
invariant-loop-i l = (l.free ≤ l.i) × (l.free ≡ length (places l.i (is_free (labels l.flash))))
