-- The invariant: no place before i stands for r, and place i is of r.
use Prim.Native.Nat.{◌-◌, ◌<◌}
use mathlib.Core.Path.{◌≡◌}
use lib.ListN.{length, get_or}
use Rattle.meaning.specs.Flash.{labels_of, r_of}
use Rattle.meaning.specs.Labels.{is, view}
use Rattle.label.proofs.Scanned.{Clear}
use Rattle.label.proofs.Flash.find.Given as goal

abbrev pub invariant-loop-i : goal.invariant-loop-i
invariant-loop-i l = Clear (λ k. is (view (length l.self.tags.now) (labels_of l.self.tags.now l.self.paths.now) l.t k) l.r) l.i × (l.i < length l.self.tags.now → r_of (get_or l.self.paths.now l.i 0) ≡ l.r)

abbrev pub decreases-loop-i : goal.decreases-loop-i
decreases-loop-i l = length l.self.tags.now - l.i
