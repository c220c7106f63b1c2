-- Before each turn, what is ahead told to the tree so far is the replay of the whole log.
use Prim.Native.Nat.{◌≤◌}
use mathlib.Core.Path.{◌≡◌}
use lib.ListN.{length}
use Rattle.plan.specs.Select.{lent}
use Rattle.flash_log.specs.Cursor.{left}
use Rattle.replay.proofs.Turns.{Going}
use Rattle.replay.proofs.replay.Given as goal

abbrev pub invariant-loop-t : goal.invariant-loop-t
invariant-loop-t l = Going l.flash.geometry (lent l.flash.tags.now l.flash.paths.now l.flash.contents.now) l.p l.t l.spans l.rows l.room l.applied l.ignored l.c × (length l.scratch ≡ length l.initial.scratch) × (1024 ≤ length l.scratch)

abbrev pub decreases-loop-t : goal.decreases-loop-t
decreases-loop-t l = left l.flash.geometry l.p l.c
