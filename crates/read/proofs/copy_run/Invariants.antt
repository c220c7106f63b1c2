use Prim.Native.Nat.{◌-◌}
use Rattle.meaning.specs.Flash.{image_of}
use Rattle.meaning.specs.Mount.{byte_at}
use Rattle.plan.specs.Select.{lent}
use Rattle.read.proofs.Runs.{Ran}
use Rattle.read.proofs.copy_run.Given as goal

abbrev pub invariant-loop-i : goal.invariant-loop-i
invariant-loop-i l = Ran (byte_at l.flash.geometry (image_of l.flash.geometry (lent l.flash.tags.now l.flash.paths.now l.flash.contents.now))) l.a l.initial.part l.part l.i

abbrev pub decreases-loop-i : goal.decreases-loop-i
decreases-loop-i l = l.n - l.i
