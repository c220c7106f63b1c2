use Prim.Native.Nat.{◌-◌}
use lib.ListN.{length}
use Rattle.meaning.specs.Flash.{labels_of}
use Rattle.meaning.specs.Labels.{view}
use Rattle.meaning.specs.declared.Tag.TheVariants as means
use Rattle.plan.proofs.Runs.{Running}
use Rattle.plan.proofs.unbroken.Given as goal

abbrev pub invariant-loop-k : goal.invariant-loop-k
invariant-loop-k l = Running (length l.flash.tags.now) (view (length l.flash.tags.now) (labels_of l.flash.tags.now l.flash.paths.now) means.Log) l.g.0 l.bound l.from (l.k - l.from) l.k
