-- The invariant: the numbers of the blocks before i have their flags.
use Prim.Native.Nat.{◌≤◌}
use lib.ListN.{length}
use Rattle.meaning.specs.Flash.{labels_of}
use Rattle.meaning.specs.Labels.{view}
use Rattle.meaning.specs.declared.Tag.TheVariants as means
use Rattle.plan.specs.Ask.{Numbers}
use Rattle.plan.proofs.numbers_from.Given as goal

abbrev pub invariant-loop-i : goal.invariant-loop-i
invariant-loop-i l = (l.i ≤ length l.flash.tags.now) × Numbers (view (length l.flash.tags.now) (labels_of l.flash.tags.now l.flash.paths.now) means.Log) l.g.0 l.from l.i l.numbers
