-- The invariant: the blocks before i have their flags.
use lib.ListN.{length}
use Rattle.meaning.specs.Flash.{labels_of}
use Rattle.label.specs.Search.{Olders}
use Rattle.label.proofs.Flash.olders.Given as goal

abbrev pub invariant-loop-i : goal.invariant-loop-i
invariant-loop-i l = Olders (length l.self.tags.now) (labels_of l.self.tags.now l.self.paths.now) l.i l.flags
