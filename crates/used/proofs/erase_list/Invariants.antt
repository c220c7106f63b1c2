-- The blocks below i that can be erased are in, and 0 stands past them.
use Rattle.std.proofs.Common.{length, get_or}
use Rattle.meaning.specs.Flash.{labels_of}
use Rattle.used.specs.Erase.{erasable}
use Rattle.used.proofs.Erasable.{Kept}
use Rattle.used.proofs.erase_list.Given as goal

abbrev pub invariant-loop-i : goal.invariant-loop-i
invariant-loop-i l = Kept (λ k. erasable (length l.flash.tags.now) (labels_of l.flash.tags.now l.flash.paths.now) l.p (get_or l.masks k 0) k) 1024 l.i l.count l.blocks
