-- The first free slot, moved, is a slot still.
use mathlib.Core.Path.{sym, subst}
use native.Mathlib.Omega.{arith}
use Rattle.tree.specs.Tree.{Slots}
use Rattle.tree.proofs.Slots.{slots_opened}
use Rattle.replay.proofs.near.open_slot.Goals as goal

pub renumber-requires : goal.renumber-requires
renumber-requires c = (omega arith, subst Slots (sym c.open_at.ensures) (slots_opened c.args.slots.now c.args.n c.args.i c.requires.3 c.requires.0 (omega arith)))
