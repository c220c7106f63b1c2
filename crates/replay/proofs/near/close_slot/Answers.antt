-- A slot given back is a slot still.
use mathlib.Core.Path.{sym, subst}
use native.Mathlib.Omega.{arith}
use Rattle.tree.specs.Tree.{Slots}
use Rattle.tree.proofs.Slots.{slots_closed}
use Rattle.replay.proofs.near.close_slot.Goals as goal

pub renumber-requires : goal.renumber-requires
renumber-requires c = (omega arith, subst Slots (sym c.close_at.ensures) (slots_closed c.args.slots.now c.args.n c.args.i c.requires.3 c.requires.0 (omega arith)))
