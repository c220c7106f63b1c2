use Rattle.base.specs.Choice.{if_eq, if_true}
use Rattle.meaning.specs.Flash.{tag_of}
use Rattle.base.proofs.Ways.{ways}
use Rattle.label.proofs.Label.means.Goals as goal

pub returns-in-255 : goal.returns-in-255
unfolding tag_of if_eq if_true
returns-in-255 c = rw c.in-255.is

pub returns-in-1 : goal.returns-in-1
unfolding tag_of if_eq if_true
returns-in-1 c = rw c.in-1.is

pub returns-in-6 : goal.returns-in-6
unfolding tag_of if_eq if_true
returns-in-6 c = rw c.in-6.is

pub returns-in-24 : goal.returns-in-24
unfolding tag_of if_eq if_true
returns-in-24 c = rw c.in-24.is

pub returns-in_default : goal.returns-in_default
unfolding tag_of if_eq if_true
returns-in_default c = search ways
