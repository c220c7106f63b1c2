use mathlib.Core.Path.{refl}
use Rattle.meaning.specs.Replay.{root, nothing}
use Rattle.tree.proofs.Laws.{root_alone}
use Rattle.tree.proofs.bare.Goals as goal

pub returns : goal.returns
unfolding root nothing
returns c = root_alone _ _ _ refl refl c.numbered.ensures refl refl
