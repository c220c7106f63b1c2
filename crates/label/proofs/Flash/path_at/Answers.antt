use Rattle.label.proofs.Said.{said}
use Rattle.label.proofs.Flash.path_at.Goals as goal

pub returns : goal.returns
returns c = search said
