use Rattle.label.proofs.Said.{said}
use Rattle.label.proofs.Flash.is_tag.Goals as goal

pub returns : goal.returns
returns c = search said
