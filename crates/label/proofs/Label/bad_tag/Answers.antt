use Rattle.meaning.specs.Flash.{bad_tag}
use Rattle.label.proofs.Said.{as_tag}
use Rattle.label.proofs.Label.bad_tag.Goals as goal

pub returns : goal.returns
unfolding bad_tag
returns c = search as_tag
