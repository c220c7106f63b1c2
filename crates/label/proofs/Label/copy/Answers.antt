use Rattle.meaning.specs.Flash.{copy_of}
use borrow.Author.Rules.{rules}
use Rattle.label.proofs.Label.copy.Goals as goal

pub returns : goal.returns
unfolding copy_of
returns c = search rules
