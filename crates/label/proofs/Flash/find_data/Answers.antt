use Rattle.meaning.specs.Labels.{find_data}
use borrow.Author.Rules.{rules}
use Rattle.label.proofs.Flash.find_data.Goals as goal

pub returns : goal.returns
unfolding find_data
returns c = search rules
