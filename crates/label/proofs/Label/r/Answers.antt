use Rattle.meaning.specs.Flash.{r_of}
use borrow.Author.Rules.{rules}
use Rattle.label.proofs.Label.r.Goals as goal

pub returns : goal.returns
unfolding r_of
returns c = search rules
