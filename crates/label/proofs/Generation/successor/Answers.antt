use Rattle.meaning.specs.Flash.{successor}
use borrow.Author.Rules.{rules}
use Rattle.label.proofs.Generation.successor.Goals as goal

pub returns : goal.returns
unfolding successor
returns c = search rules
