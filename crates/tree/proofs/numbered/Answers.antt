use borrow.Author.Rules.{rules}
use Rattle.tree.proofs.numbered.Goals as goal

pub returns : goal.returns
returns c = record { len = c.from_fn.ensures.items.long; own = λ a l. let e = c.from_fn.ensures.items.at a 0 l in search rules }
