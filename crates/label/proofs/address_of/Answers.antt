use native.Mathlib.Omega.{arith}
use Rattle.meaning.specs.Flash.{address_of}
use Rattle.label.proofs.Said.{pages_below, bytes_below}
use borrow.Author.Rules.{rules}
use Rattle.label.proofs.address_of.Goals as goal

pub overflow_mul-pages : goal.overflow_mul-pages
unfolding address_of
overflow_mul-pages c = record { fits = omega (arith, pages_below c.args.n.0 c.args.g.pages (omega arith) (omega arith)) }

pub overflow_add-pages : goal.overflow_add-pages
unfolding address_of
overflow_add-pages c = record { fits = omega (arith, pages_below c.args.n.0 c.args.g.pages (omega arith) (omega arith)) }

pub overflow_mul-result : goal.overflow_mul-result
unfolding address_of
overflow_mul-result c = record { fits = omega (arith, bytes_below c.args.n.0 c.args.g.pages c.args.page c.args.g.size (omega arith) (omega arith) (omega arith) (omega arith)) }

pub overflow_add-result : goal.overflow_add-result
unfolding address_of
overflow_add-result c = record { fits = omega (arith, bytes_below c.args.n.0 c.args.g.pages c.args.page c.args.g.size (omega arith) (omega arith) (omega arith) (omega arith)) }

pub returns : goal.returns
unfolding address_of
returns c = search rules
