use Rattle.meaning.specs.Flash.{path_of, r_of, successor}
use Rattle.label.specs.Search.{newer_path}
use borrow.Author.Rules.{rules}
use Rattle.label.proofs.Label.newer_path.Goals as goal

pub overflow_add-result : goal.overflow_add-result
unfolding newer_path path_of r_of successor
overflow_add-result c = search rules

pub returns : goal.returns
unfolding newer_path path_of r_of successor
returns c = search rules
