use Rattle.label.specs.Search.{labelled}
use Rattle.label.proofs.Said.{said}
use Rattle.label.proofs.Sure.{sure}
use Rattle.label.proofs.Flash.is_labelled.Goals as goal

pub returns-then-path_at-path : goal.returns-then-path_at-path
unfolding labelled
returns-then-path_at-path c = search (sure, said)

pub returns-else-path_at-path : goal.returns-else-path_at-path
unfolding labelled
returns-else-path_at-path c = search (sure, said)
