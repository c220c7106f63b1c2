use Rattle.label.specs.Search.{bears}
use Rattle.label.proofs.Said.{said}
use Rattle.label.proofs.Sure.{sure}
use Rattle.label.proofs.Flash.bears.Goals as goal

pub returns-then-path_at-r : goal.returns-then-path_at-r
unfolding bears
returns-then-path_at-r c = search (sure, said)

pub returns-else-path_at-r : goal.returns-else-path_at-r
unfolding bears
returns-else-path_at-r c = search (sure, said)
