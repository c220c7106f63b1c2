use Rattle.label.proofs.Said.{places}
use Rattle.label.proofs.offset_at.Goals as goal

pub returns-then-size-eq0 : goal.returns-then-size-eq0
returns-then-size-eq0 c = search places

pub returns : goal.returns
returns c = search places
