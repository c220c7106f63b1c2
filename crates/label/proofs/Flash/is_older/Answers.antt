use Rattle.label.proofs.Older.{olders}
use Rattle.label.proofs.Flash.is_older.Goals as goal

pub returns-then-ne : goal.returns-then-ne
returns-then-ne c = search olders

pub returns-else-ne : goal.returns-else-ne
returns-else-ne c = search olders
