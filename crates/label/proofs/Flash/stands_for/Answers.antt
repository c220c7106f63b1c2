use Rattle.label.proofs.Older.{olders}
use Rattle.label.proofs.Sure.{eq_fails}
use Rattle.label.proofs.Flash.stands_for.Goals as goal

pub returns-then-path_at-r : goal.returns-then-path_at-r
returns-then-path_at-r c = search olders

pub returns-else-path_at-r : goal.returns-else-path_at-r
returns-else-path_at-r c = search (olders, eq_fails)
