use Rattle.label.proofs.Older.{view_off, view_on}
use Rattle.label.proofs.Said.{r_is}
use Rattle.label.proofs.Sure.{fails}
use borrow.Author.Tests.{not-true, not-false}
use Rattle.plan.proofs.boot_gap_at.Goals as goal

pub returns-then-counts : goal.returns-then-counts
returns-then-counts c = search (view_off, view_on, r_is, fails, not-true, not-false)

pub returns-else-counts : goal.returns-else-counts
returns-else-counts c = search (view_off, view_on, r_is, fails, not-true, not-false)
