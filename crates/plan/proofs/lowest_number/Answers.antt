use Rattle.plan.proofs.Lowest.{lowers}
use Rattle.plan.proofs.lowest_number.Goals as goal

pub loop-i-init : goal.loop-i-init
loop-i-init c = search lowers

pub loop-i-preserved : goal.loop-i-preserved
loop-i-preserved c = search lowers

pub returns-then-best-lt4096 : goal.returns-then-best-lt4096
returns-then-best-lt4096 c = search lowers

pub returns-else-best-lt4096 : goal.returns-else-best-lt4096
returns-else-best-lt4096 c = search lowers
