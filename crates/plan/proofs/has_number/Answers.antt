use Rattle.plan.proofs.Numbers.{number_has}
use Rattle.plan.proofs.has_number.Goals as goal

pub returns-then-above-lt1024 : goal.returns-then-above-lt1024
returns-then-above-lt1024 c = number_has _ _ _ _ c.args.k c.args.numbers.now c.requires c.if-from-k.true c.if-above-lt1024.true
