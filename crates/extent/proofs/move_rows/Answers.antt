-- Where the rows stand there already, the list is as it was.
use mathlib.Core.Path.{ap, ◌∙◌}
use native.Mathlib.Omega.{arith}
use Rattle.std.specs.List.{copy_within}
use Rattle.std.specs.Prelude.{◌-◌}
use Rattle.extent.proofs.Moves.{stay}
use Rattle.extent.proofs.move_rows.Goals as goal

pub returns-else-q-m : goal.returns-else-q-m
returns-else-q-m c =
    stay c.args.rows.now c.args.q (c.args.n - c.args.q) ∙ ap (copy_within c.args.rows.now c.args.q c.args.n) (omega arith)
