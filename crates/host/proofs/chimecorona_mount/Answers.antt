use native.Mathlib.Omega.{arith}
use Rattle.plan.specs.Select.{lent}
use Rattle.host.proofs.Laws.{table_is, answer_is}
use Rattle.host.proofs.chimecorona_mount.Goals as goal

pub returns : goal.returns
returns c =
    let l = lent c.args.tags.now c.args.paths.now c.args.contents.now in
    let k = c.show_all-c.ensures in (
      rw c.fill.ensures (table_is c.args.g l c.args.table.now c.show_all-c.result k),
      rw c.fill.ensures (answer_is c.args.g l c.args.table.now c.show_all-c.result k (omega arith)),
      k.sized,
    )
