use mathlib.Core.Path.{◌≡◌, sym, ◌∙◌}
use Prim.Native.Nat.{◌<◌}
use Rattle.std.proofs.Common.{add-one}
use native.Mathlib.Omega.{arith}
use lib.ListN.{length}
use Rattle.table.proofs.Lists.{mixed_more}
use Rattle.table.proofs.Filled.{filled_is}
use Rattle.table.proofs.fill.Goals as goal

pub loop-i-preserved : goal.loop-i-preserved
loop-i-preserved c =
    let h : c.loop-i.i < length c.args.records.now = omega arith in
    c.put.ensures ∙ rw (add-one, c.loop-i.invariant) (mixed_more c.loop-i.i c.args.records.now c.args.table.now _ (omega arith) (omega arith))

pub returns : goal.returns
returns c =
    let e : c.loop-i.i ≡ c.args.n = omega arith in
    rw e at c.loop-i.invariant ∙ sym (filled_is c.args.n c.args.records.now c.args.table.now (omega arith))
