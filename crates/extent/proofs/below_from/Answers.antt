use Prim.Native.Nat.{◌+◌}
use mathlib.Core.Path.{◌≡◌}
use native.Mathlib.Omega.{arith}
use Rattle.extent.proofs.Rows.{runs_length, runs_take}
use Rattle.extent.proofs.Parts.{rows_low, rows_high, none_left}
use Rattle.extent.proofs.below_from.Goals as goal

pub loop-k-init : goal.loop-k-init
loop-k-init c = rw (runs_take c.args.rows.now c.args.n c.args.p c.requires.few) c.requires.low

pub loop-k-preserved : goal.loop-k-preserved
loop-k-preserved c = rows_low c.args.rows.now c.args.n c.requires.room c.requires.within c.loop-k.k (c.loop-k.k + 1) c.args.key (omega arith) (omega arith) (omega arith)

pub returns-then-key-start_of : goal.returns-then-key-start_of
returns-then-key-start_of c = (
  record {
    few = omega (arith, runs_length c.args.rows.now c.args.n c.requires.room);
    low = c.loop-k.invariant;
    high = rows_high c.args.rows.now c.args.n c.requires.room c.requires.within c.loop-k.k c.loop-k.k c.args.key (omega arith) (omega arith) (omega arith);
  },
  omega arith,
)

pub returns : goal.returns
returns c =
    let k : c.loop-k.k ≡ c.args.n = omega arith in (
      record {
        few = omega (arith, runs_length c.args.rows.now c.args.n c.requires.room);
        low = rw k at c.loop-k.invariant;
        high = none_left c.args.rows.now c.args.n c.args.n _ (omega arith);
      },
      c.requires.few,
    )
