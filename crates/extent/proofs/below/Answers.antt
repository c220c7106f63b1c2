-- Where the last row starts before the key, all do.
use native.Mathlib.Omega.{arith}
use Prim.Native.Nat.{◌-◌}
use mathlib.Core.Path.{sym, subst}
use Rattle.extent.specs.Rows.{runs, Split}
use Rattle.extent.proofs.Rows.{runs_length}
use Rattle.extent.proofs.Parts.{rows_low, none_left}
use Rattle.extent.proofs.Halves.{halves_split}
use Rattle.extent.proofs.below.Goals as goal

pub returns-then-start_of-key : goal.returns-then-start_of-key
returns-then-start_of-key c = record {
  few = omega (arith, runs_length c.args.rows.now c.args.n c.requires.0);
  low = rows_low c.args.rows.now c.args.n c.requires.0 c.requires.1 (c.args.n - 1) c.args.n c.args.key (omega arith) (omega arith) (omega arith);
  high = none_left c.args.rows.now c.args.n c.args.n _ (omega arith);
}

pub returns-else-n-gt0 : goal.returns-else-n-gt0
returns-else-n-gt0 c = subst (Split c.args.key (runs c.args.rows.now c.args.n)) (sym c.by_halves.ensures.0) (halves_split c.args.rows.now c.args.n c.args.key c.requires.0 c.requires.1)
