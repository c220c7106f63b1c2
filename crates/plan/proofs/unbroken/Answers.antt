use native.Mathlib.Omega.{arith}
use Rattle.plan.proofs.Runs.{runs, run_from, run_all, run_next, run_to_bound}
use Rattle.plan.proofs.unbroken.Goals as goal

pub returns-then-from-bound : goal.returns-then-from-bound
returns-then-from-bound c = search runs

pub loop-k-init : goal.loop-k-init
loop-k-init c = run_from _ _ _ _ c.args.from

pub returns-then-flash-count : goal.returns-then-flash-count
returns-then-flash-count c = run_all _ _ _ _ _ _ c.loop-k.k c.loop-k.invariant (omega arith)

pub returns-then-not-has_number : goal.returns-then-not-has_number
returns-then-not-has_number c = search runs

pub loop-k-preserved : goal.loop-k-preserved
loop-k-preserved c = run_next _ _ _ _ c.args.from c.loop-k.k c.loop-k.invariant (omega arith) (omega arith) c.loop-k-test.true c.has_number.ensures c.if-not-has_number.false

pub returns : goal.returns
returns c = run_to_bound _ _ _ _ c.args.from c.loop-k.k c.loop-k.invariant (omega arith) (omega arith)
