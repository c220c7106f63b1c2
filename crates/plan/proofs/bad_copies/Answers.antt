use native.Mathlib.Omega.{arith}
use Rattle.label.proofs.Scanned.{place_hit, scans}
use Rattle.plan.proofs.bad_copies.Goals as goal

pub loop-i-init : goal.loop-i-init
loop-i-init c = search scans

pub returns-then-is_clashing : goal.returns-then-is_clashing
returns-then-is_clashing c = place_hit _ _ _ c.loop-i.invariant c.loop-i-test.true c.is_clashing.ensures c.if-is_clashing.true (omega arith)

pub loop-i-preserved : goal.loop-i-preserved
loop-i-preserved c = search scans

pub returns : goal.returns
returns c = search scans
