use Rattle.label.proofs.Passed.{nexts, next_end}
use Rattle.label.proofs.next_of.Goals as goal

pub loop-i-init : goal.loop-i-init
loop-i-init c = search nexts

pub returns-then-paths-i : goal.returns-then-paths-i
returns-then-paths-i c = search nexts

pub loop-i-preserved : goal.loop-i-preserved
loop-i-preserved c = search nexts

pub returns : goal.returns
returns c = next_end _ _ _ c.loop-i.i c.loop-i.invariant c.loop-i-test.false c.max.ensures
