use native.Mathlib.Omega.{arith}
use mathlib.Core.Path.{refl}
use Rattle.meaning.specs.Labels.{find}
use Rattle.label.proofs.Passed.{passed_start, passed_more, stands_counted}
use Rattle.label.proofs.Scanned.{place_hit, place_clear}
use Rattle.label.proofs.Flash.find.Goals as goal

pub loop-i-init : goal.loop-i-init
loop-i-init c = (passed_start c.args.self.now.tags.now c.args.self.now.paths.now _ _ _ c.next_of-i.ensures, λ h. c.next_of-i.ensures.here (omega arith))

pub returns-then-counts : goal.returns-then-counts
unfolding find
returns-then-counts c = let here = stands_counted c.args.self.now.tags.now c.args.self.now.paths.now _ _ c.loop-i.i (c.loop-i.invariant.1 c.loop-i-test.true) c.counts.ensures in
    place_hit _ _ c.loop-i.i c.loop-i.invariant.0 c.loop-i-test.true here c.if-counts.true refl

pub loop-i-smaller : goal.loop-i-smaller
loop-i-smaller c = omega (arith, c.next_of-i-in-loop-i.ensures.above)

pub loop-i-preserved : goal.loop-i-preserved
loop-i-preserved c = let here = stands_counted c.args.self.now.tags.now c.args.self.now.paths.now _ _ c.loop-i.i (c.loop-i.invariant.1 c.loop-i-test.true) c.counts.ensures in
    (passed_more c.args.self.now.tags.now c.args.self.now.paths.now _ _ c.loop-i.i _ c.loop-i.invariant.0 here c.if-counts.false c.next_of-i-in-loop-i.ensures, λ h. c.next_of-i-in-loop-i.ensures.here (omega arith))

pub returns : goal.returns
unfolding find
returns c = place_clear _ _ _ c.loop-i.invariant.0 c.loop-i-test.false
