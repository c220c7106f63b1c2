use Rattle.meaning.specs.Labels.{stray}
use Rattle.meaning.specs.Labels.{unplaced}
use Rattle.label.proofs.Scanned.{scans}
use Rattle.plan.proofs.stray.Goals as goal

pub loop-i-init : goal.loop-i-init
unfolding stray unplaced
loop-i-init c = search scans

pub returns-then-is_stray : goal.returns-then-is_stray
unfolding stray unplaced
returns-then-is_stray c = search scans

pub loop-i-preserved : goal.loop-i-preserved
unfolding stray unplaced
loop-i-preserved c = search scans

pub returns : goal.returns
unfolding stray unplaced
returns c = search scans
