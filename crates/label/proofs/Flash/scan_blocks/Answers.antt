use Rattle.meaning.specs.Labels.{find}
use Rattle.label.proofs.Scanned.{scans}
use Rattle.label.proofs.Flash.scan_blocks.Goals as goal

pub loop-i-init : goal.loop-i-init
unfolding find
loop-i-init c = search scans

pub returns-then-stands_for : goal.returns-then-stands_for
unfolding find
returns-then-stands_for c = search scans

pub loop-i-preserved : goal.loop-i-preserved
unfolding find
loop-i-preserved c = search scans

pub returns : goal.returns
unfolding find
returns c = search scans
