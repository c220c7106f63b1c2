use Rattle.label.proofs.Scanned.{scans}
use Rattle.label.proofs.Flash.scan_labels.Goals as goal

pub loop-i-init : goal.loop-i-init
loop-i-init c = search scans

pub returns-then-is_labelled : goal.returns-then-is_labelled
returns-then-is_labelled c = search scans

pub loop-i-preserved : goal.loop-i-preserved
loop-i-preserved c = search scans

pub returns : goal.returns
returns c = search scans
