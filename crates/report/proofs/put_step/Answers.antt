use Rattle.report.proofs.Ways.{step_ways}
use Rattle.report.proofs.put_step.Goals as goal

pub returns-in-Erase : goal.returns-in-Erase
returns-in-Erase c = search step_ways depth 20

pub returns-in-PageWrite : goal.returns-in-PageWrite
returns-in-PageWrite c = search step_ways depth 20

pub returns-in-LabelWrite : goal.returns-in-LabelWrite
returns-in-LabelWrite c = search step_ways depth 20
