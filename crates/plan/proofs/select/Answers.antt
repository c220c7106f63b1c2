use Rattle.plan.proofs.Chosen.{chooses}
use Rattle.plan.proofs.select.Goals as goal

pub returns-then-not-fits : goal.returns-then-not-fits
returns-then-not-fits c = search chooses

pub returns-in-Some : goal.returns-in-Some
returns-in-Some c = search chooses

pub returns-in-Some-bad_path : goal.returns-in-Some-bad_path
returns-in-Some-bad_path c = search chooses

pub returns-in-Some-bad_copies : goal.returns-in-Some-bad_copies
returns-in-Some-bad_copies c = search chooses

pub returns-then-boot_gap : goal.returns-then-boot_gap
returns-then-boot_gap c = search chooses

pub returns-then-bad_log : goal.returns-then-bad_log
returns-then-bad_log c = search chooses

pub returns : goal.returns
returns c = search chooses
