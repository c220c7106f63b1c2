use Rattle.meaning.specs.Flash.{byte_of}
use borrow.Author.Rules.{rules}
use Rattle.label.proofs.byte_of.Goals as goal

pub returns-in-Free : goal.returns-in-Free
unfolding byte_of
returns-in-Free c = search rules

pub returns-in-Boot : goal.returns-in-Boot
unfolding byte_of
returns-in-Boot c = search rules

pub returns-in-Log : goal.returns-in-Log
unfolding byte_of
returns-in-Log c = search rules

pub returns-in-Data : goal.returns-in-Data
unfolding byte_of
returns-in-Data c = search rules

pub returns-in-Unknown : goal.returns-in-Unknown
unfolding byte_of
returns-in-Unknown c = search rules
