-- No page before the one that is looked at is blank.
use Rattle.label.proofs.Scanned.{Clear}
use Rattle.flash_log.specs.Point.{is_blank}
use Rattle.flash_log.proofs.insertion.first_blank.Given as goal

abbrev pub invariant-loop-page : goal.invariant-loop-page
invariant-loop-page l = Clear (is_blank l.flash.geometry l.flash.contents.now l.begin) l.page
