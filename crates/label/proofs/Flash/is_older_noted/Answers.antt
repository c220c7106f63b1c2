use borrow.Author.Tests.{not-true}
use Rattle.label.proofs.Noted.{older_unmarked}
use Rattle.label.proofs.Flash.is_older_noted.Goals as goal

pub returns-then-not-marks-low : goal.returns-then-not-marks-low
returns-then-not-marks-low c = older_unmarked c.args.self.now.tags.now c.args.self.now.paths.now c.args.marks.now _ _ _ _ c.requires c.if-self.true
    c.label_at.ensures.1 c.newer_path.ensures c.low_bits-low.ensures.0 (not-true _ c.if-not-marks-low.true-raw)
