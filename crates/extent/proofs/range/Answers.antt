-- Two positions by start: what starts before s starts before e.
use Rattle.extent.proofs.Parts.{split_low, low_later}
use Rattle.extent.proofs.range.Goals as goal

pub below_from-end-requires : goal.below_from-end-requires
below_from-end-requires c = low_later c.args.rows.now c.args.n c.below-start.result c.args.s c.args.e c.requires.2
    (split_low c.args.rows.now c.args.n c.below-start.result c.args.s c.requires.0 c.requires.1 c.below-start.ensures)

pub returns : goal.returns
returns c = (
  record { low = c.below-start.ensures; high = c.below_from-end.ensures.0; order = c.below_from-end.ensures.1 },
  (split_low c.args.rows.now c.args.n c.below_from-end.result c.args.e c.requires.0 c.requires.1 c.below_from-end.ensures.0).few,
)
