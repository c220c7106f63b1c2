-- The range, the piece, the splice.
use native.Mathlib.Omega.{arith}
use Rattle.extent.specs.Rows.{extent_of}
use Rattle.extent.proofs.Parts.{split_low, low_fewer, laid}
use Rattle.extent.proofs.Line.{start_end}
use Rattle.extent.proofs.lay_over.Goals as goal

pub range-g-requires : goal.range-g-requires
range-g-requires c = (omega (arith, c.requires.room), c.requires.within, omega (arith, start_end (extent_of c.args.v), c.end_of-e.ensures, c.start_of-s.ensures))

pub last_piece-w-requires : goal.last_piece-w-requires
last_piece-w-requires c = low_fewer c.args.rows.now c.args.n c.range-g.result.end c.end_of-e.result
    (split_low c.args.rows.now c.args.n c.range-g.result.end c.end_of-e.result (omega (arith, c.requires.room)) c.requires.within c.range-g.ensures.0.high)

pub put_run-requires : goal.put_run-requires
put_run-requires c = (
  split_low c.args.rows.now c.args.n c.range-g.result.start c.start_of-s.result (omega (arith, c.requires.room)) c.requires.within c.range-g.ensures.0.low,
  c.range-g.ensures.0.order,
  c.range-g.ensures.1,
  c.requires.room,
)

pub returns : goal.returns
returns c = laid c.args.rows.now c.args.n c.args.v c.requires c.range-g.result c.last_piece-w.result _ _ c.start_of-s.ensures c.end_of-e.ensures c.range-g.ensures.0 c.last_piece-w.ensures _ _ c.put_run.ensures.0 c.put_run.ensures.1
