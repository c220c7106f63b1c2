-- The part is lent, and comes back with the run laid in its rows.
use mathlib.Core.Path.{refl}
use native.Mathlib.Omega.{arith}
use Rattle.runs.proofs.Moves.{lent_open, lent_span, lent_back}
use Rattle.runs.proofs.lay_at.Goals as goal

pub lay_over-n-requires : goal.lay_over-n-requires
lay_over-n-requires c = lent_open c.args.spans.now c.args.rows.now c.args.s c.args.v c.requires _ _ _ refl refl (omega arith)

pub returns : goal.returns
returns c = (
  lent_span c.args.spans.now c.args.rows.now c.args.s c.args.v c.requires _ _ _ refl refl (omega arith) c.lay_over-n.result c.lay_over-n.ensures.0,
  lent_back c.args.spans.now c.args.rows.now c.args.s c.args.v c.requires _ _ _ refl refl (omega arith) c.lay_over-n.result c.lay_over-n.ensures.0 c.lay_over-n.new.rows c.lay_over-n.ensures.1,
)
