-- The cut front, the run and the piece, and the rows past the range.
use mathlib.Core.Path.{ap, ◌∙◌}
use mir.Val.{bool_byte}
use Rattle.std.specs.Prelude.{is_some}
use native.Mathlib.Omega.{arith}
use Rattle.extent.proofs.Parts.{low_fewer, put_both, put_alone}
use Rattle.extent.proofs.put_run.Goals as goal
use Rattle.extent.proofs.put_run.Goals.{in-Some, in_default}

pub cut-requires : goal.cut-requires
cut-requires c = low_fewer c.args.rows.now c.args.n c.args.g.start c.args.s c.requires.0

pub returns : goal.returns
returns c = elim c.match-w.branch [
  | in-Some w ↦ put_both c.args.rows.now c.args.n c.args.g c.args.s c.args.v c.requires.0 (omega arith) (omega arith) (omega arith) _ _ _ w.in-Some.w w.in-Some.is (c.from.ensures ∙ ap bool_byte (c.is_some.ensures ∙ ap is_some w.in-Some.is))
      (w.rows-is ∙ rw (c.move_rows.ensures, c.cut.ensures))
  | in_default w ↦ put_alone c.args.rows.now c.args.n c.args.g c.args.s c.args.v c.requires.0 (omega arith) (omega arith) (omega arith) _ _ _ w.in_default.is (c.from.ensures ∙ ap bool_byte (c.is_some.ensures ∙ ap is_some w.in_default.is))
      (w.rows-is ∙ rw (c.move_rows.ensures, c.cut.ensures))
]
