use Rattle.label.proofs.Noted.{noted_none, noted_more}
use Rattle.label.proofs.note_paths.Goals as goal

pub loop-path-init : goal.loop-path-init
loop-path-init c = noted_none _

pub loop-path-preserved : goal.loop-path-preserved
loop-path-preserved c = noted_more _ c.loop-path.marks c.loop-path.path-index c.low_bits.result c.loop-path.invariant c.low_bits.ensures
