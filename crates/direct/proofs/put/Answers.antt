use native.Mathlib.Omega.{arith}
use Rattle.direct.proofs.Lays.{put_there, put_past}
use Rattle.direct.proofs.put.Goals as goal

pub returns-then-past-contents : goal.returns-then-past-contents
returns-then-past-contents c = put_there _ _ _ _ _ _ _ c.requires.0 c.requires.1 c.requires.2 (omega arith) (omega arith) c.copy_from_slice.ensures.after

pub returns-else-past-contents : goal.returns-else-past-contents
returns-else-past-contents c = put_past _ _ _ _ _ _ _ c.requires.0 c.requires.1 c.requires.2 (omega arith)
