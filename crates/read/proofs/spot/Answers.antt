use Rattle.meaning.specs.Replay.{spot}
use native.Mathlib.Omega.{arith}
use Rattle.read.proofs.spot.Goals as goal

pub returns : goal.returns
unfolding spot
returns c = omega arith
