use native.Mathlib.Omega.{arith}
use Rattle.tree.proofs.Search.{stands}
use Rattle.tree.proofs.keys.find.Goals as goal

pub returns : goal.returns
returns c = stands c.args.keys.now c.args.n c.args.path c.requires.rising (omega arith) _ c.binary_search.ensures.position
