use Prim.Native.Nat.{◌-◌}
use mathlib.Core.Path.{◌≡◌}
use Rattle.text.specs.Piece.{number_from, number_at}
use Rattle.text.proofs.number_at.Given as goal

abbrev pub invariant-loop-k : goal.invariant-loop-k
invariant-loop-k l = number_from l.s l.stop (21 - l._k) l.i l.n ≡ number_at l.s l.at l.stop
