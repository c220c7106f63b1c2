use Prim.Native.Nat.{◌+◌, ◌-◌}
use mathlib.Core.Path.{◌≡◌}
use Rattle.text.specs.Piece.{run_from, run_at}
use Rattle.text.proofs.run_at.Given as goal

abbrev pub invariant-loop-n : goal.invariant-loop-n
invariant-loop-n l = run_from l.s (l.size + 1 - l.n) l.i l.n ≡ run_at l.s l.at l.size
