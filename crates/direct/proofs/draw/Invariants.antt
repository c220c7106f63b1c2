use mathlib.Core.Path.{◌≡◌}
use lib.ListN.{length}
use Rattle.direct.proofs.Draws.{Up}
use Rattle.direct.proofs.draw.Given as goal

abbrev pub invariant-loop-j : goal.invariant-loop-j
invariant-loop-j l = (length l.buffer ≡ length l.initial.buffer) × (Up l.contents l.xs l.begins l.key l.n l.last l.initial.j l.initial.buffer ≡ Up l.contents l.xs l.begins l.key l.n l.last l.j l.buffer)
