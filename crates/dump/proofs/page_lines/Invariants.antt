use Prim.Native.Nat.{◌+◌, ◌-◌}
use mathlib.Core.Path.{◌≡◌}
use Rattle.dump.specs.Lines.{places}
use Rattle.dump.specs.Dump.{page_lines}
use Rattle.dump.proofs.page_lines.Given as goal

abbrev pub invariant-loop-line : goal.invariant-loop-line
invariant-loop-line l =
    page_lines l.s l.g (l.end - l.line) l.i l.line l.floor ≡ page_lines l.s l.g (places l.g + 1) l.at (l.first + 1 + l.g.blocks) 0
