use Prim.Native.Nat.{◌+◌, ◌-◌}
use mathlib.Core.Path.{◌≡◌}
use Rattle.dump.specs.Dump.{label_lines}
use Rattle.dump.proofs.label_lines.Given as goal

abbrev pub invariant-loop-line : goal.invariant-loop-line
invariant-loop-line l = label_lines l.s (l.first + 1 + l.blocks - l.line) l.i l.line ≡ label_lines l.s l.blocks l.at (l.first + 1)
