use Prim.Native.Nat.{◌+◌, ◌-◌}
use mathlib.Core.Path.{◌≡◌}
use Rattle.dump.specs.Lines.{places}
use Rattle.dump.specs.Given.{pages_from}
use Rattle.dump.proofs.put_pages.Given as goal

abbrev pub invariant-loop-page : goal.invariant-loop-page
invariant-loop-page l = pages_from l.s l.g (places l.g + 1 - l._page) l.i l.l ≡ pages_from l.s l.g (places l.g + 1) l.at l.initial.l
