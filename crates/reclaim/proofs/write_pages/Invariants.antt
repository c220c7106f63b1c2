-- The used pages below this one are listed.
use Prim.Native.Nat.{◌+◌, ◌≤◌}
use mathlib.Core.Path.{◌≡◌}
use mathlib.Core.List.{◌++◌, map}
use Rattle.base.specs.Scan.{places}
use Rattle.meaning.specs.declared.Step.TheVariants.{PageWrite}
use Rattle.used.specs.Bits.{has_page}
use Rattle.reclaim.specs.Reclaimed.{steps_in}
use Rattle.reclaim.proofs.write_pages.Given as goal

abbrev pub invariant-loop-page : goal.invariant-loop-page
invariant-loop-page l =
    (steps_in l.r ≡ steps_in l.initial.r ++ map (PageWrite l.old l.target) (places l.page (has_page l.mask))) × (l.r.count ≤ 1 + l.page)
