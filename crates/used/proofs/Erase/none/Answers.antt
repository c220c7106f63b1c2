use mathlib.Core.Path.{ap}
use mathlib.Core.List.{List}
use Prim.Native.Nat.{ℕ}
use Rattle.used.specs.declared.Erase.{Erase}
use Rattle.used.specs.Erase.{erase_of}
use Rattle.used.proofs.Masks.{pad_none}
use Rattle.used.proofs.Erase.none.Goals as goal

pub returns-clause-value : goal.returns-clause-value
unfolding erase_of
returns-clause-value c = ap {B = Erase} (λ (xs : List ℕ). record { blocks = xs; count = 0 }) (pad_none 1024)
