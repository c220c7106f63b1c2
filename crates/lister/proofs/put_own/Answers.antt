use native.Mathlib.Omega.{arith}
use mathlib.Core.Path.{ap}
use Rattle.meaning.specs.declared.Extent.{Extent}
use Rattle.listing.proofs.Ways.{wrote_none, wrote_no=}
use Rattle.lister.proofs.put_own.Goals as goal

pub returns-else-e-path : goal.returns-else-e-path
returns-else-e-path c = wrote_no= _ _ _ _
    (λ h. omega (arith, ap (λ (x : Extent). x.path) c.extent_of-e.ensures)) (wrote_none _ _)
