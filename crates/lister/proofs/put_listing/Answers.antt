use mathlib.Core.Path.{ap}
use native.Mathlib.Omega.{arith}
use Rattle.shown.specs.Shown.{told}
use Rattle.lister.proofs.Whole.{whole_wrote, stopped_wrote, sized_few}
use Rattle.lister.proofs.put_listing.Goals as goal

pub put_mount-requires : goal.put_mount-requires
put_mount-requires c = let f = sized_few _ _ _ c.show.ensures.sized (ap (λ r. told r c.show.new.shown) c.in-Ok.is) in (f.0, f.1, omega (arith, f.2, c.show.auto.extents))

pub returns-in-Ok : goal.returns-in-Ok
returns-in-Ok c = whole_wrote _ _ c.show.ensures.extents_after (ap (λ r. told r c.show.new.shown) c.in-Ok.is) c.put_mount.ensures

pub returns-in-Err : goal.returns-in-Err
returns-in-Err c = stopped_wrote _ _ c.show.ensures.extents_after (ap (λ r. told r c.show.new.shown) c.in-Err.is) c.put_refusal.ensures
