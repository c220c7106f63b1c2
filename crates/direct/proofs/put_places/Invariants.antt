use Rattle.label.specs.Lent.{labels}
use Rattle.direct.proofs.Places.{Stored}
use Rattle.direct.proofs.put_places.Given as goal

abbrev pub invariant-loop-k : goal.invariant-loop-k
invariant-loop-k l = Stored l.flash.geometry (labels l.flash) l.xs l.initial.places l.places l.k
