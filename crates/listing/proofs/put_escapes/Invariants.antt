use Rattle.listing.specs.Lines.{escapes}
use Rattle.listing.proofs.Left.{Left}
use Rattle.listing.proofs.put_escapes.Given as goal

abbrev pub invariant-loop-b : goal.invariant-loop-b
invariant-loop-b l = Left escapes l.name l.initial.buf l.at l.b-index l.buf l.to
