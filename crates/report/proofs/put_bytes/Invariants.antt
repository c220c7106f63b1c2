use Rattle.listing.proofs.Left.{Left}
use Rattle.report.specs.Lines.{bytes_text}
use Rattle.report.proofs.put_bytes.Given as goal

abbrev pub invariant-loop-b : goal.invariant-loop-b
invariant-loop-b l = Left bytes_text l.bytes l.initial.buf l.at l.b-index l.buf l.to
