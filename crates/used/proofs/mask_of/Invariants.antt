-- The mask holds the flags below p.
use Rattle.std.proofs.Common.{◌≡◌, false, get_or}
use Rattle.used.specs.Bits.{page_bits}
use Rattle.used.proofs.mask_of.Given as goal

abbrev pub invariant-loop-p : goal.invariant-loop-p
invariant-loop-p l = l.mask ≡ page_bits l.p (λ i. get_or l.flags i false)
