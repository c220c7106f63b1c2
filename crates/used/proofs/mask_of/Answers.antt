use Rattle.std.proofs.Common.{arith, false, get_or}
use Rattle.used.proofs.Bits.{bit_low, bits_fit, bits_off, bits_on}
use Rattle.used.proofs.mask_of.Goals as goal
use Rattle.used.proofs.mask_of.Goals.{then-flags-p, else-flags-p}

pub overflow_add-mask : goal.overflow_add-mask
overflow_add-mask c = record { fits = omega (arith, c.loop-p.invariant, bit_low c.loop-p.p (omega arith), bits_fit (λ i. get_or c.args.flags i false) c.loop-p.p (omega arith)) }

pub loop-p-preserved : goal.loop-p-preserved
loop-p-preserved c = elim c.if-flags-p.branch [
  | then-flags-p w ↦ omega (arith, c.loop-p.invariant, bit_low c.loop-p.p (omega arith), bits_on (λ i. get_or c.args.flags i false) c.loop-p.p w.if-flags-p.true)
  | else-flags-p w ↦ omega (arith, c.loop-p.invariant, bits_off (λ i. get_or c.args.flags i false) c.loop-p.p w.if-flags-p.false)
]
