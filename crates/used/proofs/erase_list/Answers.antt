use Rattle.std.proofs.Common.{arith, rules, ◌≡◌, get_or, refl}
use Rattle.used.proofs.Erasable.{kept_start, kept_on, kept_off, told_of}
use Rattle.used.proofs.erase_list.Goals as goal
use Rattle.used.proofs.erase_list.Goals.{then-is_erasable, else-is_erasable}

pub loop-i-init : goal.loop-i-init
loop-i-init c = kept_start _

pub loop-i-preserved : goal.loop-i-preserved
loop-i-preserved c =
    let mask : c.unwrap_or-mask.result ≡ get_or c.args.masks.now c.loop-i.i 0 = search rules in
    let told = told_of _ _ _ c.args.masks.now c.loop-i.i c.is_erasable.ensures mask in
    elim c.if-is_erasable.branch [
      | then-is_erasable w ↦ rw (w.blocks-is, w.count-is) (kept_on _ 1024 c.loop-i.i c.loop-i.count c.loop-i.blocks c.loop-i.invariant told c.loop-i.i w.if-is_erasable.true (omega (arith, c.loop-i.invariant.few)) refl)
      | else-is_erasable w ↦ rw (w.blocks-is, w.count-is) (kept_off _ 1024 c.loop-i.i c.loop-i.count c.loop-i.blocks c.loop-i.invariant told w.if-is_erasable.false)
    ]
