use mathlib.Core.Path.{◌∙◌}
use native.Mathlib.Omega.{arith}
use Rattle.read.proofs.Copies.{row_sound, within_all, copy_on, copy_first, copy_end, cleared_from, cleared_long, buffer_long, spot_low, few_rows}
use Rattle.read.proofs.copy.Goals as goal

pub below-low-requires : goal.below-low-requires
below-low-requires c = (omega arith, within_all _ c.requires.1)

pub overflow_add-key : goal.overflow_add-key
overflow_add-key c = record { fits = omega (arith, spot_low c.args.path c.args.x c.args.n c.spot-key.ensures (omega arith) c.requires.3) }

pub below-last-requires : goal.below-last-requires
below-last-requires c = (omega arith, within_all _ c.requires.1)

pub loop-j-init : goal.loop-j-init
loop-j-init c = copy_first _ c.requires.1 _ _ _ _ _ c.below-low.result c.spot-key.ensures c.below-low.ensures
    (omega arith) c.args.buffer.now (cleared_from _ _ c.requires.2 (omega arith) (c.fill.ensures.after (λ y e. e)))

pub offset_bounds-xs-j : goal.offset_bounds-xs-j
offset_bounds-xs-j c = record { fits = omega (arith, few_rows c.args.xs.now _ c.below-last.result c.below-last.ensures) }

pub bounds-xs-j : goal.bounds-xs-j
bounds-xs-j c = omega (arith, few_rows c.args.xs.now _ c.below-last.result c.below-last.ensures)

pub draw-requires : goal.draw-requires
draw-requires c = let z = cleared_long _ _ c.requires.2
    (cleared_from _ _ c.requires.2 (omega arith) (c.fill.ensures.after (λ y e. e))) in
    let y = buffer_long _ _ _ _ (omega (arith, z, c.requires.2)) c.loop-j.invariant in
    let row = row_sound _ c.requires.1 c.loop-j.j (omega (arith, few_rows c.args.xs.now _ c.below-last.result c.below-last.ensures)) in
    let key = spot_low c.args.path c.args.x c.args.n c.spot-key.ensures (omega arith)
    c.requires.3 in
    (c.requires.0, row, omega (arith, y, z, c.requires.2), key)

pub loop-j-preserved : goal.loop-j-preserved
loop-j-preserved c = copy_on _ c.requires.1 _ _ _ _ _ c.loop-j.j (omega (arith, few_rows c.args.xs.now _ c.below-last.result c.below-last.ensures)) _
    c.spot-key.ensures c.loop-j.invariant c.draw.ensures

pub shape_of-buffer : goal.shape_of-buffer
shape_of-buffer c = let z = cleared_long _ _ c.requires.2 (cleared_from _ _ c.requires.2 (omega arith) (c.fill.ensures.after (λ y e. e))) in
    buffer_long _ _ _ _ (omega (arith, z, c.requires.2)) c.loop-j.invariant ∙ z

pub returns : goal.returns
returns c = copy_end _ c.requires.1 _ _ _ _ _ c.below-last.result c.loop-j.j c.spot-key.ensures
    (omega arith) c.below-last.ensures c.loop-j-test.false c.args.buffer.now _ (cleared_from _ _ c.requires.2 (omega arith) (c.fill.ensures.after (λ y e. e))) c.loop-j.invariant
