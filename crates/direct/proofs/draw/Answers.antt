use Prim.Native.Nat.{ℕ}
use mathlib.Core.Path.{◌≡◌, subst, ◌∙◌}
use native.Mathlib.Omega.{arith}
use Rattle.read.proofs.Copies.{cleared_from, cleared_long, spot_low}
use Rattle.direct.specs.Direct.{drawn_from}
use Rattle.direct.proofs.Draws.{over_more, over_end, drawn_is}
use Rattle.direct.proofs.draw.Goals as goal

pub overflow_add-key : goal.overflow_add-key
overflow_add-key c = record { fits = omega (arith, spot_low c.args.path c.args.x c.args.n c.spot-key.ensures (omega arith) c.requires.2) }

pub lay-requires : goal.lay-requires
lay-requires c = let z = cleared_long _ c.args.buffer.now c.requires.1 (cleared_from _ _ c.requires.1 (omega arith) (c.fill.ensures.after (λ y e. e))) in
    (omega (arith, z, c.loop-j.invariant.0, c.requires.1), spot_low c.args.path c.args.x c.args.n c.spot-key.ensures (omega arith) c.requires.2)

pub loop-j-preserved : goal.loop-j-preserved
loop-j-preserved c = (c.lay.auto.buffer ∙ c.loop-j.invariant.0, over_more _ _ _ _ _ _ c.loop-j.j (omega arith) _ _ c.loop-j.invariant.1 c.lay.ensures)

pub shape_of-buffer : goal.shape_of-buffer
shape_of-buffer c = c.loop-j.invariant.0 ∙ cleared_long _ c.args.buffer.now c.requires.1 (cleared_from _ _ c.requires.1 (omega arith) (c.fill.ensures.after (λ y e. e)))

pub returns : goal.returns
returns c = subst (λ (k : ℕ). c.loop-j.buffer ≡ drawn_from c.args.contents.now c.args.xs.now c.args.begins.now k c.args.n c.args.buffer.now)
    c.spot-key.ensures
    (drawn_is _ _ _ _ _ (omega (arith, c.by_halves-low.ensures.0)) c.by_halves-last.ensures.0 c.args.buffer.now
    (cleared_from _ _ c.requires.1 (omega arith) (c.fill.ensures.after (λ y e. e))) (over_end _ _ _ _ _ _ c.loop-j.j (omega arith) _ _ c.loop-j.invariant.1))
