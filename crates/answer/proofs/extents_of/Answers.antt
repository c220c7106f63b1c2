use Prim.Native.Nat.{ℕ}
use native.Mathlib.Omega.{arith}
use mathlib.Core.Path.{◌≡◌, refl, subst, ◌∙◌}
use mathlib.Core.List.{[], map}
use lib.ListN.{take, length-set}
use Rattle.extent.specs.Rows.{extent_of}
use Rattle.base.proofs.Lists.{map_on}
use borrow.Author.Rules.{rules}
use Rattle.answer.proofs.extents_of.Goals as goal

pub loop-k-init : goal.loop-k-init
loop-k-init c = (search rules, refl)

pub loop-k-preserved : goal.loop-k-preserved
loop-k-preserved c = (length-set c.loop-k.extents c.loop-k.k _ ∙ c.loop-k.invariant.0, map_on extent_of [] c.args.rows.now c.loop-k.extents c.loop-k.k c.loop-k.invariant.1 (omega arith) (omega arith))

pub returns : goal.returns
returns c = let e : c.loop-k.k ≡ c.args.n = omega arith in
    subst (λ (n : ℕ). take n c.loop-k.extents ≡ map extent_of (take n c.args.rows.now)) e c.loop-k.invariant.1
