use Prim.Native.Nat.{ℕ}
use mathlib.Core.Path.{◌≡◌, ap, ◌∙◌}
use mathlib.Core.List.{List}
use native.Mathlib.Omega.{arith}
use lib.ListN.{set}
use Rattle.tree.proofs.Shifts.{opens}
use Rattle.tree.proofs.keys.open_at.Goals as goal

-- the code puts v at j, which is i
put_at : (ys : List ℕ) (v : ℕ) {i j : ℕ} {zs : List ℕ} → j ≡ i → set ys i v ≡ zs → set ys j v ≡ zs
put_at ys v e f = ap (λ (k : ℕ). set ys k v) e ∙ f

pub returns : goal.returns
returns c = rw c.copy_within.ensures.after (put_at _ _ (omega arith) (opens c.args.xs.now c.args.n c.args.i c.args.v (omega arith) (omega arith)))
