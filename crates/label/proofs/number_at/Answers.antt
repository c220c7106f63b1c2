use mathlib.Core.Path.{ap, ◌∙◌}
use Prim.Native.Nat.{◌/◌, min}
use Rattle.label.proofs.Said.{places}
use Rattle.label.proofs.number_at.Goals as goal

pub returns-then-size-eq0 : goal.returns-then-size-eq0
returns-then-size-eq0 c = search places

pub returns : goal.returns
returns c = c.min.ensures ∙ ap (λ k. min (c.args.a.0 / k) 4294967295) c.block_size-size.ensures
