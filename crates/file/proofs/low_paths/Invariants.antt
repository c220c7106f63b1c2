use Prim.Native.Nat.{ℕ, ◌<◌, ◌^◌}
use mathlib.Core.List.{[]}
use lib.ListN.{get_or}
use Rattle.file.proofs.low_paths.Given as goal

abbrev pub invariant-loop-row : goal.invariant-loop-row
invariant-loop-row l = (i : ℕ) → i < l.row-index → get_or (get_or l.xs i []) 0 0 < 2 ^ 32
