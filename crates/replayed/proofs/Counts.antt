-- What the two counts of a replay say.
use mathlib.Core.Path.{◌≡◌}
use Prim.Native.Nat.{◌+◌}
use native.Mathlib.Omega.{arith}
use lib.ListN.{length}
use Rattle.meaning.specs.Answer.{ok}
use Rattle.meaning.specs.Log.{Log}
use Rattle.meaning.specs.Replay.{Tree, changed, passed_over, bare, replay}
use Rattle.replayed.specs.History.{applied_of}
use Rattle.replayed.proofs.Keeps.{told_all, replay_told}

-- "A message failing its test is ignored and counted.": every message is counted once
pub counted : (log : Log) (t : Tree) → replay log ≡ ok t
    → (t.applied ≡ length (applied_of log.entries bare)) × (t.applied + t.ignored ≡ length log.entries)
unfolding bare changed passed_over
counted log t h =
    let both : (t.applied ≡ 0 + length (applied_of log.entries bare)) × (t.applied + t.ignored ≡ 0 + 0 + length log.entries) =
    told_all (λ es t ms u. (u.applied ≡ t.applied + length ms) × (u.applied + u.ignored ≡ t.applied + t.ignored + length es))
    (λ t. (omega arith, omega arith)) (λ e es t ms u a f ih. (omega arith, omega arith)) (λ e es t ms u ih. (omega arith, omega arith))
    log.entries bare t (replay_told log t h) in
    (omega arith, omega arith)
