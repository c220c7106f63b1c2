use Prim.Native.Nat.{◌+◌, ◌-◌}
use mathlib.Core.Path.{◌≡◌}
use Rattle.text.specs.Put.{put}
use Rattle.dump.specs.Given.{bytes_from}
use Rattle.dump.proofs.put_bytes.Given as goal

abbrev pub invariant-loop-k : goal.invariant-loop-k
invariant-loop-k l = put l.l l.k (bytes_from l.s (l.from + l.count - l.k) l.i) ≡ put l.initial.l l.from (bytes_from l.s l.count l.at)
