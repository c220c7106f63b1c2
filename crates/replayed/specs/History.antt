-- "File byte i is the byte of the last write applied to it since the file's creation or last truncation, else 0.", told by the
-- messages and not by the extents.
use Rattle.std.specs.Prelude.{ℕ, ◌+◌, ◌-◌, Bool, ◌&&◌, List, [], ◌∷◌, eqb, ltb, leb}
use Rattle.std.proofs.Math.Option.{Option, none, some}
use Rattle.meaning.specs.declared.Extent.{Extent}
use Rattle.meaning.specs.declared.Message.{Message}
use Rattle.meaning.specs.declared.Message.TheVariants.{Create, Remove, Truncate, Write, Wstat}
use Rattle.base.specs.Choice.{if_true, if_eq}
use Rattle.meaning.specs.Log.{Entry}
use Rattle.meaning.specs.Replay.{Tree, judge, applies, changed, passed_over}

-- the messages that are applied, in order
unfoldable pub applied_of : List Entry → Tree → List Message
applied_of [] t = []
applied_of (e ∷ es) t =
    if_true (applies (judge e.message t.records))
    (e.message ∷ applied_of es (changed e.message t))
    (applied_of es (passed_over t))

-- the run holds byte i of file p
unfoldable pub holds : Extent → ℕ → ℕ → Bool
holds run p i = eqb run.path p && leb run.offset i && ltb i (run.offset + run.count)

-- the address of byte i of file p after one more applied message, where o was it before
unfoldable pub heard : ℕ → ℕ → Message → Option ℕ → Option ℕ
heard p i (Create parent perm path mtime cvers name uid gid) o = if_eq path p none o
heard p i (Remove path muid mtime) o = if_eq path p none o
heard p i (Truncate path mtime cvers muid) o = if_eq path p none o
heard p i (Write run mtime muid cvers) o = if_true (holds run p i) (some (run.address + (i - run.offset))) o
heard p i (Wstat path name uid gid muid perm mtime) o = o

unfoldable pub last_write : ℕ → ℕ → List Message → Option ℕ → Option ℕ
last_write p i [] o = o
last_write p i (m ∷ ms) o = last_write p i ms (heard p i m o)
