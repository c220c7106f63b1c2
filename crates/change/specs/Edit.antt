-- What a message would do, by the file that bears its path.
use Rattle.std.specs.Prelude.{ℕ, Bool, Option, Some, None}
use Rattle.meaning.specs.declared.Message.{Message}
use Rattle.meaning.specs.declared.Message.TheVariants.{Create, Remove, Truncate, Write, Wstat}
use Rattle.meaning.specs.declared.Record.{Record}
use Rattle.base.specs.Choice.{if_true, if_eq}
use Rattle.meaning.specs.Replay.{applies, created, truncated, written, restated, stamp}
use Rattle.tree.specs.Judge.{judge_truncate, judge_write, judge_wstat}
use Rattle.change.specs.declared.edit.Edit.{Edit}
use Rattle.change.specs.declared.edit.Edit.TheVariants.{Ignored, Written, Truncated, Restated, Removed}

-- the path of the file that a message speaks of
unfoldable pub subject : Message → ℕ
subject (Create parent perm path mtime cvers name uid gid) = path
subject (Remove path muid mtime) = path
subject (Truncate path mtime cvers muid) = path
subject (Write run mtime muid cvers) = run.path
subject (Wstat path name uid gid muid perm mtime) = path

-- what a message does, if it applies
unfoldable pub edit_if : Bool → Edit → Edit
edit_if b e = if_true b e Ignored

-- where the file f of that path is there; of a remove, whether f is empty is not asked yet
unfoldable pub edit_of : Message → Record → Edit
edit_of (Create parent perm path mtime cvers name uid gid) f = Ignored
edit_of (Remove path muid mtime) f = if_eq path 0 Ignored Removed
edit_of (Truncate path mtime cvers muid) f = edit_if (applies (judge_truncate f)) (Truncated (truncated mtime cvers muid f))
edit_of (Write run mtime muid cvers) f = edit_if (applies (judge_write f cvers)) (Written run (written run mtime muid f))
edit_of (Wstat path name uid gid muid perm mtime) f = edit_if (applies (judge_wstat path f name perm)) (Restated (restated name perm uid gid mtime muid f))

-- the record of a new file, where there is none of that path
unfoldable pub newborn : Message → Option Record
newborn (Create parent perm path mtime cvers name uid gid) = Some (created parent perm path mtime cvers name uid gid)
newborn (Remove path muid mtime) = None
newborn (Truncate path mtime cvers muid) = None
newborn (Write run mtime muid cvers) = None
newborn (Wstat path name uid gid muid perm mtime) = None

-- what the parent takes of a remove
unfoldable pub stamped_by : Message → Record → Record
stamped_by (Create parent perm path mtime cvers name uid gid) f = f
stamped_by (Remove path muid mtime) f = stamp mtime muid f
stamped_by (Truncate path mtime cvers muid) f = f
stamped_by (Write run mtime muid cvers) f = f
stamped_by (Wstat path name uid gid muid perm mtime) f = f
