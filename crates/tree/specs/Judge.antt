-- The tests of `judge` that are left once the record is found.
use Rattle.std.specs.Prelude.{ℕ, Bool}
use Rattle.std.specs.Bool.{xor}
use Rattle.meaning.specs.declared.Place.{Place}
use Rattle.meaning.specs.declared.Record.{Record}
use Rattle.meaning.specs.declared.Verdict.{Verdict}
use Rattle.meaning.specs.declared.Verdict.TheVariants.{Applied, ParentNoDirectory, PathTaken, TheRoot, NotEmpty, Directory, OtherVersion, DirectoryBit, RootName}
use Rattle.base.specs.Choice.{if_true, if_eq}
use Rattle.meaning.specs.Replay.{is_dir, bit31, given}

-- d is the parent; taken: the new path exists
unfoldable pub judge_create : Record → Bool → Verdict
judge_create d taken = if_true (is_dir d) (if_true taken PathTaken Applied) ParentNoDirectory

unfoldable pub judge_remove : ℕ → Record → Bool → Verdict
judge_remove path f empty = if_eq path 0 TheRoot (if_true (is_dir f) (if_true empty Applied NotEmpty) Applied)

unfoldable pub judge_truncate : Record → Verdict
judge_truncate f = if_true (is_dir f) Directory Applied

unfoldable pub judge_write : Record → ℕ → Verdict
judge_write f cvers = if_true (is_dir f) Directory (if_eq cvers f.cvers Applied OtherVersion)

unfoldable pub judge_wstat : ℕ → Record → Place → ℕ → Verdict
judge_wstat path f name perm =
    if_true (xor (is_dir f) (bit31 (given perm f.perm))) DirectoryBit
    (if_eq path 0 (if_eq name.len 0 Applied RootName) Applied)
