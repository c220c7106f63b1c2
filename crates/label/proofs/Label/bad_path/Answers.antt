use native.Mathlib.Omega.{arith}
use mathlib.Core.Path.{◌∙◌}
use Rattle.std.proofs.lemmas.Bool.Decides.{nat_tests}
use Rattle.meaning.specs.Flash.{tag_of}
use Rattle.label.proofs.Said.{path_free, path_log_large, path_log, path_large, path_other}
use Rattle.label.proofs.Label.bad_path.Goals as goal

pub returns-in-Free : goal.returns-in-Free
returns-in-Free c = grind (arith, nat_tests, path_free (tag_of c.args.self.tag) c.args.self.path c.in-Free.ensures)

pub returns-then-self-ge-PATHS : goal.returns-then-self-ge-PATHS
returns-then-self-ge-PATHS c = path_log_large _ _ c.in-Log.ensures (omega arith)

pub returns-else-self-ge-PATHS : goal.returns-else-self-ge-PATHS
returns-else-self-ge-PATHS c = path_log _ _ c.in-Log.ensures (omega arith)

pub returns-then-self-ge-PATHS-2 : goal.returns-then-self-ge-PATHS-2
returns-then-self-ge-PATHS-2 c = path_large _ _ (λ e. c.in_default.not-Free (c.means.ensures ∙ e)) (omega arith)

pub returns-else-self-ge-PATHS-2 : goal.returns-else-self-ge-PATHS-2
returns-else-self-ge-PATHS-2 c = path_other _ _ (λ e. c.in_default.not-Free (c.means.ensures ∙ e)) (λ e. c.in_default.not-Log (c.means.ensures ∙ e)) (omega arith)
