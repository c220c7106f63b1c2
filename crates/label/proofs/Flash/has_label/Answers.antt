use native.Mathlib.Omega.{arith}
use mathlib.Core.Path.{sym, ◌∙◌}
use lib.ListN.{length}
use borrow.Author.Tests.{lt-ltb}
use Rattle.label.proofs.Paths.{none_labelled}
use Rattle.label.proofs.Flash.has_label.Goals.{then-self, else-self}
use Rattle.label.proofs.Flash.has_label.Goals as goal

pub returns-else-has_path : goal.returns-else-has_path
returns-else-has_path c = elim c.if-self.branch [
  | then-self w ↦ (let e = lt-ltb (length c.args.self.now.paths.now) (length c.args.self.now.tags.now) w.if-self.true in cc)
  | else-self w ↦ c.if-has_path.false ∙ none_labelled c.args.self.now.tags.now c.args.self.now.paths.now _ c.args.path (omega arith) w.has_path.ensures (sym w.value-is ∙ c.if-has_path.false)
]
