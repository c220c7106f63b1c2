use mathlib.Core.Path.{◌≡◌, ◌∙◌}
use mathlib.Core.Bool.{true, false}
use lib.ListN.{length}
use borrow.Author.Tests.{le-ltb}
use Rattle.meaning.specs.Labels.{counts}
use Rattle.label.proofs.Sure.{sure}
use Rattle.label.proofs.Flash.counts.Goals.{then-b-self, else-b-self}
use Rattle.label.proofs.Flash.counts.Goals as goal

pub returns-then-is_tag : goal.returns-then-is_tag
unfolding counts
returns-then-is_tag c = elim c.if-b-self.branch [ then-b-self w ↦ (let e : w.is_tag.result ≡ true = cc in search sure) | else-b-self w ↦ (let e = le-ltb c.args.b.0 (length c.args.self.now.tags.now) w.if-b-self.false in cc) ]

pub returns-else-is_tag : goal.returns-else-is_tag
unfolding counts
returns-else-is_tag c = elim c.if-b-self.branch [ then-b-self w ↦ (let e : w.is_tag.result ≡ false = cc in c.if-is_tag.false ∙ search sure) | else-b-self w ↦ c.if-is_tag.false ∙ search sure ]
