use mathlib.Core.Path.{◌≡◌, ◌∙◌}
use mathlib.Core.Bool.{true, false}
use Rattle.meaning.specs.Flash.{good_geometry}
use Rattle.label.proofs.Sure.{sure}
use Rattle.label.proofs.good_geometry.Goals.{then-good_size, else-good_size}
use Rattle.label.proofs.good_geometry.Goals as goal

pub returns-then-good_pages : goal.returns-then-good_pages
unfolding good_geometry
returns-then-good_pages c = elim c.if-good_size.branch [ then-good_size w ↦ (let e : w.good_pages.result ≡ true = cc in search sure) | else-good_size w ↦ cc ]

pub returns-else-good_pages : goal.returns-else-good_pages
unfolding good_geometry
returns-else-good_pages c = elim c.if-good_size.branch [ then-good_size w ↦ (let e : w.good_pages.result ≡ false = cc in c.if-good_pages.false ∙ search sure) | else-good_size w ↦ c.if-good_pages.false ∙ search sure ]
