-- What the host lends, as the code holds it.
use Rattle.std.specs.Prelude.{ℕ, length}
use Rattle.meaning.specs.Flash as meaning
use Rattle.meaning.specs.Flash.{labels_of, image_of}
use Rattle.meaning.specs.declared.Tag.{Tag}
use Rattle.meaning.specs.Labels.{view}
use Rattle.std.proofs.Math.Option.{Option}
use Rattle.label.specs.declared.Flash.{Flash}

-- how many blocks have a label
abbrev pub blocks : Flash → ℕ
blocks m = length m.tags.now

abbrev pub labels : Flash → meaning.Labels
labels m = labels_of m.tags.now m.paths.now

abbrev pub lent_of : Flash → meaning.Lent
lent_of m = record { tags = m.tags.now; paths = m.paths.now; contents = m.contents.now }

abbrev pub image : Flash → meaning.Image
image m = image_of m.geometry (lent_of m)

-- what the labels show of a place among the blocks of tag t
abbrev pub view_of : Flash → Tag → ℕ → Option ℕ
view_of m t = view (blocks m) (labels m) t
