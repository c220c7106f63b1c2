use Prim.Native.Nat.{◌-◌}
use mathlib.Core.Path.{◌≡◌}
use Rattle.text.specs.Put.{put}
use Rattle.dump.specs.Given.{labels_from, the_tag, the_path}
use Rattle.dump.proofs.put_labels.Given as goal

abbrev pub invariant-loop-k : goal.invariant-loop-k
invariant-loop-k l =
    (put l.tags l.k (labels_from the_tag l.s (l.n - l.k) l.i) ≡ put l.initial.tags 0 (labels_from the_tag l.s l.n l.at))
    × (put l.paths l.k (labels_from the_path l.s (l.n - l.k) l.i) ≡ put l.initial.paths 0 (labels_from the_path l.s l.n l.at))
