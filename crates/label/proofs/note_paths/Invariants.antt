-- The invariant: each path before k has its mark.
use Rattle.label.specs.Search.{Noted}
use Rattle.label.proofs.note_paths.Given as goal

abbrev pub invariant-loop-path : goal.invariant-loop-path
invariant-loop-path l = Noted l.paths l.path-index l.marks
