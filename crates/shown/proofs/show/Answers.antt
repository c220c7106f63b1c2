use mathlib.Core.Path.{sym, ◌∙◌}
use Rattle.std.proofs.lemmas.Result.{err_from_is_err_and}
use Rattle.shown.proofs.Mounts.{selected_no, selected_ready}
use Rattle.shown.proofs.show.Goals as goal

pub returns-in_err-p-clause-extents_after : goal.returns-in_err-p-clause-extents_after
returns-in_err-p-clause-extents_after c = let p = err_from_is_err_and c.from_residual.result c.from_residual.ensures.1 in rw (p.1, p.2) (sym (selected_no _ _ c.select.ensures c.in_err-p.was))

pub planned-requires : goal.planned-requires
planned-requires c = ((selected_ready _ _ c.select.ensures c.in_ok-p.was).0, c.requires)

pub returns-clause-extents_after : goal.returns-clause-extents_after
returns-clause-extents_after c = c.planned.ensures.extents_after ∙ sym (selected_ready _ _ c.select.ensures c.in_ok-p.was).1
