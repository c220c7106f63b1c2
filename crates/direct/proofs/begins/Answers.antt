use Rattle.label.specs.Lent.{lent_of}
use Rattle.std.proofs.lemmas.Result.{err_from_is_err_and}
use Rattle.shown.proofs.Mounts.{selected_ready}
use Rattle.direct.proofs.Places.{few_places, by_labels, some_torn, all_begun}
use Rattle.direct.proofs.begins.Goals as goal

pub returns-then-places-xs : goal.returns-then-places-xs
returns-then-places-xs c = let h = few_places _ (lent_of c.args.flash.now) _ _ c.if-places-xs.true in record { xs_value = h.0; places_after = h.1 }

pub returns-in_err-p : goal.returns-in_err-p
returns-in_err-p c = let q = err_from_is_err_and c.from_residual.result c.from_residual.ensures.1 in
    let h = by_labels _ _ _ _ c.if-places-xs.false c.select.ensures c.in_err-p.was in
    record { xs_value = rw (q.1, q.2) h.0; places_after = h.1 }

pub are_whole-requires : goal.are_whole-requires
are_whole-requires c = (selected_ready _ _ c.select.ensures c.in_ok-p.was).0

pub returns-then-not-are_whole : goal.returns-then-not-are_whole
returns-then-not-are_whole c = let h = some_torn _ _ _ _ c.if-places-xs.false c.select.ensures c.in_ok-p.was c.are_whole.ensures c.if-not-are_whole.true in record { xs_value = h.0; places_after = h.1 }

pub put_places-requires : goal.put_places-requires
put_places-requires c = ((selected_ready _ _ c.select.ensures c.in_ok-p.was).0, c.if-places-xs.false)

pub returns : goal.returns
returns c = let h = all_begun _ _ _ _ c.if-places-xs.false c.select.ensures c.in_ok-p.was c.are_whole.ensures c.if-not-are_whole.false c.put_places.ensures in record { xs_value = h.0; places_after = h.1 }
