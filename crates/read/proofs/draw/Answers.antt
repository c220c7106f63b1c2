use Rattle.std.proofs.Common.{arith, ◌∙◌}
use Rattle.read.proofs.Draws.{bounds, max_larger, from_key, from_start, to_count, piece_long, drawn_some, drawn_none}
use Rattle.read.proofs.draw.Goals as goal

pub overflow_sub-a : goal.overflow_sub-a
overflow_sub-a c = let h = bounds c.start_of-s.ensures c.end_of-e.ensures
    (c.max-from.ensures ∙ max_larger _ _) c.min-to.ensures in from_start h

pub overflow_cast-a : goal.overflow_cast-a
overflow_cast-a c = let h = bounds c.start_of-s.ensures c.end_of-e.ensures (c.max-from.ensures ∙ max_larger _ _)
    c.min-to.ensures in
    record { fits = omega (arith, from_start h, to_count h, c.requires.1.fit.flash) }

pub overflow_add-a : goal.overflow_add-a
overflow_add-a c = let h = bounds c.start_of-s.ensures c.end_of-e.ensures (c.max-from.ensures ∙ max_larger _ _)
    c.min-to.ensures in
    record { fits = omega (arith, from_start h, to_count h, c.requires.1.fit.flash) }

pub overflow_sub-begin : goal.overflow_sub-begin
overflow_sub-begin c = let h = bounds c.start_of-s.ensures c.end_of-e.ensures
    (c.max-from.ensures ∙ max_larger _ _) c.min-to.ensures in from_key h

pub overflow_sub-end : goal.overflow_sub-end
overflow_sub-end c = let h = bounds c.start_of-s.ensures c.end_of-e.ensures
    (c.max-from.ensures ∙ max_larger _ _) c.min-to.ensures in omega (arith, from_key h)

pub slice_bounds-copy_run-count : goal.slice_bounds-copy_run-count
slice_bounds-copy_run-count c = let h = bounds c.start_of-s.ensures c.end_of-e.ensures
    (c.max-from.ensures ∙ max_larger _ _) c.min-to.ensures in omega (arith, from_key h)

pub slice_bounds-copy_run-end : goal.slice_bounds-copy_run-end
slice_bounds-copy_run-end c = let h = bounds c.start_of-s.ensures c.end_of-e.ensures (c.max-from.ensures ∙ max_larger _ _)
    c.min-to.ensures in
    omega (arith, from_key h, h.t_is, c.requires.2)

pub copy_run-requires : goal.copy_run-requires
copy_run-requires c = let h = bounds c.start_of-s.ensures c.end_of-e.ensures
    (c.max-from.ensures ∙ max_larger _ _) c.min-to.ensures in
    (c.requires.0, omega (arith, piece_long h c.args.buffer.now c.requires.2 c.if-from-to.true, from_start h, to_count h, c.requires.1.fit.flash))

pub returns-then-from-to : goal.returns-then-from-to
returns-then-from-to c = let h = bounds c.start_of-s.ensures
    c.end_of-e.ensures (c.max-from.ensures ∙ max_larger _ _)
    c.min-to.ensures in
    drawn_some h c.args.buffer.now c.requires.2 c.if-from-to.true _ _ c.copy_run.ensures

pub returns-else-from-to : goal.returns-else-from-to
returns-else-from-to c = let h = bounds c.start_of-s.ensures c.end_of-e.ensures
    (c.max-from.ensures ∙ max_larger _ _) c.min-to.ensures in drawn_none h _ _ _ c.if-from-to.false
