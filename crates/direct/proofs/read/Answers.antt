use native.Mathlib.Omega.{arith}
use Rattle.direct.proofs.Draws.{few_begins, no_read, yes_read, none_read}
use Rattle.direct.proofs.read.Goals as goal

pub returns-then-begins-xs : goal.returns-then-begins-xs
returns-then-begins-xs c = let h = few_begins _ _ _ _ _ _ c.if-begins-xs.true in record { result_value = h.0; buffer_after = h.1 }

pub returns-then-is_dir : goal.returns-then-is_dir
returns-then-is_dir c = let h = no_read c.args.contents.now c.args.f c.args.xs.now c.args.begins.now c.args.x c.args.buffer.now c.if-begins-xs.false c.is_dir.ensures c.if-is_dir.true in
    record { result_value = rw c.from.ensures h.0; buffer_after = h.1 }

pub returns-then-n-gt0 : goal.returns-then-n-gt0
returns-then-n-gt0 c = let h = yes_read _ _ _ _ _ _ c.if-begins-xs.false c.is_dir.ensures c.if-is_dir.false (omega (arith, c.count-n.ensures)) c.draw.ensures in record { result_value = h.0; buffer_after = h.1 }

pub returns-else-n-gt0 : goal.returns-else-n-gt0
returns-else-n-gt0 c = let h = none_read _ _ _ _ _ _ c.if-begins-xs.false c.is_dir.ensures c.if-is_dir.false (omega (arith, c.count-n.ensures)) c.if-n-gt0.false in record { result_value = h.0; buffer_after = h.1 }
