use mathlib.Core.Path.{sym}
use native.Mathlib.Omega.{arith}
use Rattle.std.proofs.lemmas.Result.{err_from_is_err_and}
use Rattle.shown.proofs.Mounts.{selected_no, selected_ready}
use Rattle.file.proofs.Files.{refused_reads, absent_reads, plain_reads, none_reads, none_of, rows_within}
use Rattle.file.proofs.read.Goals as goal

pub returns-in_err-p : goal.returns-in_err-p
returns-in_err-p c = let q = err_from_is_err_and c.from_residual.result c.from_residual.ensures.1 in
    let r = refused_reads _ _ _ _ c.args.buffer.now (selected_no _ _ c.select.ensures c.in_err-p.was) in
    record { result_value = rw (q.1, q.2) r.0; buffer_after = r.1 }

pub returns-in_err-show : goal.returns-in_err-show
returns-in_err-show c = let q = err_from_is_err_and c.from_residual-in_err-show.result c.from_residual-in_err-show.ensures.1 in
    let r = refused_reads _ _ _ _ c.args.buffer.now (sym c.in_err-show.ensures.extents_after) in
    record { result_value = rw (q.1, q.2) r.0; buffer_after = r.1 }

pub returns-in_err-length : goal.returns-in_err-length
returns-in_err-length c = let q = err_from_is_err_and c.from_residual-in_err-length.result c.from_residual-in_err-length.ensures.1 in
    let v = none_of c.in_err-length.ensures.value c.in_err-length.ensures.ok_part in
    let r = absent_reads _ _ _ _ c.args.buffer.now c.show.new.shown _ c.in_ok-show.ensures.extents_after c.length_of.ensures.value c.in_err-length.ensures.ok_part in
    record { result_value = rw (q.1, q.2, v) r.0; buffer_after = r.1 }

pub copy-requires : goal.copy-requires
copy-requires c = (
  (selected_ready _ _ c.select.ensures c.in_ok-p.was).0,
  rows_within _ _ c.in_ok-show.ensures.sized.5 c.low_paths.ensures,
  omega arith,
  omega arith,
)

pub returns-then-n-gt0 : goal.returns-then-n-gt0
returns-then-n-gt0 c = let r = plain_reads _ _ _ _ c.args.buffer.now c.show.new.shown _ c.in_ok-show.ensures.extents_after c.length_of.ensures.value c.in_ok-length.ensures.ok_part c.count-n.ensures c.copy.ensures in
    record { result_value = r.0; buffer_after = r.1 }

pub returns-else-n-gt0 : goal.returns-else-n-gt0
returns-else-n-gt0 c = let r = none_reads _ _ _ _ c.args.buffer.now c.show.new.shown _ c.in_ok-show.ensures.extents_after c.length_of.ensures.value c.in_ok-length.ensures.ok_part c.count-n.ensures c.if-n-gt0.false in
    record { result_value = r.0; buffer_after = r.1 }
