use Rattle.report.specs.Lines.{label_line}
use Rattle.listing.proofs.Ways.{wrote_on, wrote_last}
use Rattle.report.proofs.put_label_write.Goals as goal

pub returns : goal.returns
unfolding label_line
returns c = wrote_on _ _ c.put_step_head-a.ensures (wrote_on _ _ c.put_field-b.ensures (wrote_on _ _ c.put_byte-c.ensures (wrote_on _ _ c.put_hex-d.ensures (wrote_on _ _ c.put_field-e.ensures (wrote_last _ c.put_byte.ensures)))))
