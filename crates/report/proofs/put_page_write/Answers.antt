use Rattle.report.specs.Lines.{write_line}
use Rattle.listing.proofs.Ways.{wrote_on, wrote_last}
use Rattle.report.proofs.put_page_write.Goals as goal

pub returns : goal.returns
unfolding write_line
returns c = wrote_on _ _ c.put_step_head-a.ensures (wrote_on _ _ c.put_field-b.ensures (wrote_on _ _ c.put_field-c.ensures (wrote_on _ _ c.put_field-d.ensures (wrote_last _ c.put_byte.ensures))))
