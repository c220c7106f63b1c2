use Rattle.report.specs.Lines.{data_line}
use Rattle.listing.proofs.Ways.{wrote_on, wrote_last}
use Rattle.report.proofs.put_data.Goals as goal

pub returns : goal.returns
unfolding data_line
returns c = wrote_on _ _ c.put_byte-a.ensures (wrote_on _ _ c.put_field-b.ensures (wrote_on _ _ c.put_field-c.ensures (wrote_on _ _ c.put_byte-d.ensures (wrote_on _ _ c.put_bytes-e.ensures (wrote_last _ c.put_byte.ensures)))))
