use Rattle.listing.specs.Lines.{record_text}
use Rattle.listing.proofs.Ways.{wrote_on, wrote_last}
use Rattle.listing.proofs.put_record.Goals as goal

pub returns : goal.returns
unfolding record_text
returns c = wrote_on _ _ c.put_byte-a.ensures (wrote_on _ _ c.put_field-b.ensures (wrote_on _ _ c.put_field-c.ensures (
    wrote_on _ _ c.put_field-d.ensures (wrote_on _ _ c.put_field-e.ensures (wrote_on _ _ c.put_field-g.ensures (
    wrote_last _ c.put_field.ensures))))))
