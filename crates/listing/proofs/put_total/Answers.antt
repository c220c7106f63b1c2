use Rattle.listing.specs.Lines.{total_line}
use Rattle.listing.proofs.Ways.{wrote_on, wrote_last}
use Rattle.listing.proofs.put_total.Goals as goal

pub returns : goal.returns
unfolding total_line
returns c = wrote_on _ _ c.put_byte-a.ensures (wrote_on _ _ c.put_field-b.ensures (wrote_on _ _ c.put_field-c.ensures (
    wrote_on _ _ c.put_field-d.ensures (wrote_on _ _ c.put_field-e.ensures (wrote_on _ _ c.put_insertion-f.ensures (
    wrote_last _ c.put_byte.ensures))))))
