use Rattle.listing.specs.Lines.{run_line}
use Rattle.listing.proofs.Ways.{wrote_on, wrote_last}
use Rattle.listing.proofs.put_run.Goals as goal

pub returns : goal.returns
unfolding run_line
returns c = wrote_on _ _ c.put_byte-a.ensures (wrote_on _ _ c.put_field-b.ensures (wrote_on _ _ c.put_field-c.ensures (
    wrote_on _ _ c.put_byte-d.ensures (wrote_on _ _ c.put_byte-f.ensures (wrote_on _ _ c.put_field-g.ensures (
    wrote_last _ c.put_byte.ensures))))))
