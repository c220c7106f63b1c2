use Rattle.lister.proofs.Whole.{mount_wrote}
use Rattle.lister.proofs.put_mount.Goals as goal

pub returns : goal.returns
returns c = mount_wrote c.args.r.now c.args.rows.now c.args.contents.now c.requires.1 c.requires.2 c.put_total-line.ensures c.put_files.ensures
