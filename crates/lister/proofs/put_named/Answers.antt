use Rattle.lister.proofs.Lists.{name_wrote}
use Rattle.lister.proofs.put_named.Goals as goal

pub returns : goal.returns
returns c = name_wrote c.args.f c.args.contents.now c.min-from.ensures c.min-len.ensures c.put_file.ensures
