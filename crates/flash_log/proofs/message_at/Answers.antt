use Rattle.std.proofs.Common.{refl}
use Rattle.flash_log.proofs.Told.{found_is}
use Rattle.flash_log.proofs.message_at.Goals as goal

pub returns-in-Found : goal.returns-in-Found
returns-in-Found c = found_is _ _ _ c.parse.ensures c.embedded_limit.ensures refl c.in-Found.is c.in_page.ensures
