use native.Mathlib.Omega.{arith}
use Rattle.std.proofs.lemmas.Grind.{common_steps}
use Rattle.dump.specs.Given.{contents_after, content_bytes}
use Rattle.dump.proofs.Loops.{put_same}
use Rattle.dump.proofs.parse_from.Goals as goal

pub returns-clause-contents_after : goal.returns-clause-contents_after
unfolding contents_after content_bytes
returns-clause-contents_after c = grind (arith, common_steps, put_same, c.fill.ensures.after (λ y h. h))
