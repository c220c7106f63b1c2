use native.Mathlib.Omega.{arith}
use Rattle.plan.proofs.Shared.{alone_fine}
use Rattle.plan.proofs.is_clashing.Goals as goal

pub returns-then-counts-low-lt2 : goal.returns-then-counts-low-lt2
returns-then-counts-low-lt2 c = alone_fine c.args.flash.now.tags.now c.args.flash.now.paths.now c.args.counts.now _ _ _ c.requires c.if-flash.true c.path_at.ensures
    c.low_bits-low.ensures.0 (omega arith)
