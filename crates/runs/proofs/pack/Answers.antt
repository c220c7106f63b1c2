-- What scratch begins with goes to the front of the arena.
use mathlib.Core.Path.{◌≡◌, ◌∙◌, sym}
use lib.ListN.{length, take}
use Rattle.runs.specs.Runs.{gather_rows}
use Rattle.runs.proofs.Lists.{put_front}
use Rattle.runs.proofs.Slots.{rows_length}
use Rattle.runs.proofs.pack.Goals as goal

pub close_up-requires : goal.close_up-requires
close_up-requires c = (c.requires.0, c.requires.1, (λ t i. (c.requires.2 t i).0), c.requires.3)

pub returns : goal.returns
returns c = let ss = take c.args.n c.args.slots.now in
    let ys = gather_rows c.args.spans.now c.args.rows.now ss in
    let l : c.gathered-m.result ≡ length ys = c.gathered-m.ensures.0 ∙ sym (rows_length c.args.spans.now c.args.rows.now ss c.requires.2) in (
      c.gathered-m.ensures.0,
      c.close_up.ensures,
      put_front c.args.rows.now c.args.scratch.now _ ys _ c.gathered-m.result c.gathered-m.ensures.1 l c.copy_from_slice.ensures.after,
    )
