use Rattle.tree.proofs.Laws.{entry_slot, entry_hit, entry_on, entry_end}
use Rattle.tree.proofs.is_empty.Goals as goal

pub bounds-t-s : goal.bounds-t-s
bounds-t-s c = entry_slot c.args.t.now c.requires c.args.p c.loop-s.s-index c.loop-s-test.true

pub returns-then-is_entry : goal.returns-then-is_entry
returns-then-is_entry c = entry_hit c.args.t.now c.requires c.args.p c.loop-s.s-index c.loop-s.invariant c.loop-s-test.true c.is_entry.result c.is_entry.ensures c.if-is_entry.true

pub loop-s-preserved : goal.loop-s-preserved
loop-s-preserved c = entry_on c.args.t.now c.requires c.args.p c.loop-s.s-index c.loop-s.invariant c.loop-s-test.true c.is_entry.result c.is_entry.ensures c.if-is_entry.false

pub returns : goal.returns
returns c = entry_end c.args.t.now c.requires c.args.p c.loop-s.s-index c.loop-s.invariant c.loop-s-test.false
