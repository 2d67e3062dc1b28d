use Rattle.disk_model.specs.Disk.{held_first}
use Rattle.disk_memory.specs.Record.{told_by}
use Rattle.disk_memory.proofs.States.{state_all, state_begins, state_more}
use Rattle.disk_memory.proofs.kept.Kept.state_of.Goals as goal

pub loop-entry-preserved : goal.loop-entry-preserved
loop-entry-preserved c =
    let kept = c.args.self.now in
    let first = kept.first.items.items in
    let entries = kept.entries.items in
    state_more (held_first (told_by first entries)) entries c.deref-entry-items.result.now c.loop-entry.entry-index c.entry-item.result c.args.at c.loop-entry.state.pending c.loop-entry.state.lost c.follow.new.self.pending c.follow.new.self.lost
    c.deref-entry-items.ensures.value c.loop-entry-test.true c.entry-item.is c.loop-entry.invariant c.follow.ensures.pending c.follow.ensures.lost

pub returns : goal.returns
returns c =
    let kept = c.args.self.now in
    state_all kept.first.items.items kept.entries.items c.deref-entry-items.result.now c.loop-entry.entry-index c.args.at c.loop-entry.state.pending c.loop-entry.state.lost c.deref-entry-items.ensures.value c.loop-entry-test.false c.loop-entry.invariant
