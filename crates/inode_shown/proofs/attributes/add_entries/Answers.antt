use Rattle.std.proofs.Common.{refl}
use Rattle.blk_base.specs.Entries.{EntryValue}
use Rattle.item_dir.specs.Entry.{entry_view}
use Rattle.inode_shown.proofs.Said.{one_put}
use Rattle.inode_shown.proofs.attributes.add_entries.Goals as goal

pub loop-entry-preserved : goal.loop-entry-preserved
loop-entry-preserved c =
    let first : EntryValue = entry_view c.in-Some.entry in
    record {
      put = one_put c.loop-entry.attributes.entries c.insert.new.self.entries c.in-Some.entry.name c.in-Some.entry.value first c.loop-entry.entry-iterator c.next.new.self _ c.loop-entry.invariant.put c.in-Some.ensures.steps refl refl c.in_ok-insert.ensures.entries;
      can_next = tt;
      is_finite = tt;
    }
