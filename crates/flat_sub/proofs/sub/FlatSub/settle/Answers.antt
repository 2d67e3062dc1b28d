use Rattle.std.proofs.Common.{rules}
use Rattle.std.specs.FinMap.{from_entries}
use Rattle.flat_sub.proofs.Marks.{AreMarked, marked_of, marked_more}
use Rattle.flat_sub.proofs.sub.FlatSub.settle.Goals as goal

pub returns-clause-kept : goal.returns-clause-kept
returns-clause-kept c = λ kept.
    let before = c.args.self.now in
    let more : AreMarked (from_entries c.put_entry.new.entries.items) c.max-self.result =
    marked_more (from_entries before.dir_indexes.items) _ c.args.dir c.args.index before.last_index c.max-greatest.result c.max-self.result (marked_of before kept) c.put_entry.ensures.map (search rules) (search rules) in
    record {
      marked = c.requires.list.marked;
      in_order = c.requires.list.in_order;
      inodes_rise = kept.inodes_rise;
      indexes_rise = c.put_entry.ensures.rising kept.indexes_rise;
      covered = more.covered;
      least = more.least;
      each_least = more.each_least;
    }
