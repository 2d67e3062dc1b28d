use Rattle.std.proofs.Common.{◌≡◌, List, ap, ◌∙◌, arith, rules}
use Rattle.std.specs.Ordering.{nat_cmp}
use Rattle.std.specs.FinMap.{from_entries, insert, is_sorted}
use Rattle.flat_model.specs.Names.{FlatName, is_name_set}
use Rattle.flat_sub.specs.View.{name_view, names_view}
use Rattle.flat_model.proofs.NameSets.{is_name_set_add}
use Rattle.flat_sub.proofs.Marks.{AreMarked, marked_of, marked_more}
use Rattle.flat_sub.proofs.sub.FlatSub.add_name.Goals as goal

pub returns-clause-kept : goal.returns-clause-kept
returns-clause-kept c =
    let before : List FlatName = names_view c.args.self.now.names.items c.args.self.now.near.items in
    let new : FlatName = name_view c.args.at c.args.near in
    let same : names_view c.reserve.new.self.items c.reserve-2.new.self.items ≡ before = λ i. names_view (c.reserve.ensures.items i) (c.reserve-2.ensures.items i) in
    let indexes = ap from_entries c.reserve-3.ensures.items in
    let more : AreMarked (from_entries c.put_entry.new.entries.items) c.max-self.result =
    marked_more (from_entries c.args.self.now.dir_indexes.items) _ c.args.at.dir.0 c.args.at.index c.args.self.now.last_index c.max-greatest.result c.max-self.result (marked_of c.args.self.now c.requires)
    (c.put_entry.ensures.map ∙ ap (λ m. insert m c.args.at.dir.0 c.max-greatest.result) indexes) (search rules) (search rules) in
    record {
      marked = omega (arith, c.add_among.ensures.marked, c.add_among.new.names.ok.0, c.add_among.new.nears.ok.0);
      in_order = ap is_name_set c.add_among.ensures.added ∙ is_name_set_add new _ (ap is_name_set same ∙ c.requires.in_order);
      inodes_rise = c.requires.inodes_rise;
      indexes_rise = c.put_entry.ensures.rising (ap (is_sorted nat_cmp) c.reserve-3.ensures.items ∙ c.requires.indexes_rise);
      covered = more.covered;
      least = more.least;
      each_least = more.each_least;
    }
