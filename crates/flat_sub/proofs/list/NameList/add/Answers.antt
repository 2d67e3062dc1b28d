use Rattle.std.proofs.Common.{◌≡◌, List, ap, ◌∙◌, arith}
use Rattle.flat_model.specs.Names.{FlatName, is_name_set}
use Rattle.flat_sub.specs.View.{name_view, names_view}
use Rattle.flat_model.proofs.NameSets.{is_name_set_add}
use Rattle.flat_sub.proofs.list.NameList.add.Goals as goal

pub returns-clause-kept : goal.returns-clause-kept
returns-clause-kept c =
    let before : List FlatName = names_view c.args.self.now.names.items c.args.self.now.near.items in
    let new : FlatName = name_view c.args.at c.args.near in
    let same : names_view c.reserve.new.self.items c.reserve-2.new.self.items ≡ before = λ i. names_view (c.reserve.ensures.items i) (c.reserve-2.ensures.items i) in
    record {
      marked = omega (arith, c.add_among.ensures.marked, c.add_among.new.names.ok.0, c.add_among.new.nears.ok.0);
      in_order = ap is_name_set c.add_among.ensures.added ∙ is_name_set_add new _ (ap is_name_set same ∙ c.requires.in_order);
    }
