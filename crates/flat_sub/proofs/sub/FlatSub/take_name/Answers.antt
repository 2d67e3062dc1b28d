use Rattle.std.proofs.Common.{◌≡◌, ap, ◌∙◌, arith}
use Rattle.flat_model.specs.Names.{FlatName, is_name_set}
use Rattle.flat_sub.specs.View.{names_view}
use Rattle.flat_sub.proofs.Removals.{remove_at, remove_view, is_name_set_at}
use Rattle.flat_sub.proofs.sub.FlatSub.take_name.Goals as goal

pub returns-clause-gone : goal.returns-clause-gone
returns-clause-gone c = λ name place.
    let before = c.args.self.now in
    let seen : names_view c.remove-2.new.self.items c.remove.new.self.items ≡ Rattle.flat_model.specs.Names.remove_name name (names_view before.names.items before.near.items) =
    (λ i. names_view (c.remove-2.ensures.items i) (c.remove.ensures.items i)) ∙ remove_view before.names.items before.near.items c.args.at c.requires.kept.marked ∙ remove_at (names_view before.names.items before.near.items) c.args.at name _ c.requires.kept.in_order place in
    λ i. record {
      sub = record { inodes = (Rattle.flat_sub.specs.View.sub_view before).sub.inodes; names = seen i };
      numbers = (Rattle.flat_sub.specs.View.sub_view before).numbers;
    }

pub returns-clause-kept : goal.returns-clause-kept
returns-clause-kept c =
    let before = c.args.self.now in
    let seen : names_view c.remove-2.new.self.items c.remove.new.self.items ≡ Rattle.std.specs.List.remove (names_view before.names.items before.near.items) c.args.at =
    (λ i. names_view (c.remove-2.ensures.items i) (c.remove.ensures.items i)) ∙ remove_view before.names.items before.near.items c.args.at c.requires.kept.marked in
    record {
      marked = omega (arith, c.remove.ensures.len, c.remove-2.ensures.len, c.requires.kept.marked, c.remove.new.self.ok.0, c.remove-2.new.self.ok.0, before.names.ok.0, before.near.ok.0);
      in_order = ap is_name_set seen ∙ is_name_set_at (names_view before.names.items before.near.items) c.args.at c.requires.kept.in_order;
      inodes_rise = c.requires.kept.inodes_rise;
      indexes_rise = c.requires.kept.indexes_rise;
      covered = c.requires.kept.covered;
      least = c.requires.kept.least;
      each_least = c.requires.kept.each_least;
    }
