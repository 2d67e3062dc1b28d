use Rattle.std.proofs.Common.{List, ap, sym, subst, ◌∙◌, arith}
use Rattle.flat_model.specs.Names.{FlatName, remove_name}
use Rattle.flat_model.specs.Operations.{names_without}
use Rattle.flat_sub.specs.Ends.{IsEnd}
use Rattle.flat_sub.specs.Lists.{list_view}
use Rattle.flat_sub.specs.View.{names_view}
use Rattle.flat_sub.proofs.Placed.{length_view, drop_view}
use Rattle.flat_sub.proofs.Removals.{drop_below}
use Rattle.flat_sub.proofs.Movings.{same_head}
use Rattle.flat_sub.proofs.list.NameList.remove_end.Goals as goal

pub index-requires : goal.index-requires
index-requires c =
    let sub = c.args.sub.now in
    let all : List FlatName = names_view sub.names.items sub.near.items in
    let taken = subst (IsEnd all c.requires.found.0) c.in-Taken.is c.requires.found.1 in
    omega (arith, drop_below c.in-Taken.at all taken.name _ taken.place, length_view sub.names.items sub.near.items c.requires.kept.marked, sub.names.ok.0)

pub index-requires-in-Taken : goal.index-requires-in-Taken
index-requires-in-Taken c =
    let sub = c.args.sub.now in
    let all : List FlatName = names_view sub.names.items sub.near.items in
    let taken = subst (IsEnd all c.requires.found.0) c.in-Taken.is c.requires.found.1 in
    omega (arith, drop_below c.in-Taken.at all taken.name _ taken.place, length_view sub.names.items sub.near.items c.requires.kept.marked, c.requires.kept.marked, sub.near.ok.0)

pub returns-in-Taken-clause-gone : goal.returns-in-Taken-clause-gone
returns-in-Taken-clause-gone c = λ before is.
    let sub = c.args.sub.now in
    let all : List FlatName = names_view sub.names.items sub.near.items in
    let taken = subst (IsEnd all before) c.in-Taken.is is in
    let long = length_view sub.names.items sub.near.items c.requires.kept.marked in
    let below = drop_below c.in-Taken.at all taken.name _ taken.place in
    let here = drop_view sub.names.items sub.near.items c.in-Taken.at c.index.result.now c.index-in-Taken.result.now c.requires.kept.marked (omega (arith, below, long)) c.index.ensures c.index-in-Taken.ensures in
    c.remove.ensures.gone ∙ ap (λ n. remove_name n (list_view c.args.self.now)) (same_head _ _ _ _ _ here taken.place) ∙ sym (ap (names_without (list_view c.args.self.now)) taken.slot)
