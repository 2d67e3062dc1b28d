use Rattle.std.proofs.Common.{◌≡◌, List, sym, ap, ◌∙◌, arith}
use Rattle.std.specs.List.{remove}
use Rattle.flat_model.specs.Names.{FlatName, is_name_set}
use Rattle.flat_model.proofs.NameSets.{is_name_set_remove, remove_name_absent}
use Rattle.flat_sub.specs.View.{name_view, names_view}
use Rattle.flat_sub.proofs.Placed.{length_view}
use Rattle.flat_sub.proofs.Removals.{drop_below, remove_at, remove_view}
use Rattle.flat_sub.proofs.Movings.{stands_there, stands_nowhere}
use Rattle.flat_sub.proofs.list.NameList.remove.Goals as goal

pub remove-requires : goal.remove-requires
remove-requires c =
    let ats = c.args.self.now.names.items in
    let nears = c.args.self.now.near.items in
    let new : FlatName = name_view c.args.at.now c.args.near in
    let below = drop_below _ (names_view ats nears) new _ (stands_there new (names_view ats nears) (sym c.place_among-place.ensures.there ∙ c.if-there.true)) in
    omega (arith, below, length_view ats nears c.requires.marked, c.place_among-place.ensures.place, c.requires.marked, c.args.self.now.names.ok.0, c.args.self.now.near.ok.0)

pub returns-then-there-clause-gone : goal.returns-then-there-clause-gone
returns-then-there-clause-gone c =
    let ats = c.args.self.now.names.items in
    let nears = c.args.self.now.near.items in
    let new : FlatName = name_view c.args.at.now c.args.near in
    let all : List FlatName = names_view ats nears in
    let seen : names_view c.remove-then-there.new.self.items c.remove.new.self.items ≡ remove all c.place_among-place.result.0 = (λ i. names_view (c.remove-then-there.ensures.items i) (c.remove.ensures.items i)) ∙ remove_view ats nears c.place_among-place.result.0 c.requires.marked in
    seen ∙ ap (remove all) c.place_among-place.ensures.place ∙ remove_at all _ new _ c.requires.in_order (stands_there new all (sym c.place_among-place.ensures.there ∙ c.if-there.true))

pub returns-then-there-clause-kept : goal.returns-then-there-clause-kept
returns-then-there-clause-kept c =
    let before = c.args.self.now in
    let ats = before.names.items in
    let nears = before.near.items in
    let new : FlatName = name_view c.args.at.now c.args.near in
    let all : List FlatName = names_view ats nears in
    let seen : names_view c.remove-then-there.new.self.items c.remove.new.self.items ≡ remove all c.place_among-place.result.0 = (λ i. names_view (c.remove-then-there.ensures.items i) (c.remove.ensures.items i)) ∙ remove_view ats nears c.place_among-place.result.0 c.requires.marked in
    let gone = seen ∙ ap (remove all) c.place_among-place.ensures.place ∙ remove_at all _ new _ c.requires.in_order (stands_there new all (sym c.place_among-place.ensures.there ∙ c.if-there.true)) in
    record {
      marked = omega (arith, c.remove.ensures.len, c.remove-then-there.ensures.len, c.requires.marked, c.remove.new.self.ok.0, c.remove-then-there.new.self.ok.0, before.names.ok.0, before.near.ok.0);
      in_order = ap is_name_set gone ∙ is_name_set_remove new all c.requires.in_order;
    }

pub returns-else-there-clause-gone : goal.returns-else-there-clause-gone
returns-else-there-clause-gone c =
    let new : FlatName = name_view c.args.at.now c.args.near in
    let all : List FlatName = names_view c.args.self.now.names.items c.args.self.now.near.items in
    sym (remove_name_absent new all (stands_nowhere new all c.requires.in_order (sym c.place_among-place.ensures.there ∙ c.if-there.false)))
