use Rattle.std.proofs.Common.{◌≡◌, ◌≤◌, length, false, List, sym, ap, ◌∙◌, arith}
use Rattle.std.specs.List.{insert}
use Rattle.flat_model.specs.Names.{FlatName}
use Rattle.flat_sub.specs.Building.{place_in, has_name}
use Rattle.flat_sub.specs.View.{name_view, names_view}
use Rattle.flat_sub.proofs.Placed.{add_present, add_absent, place_within, length_view, insert_view}
use Rattle.flat_sub.proofs.sub.add_among.Goals as goal

pub returns-then-there-clause-added : goal.returns-then-there-clause-added
returns-then-there-clause-added c =
    sym (add_present (name_view c.args.at c.args.near) (names_view c.args.names.now.items c.args.nears.now.items) (sym c.place_among-place.ensures.there ∙ c.if-there.true))

pub insert-requires : goal.insert-requires
insert-requires c =
    let all : List FlatName = names_view c.args.names.now.items c.args.nears.now.items in
    let within = place_within (name_view c.args.at c.args.near) all in
    let long = length_view c.args.names.now.items c.args.nears.now.items (omega (arith, c.requires.marked, c.args.names.now.ok.0, c.args.nears.now.ok.0)) in
    omega (arith, within, long, c.place_among-place.ensures.place, c.args.names.now.ok.0)

pub insert-requires-2 : goal.insert-requires-2
insert-requires-2 c =
    let all : List FlatName = names_view c.args.names.now.items c.args.nears.now.items in
    let within = place_within (name_view c.args.at c.args.near) all in
    let long = length_view c.args.names.now.items c.args.nears.now.items (omega (arith, c.requires.marked, c.args.names.now.ok.0, c.args.nears.now.ok.0)) in
    omega (arith, within, long, c.place_among-place.ensures.place, c.args.names.now.ok.0, c.requires.marked)

pub returns-clause-added : goal.returns-clause-added
returns-clause-added c =
    let ats = c.args.names.now.items in
    let nears = c.args.nears.now.items in
    let all : List FlatName = names_view ats nears in
    let new : FlatName = name_view c.args.at c.args.near in
    let same : length nears ≡ length ats = omega (arith, c.requires.marked, c.args.names.now.ok.0, c.args.nears.now.ok.0) in
    let within = place_within new all in
    let long = length_view ats nears same in
    let place = c.place_among-place.result.0 in
    let place_is : place ≡ place_in new all = c.place_among-place.ensures.place in
    let low : place ≤ length ats = omega (arith, within, long, place_is) in
    let absent : has_name new all ≡ false = sym c.place_among-place.ensures.there ∙ c.if-there.false in
    let both : names_view c.insert.new.self.items c.insert-2.new.self.items ≡ names_view (insert ats place c.args.at) (insert nears place c.args.near) = λ i. names_view (c.in-Ok.ensures.items i) (c.in-Ok-insert.ensures.items i) in
    both ∙ insert_view ats nears place c.args.at c.args.near same low ∙ ap (λ p. insert all p new) place_is ∙ sym (add_absent new all absent)
