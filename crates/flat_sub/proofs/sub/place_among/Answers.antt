use Rattle.std.proofs.Common.{ap, rules, add-one, drop}
use Rattle.flat_sub.specs.View.{name_view, names_view}
use Rattle.flat_sub.proofs.Placed.{sought_start, sought_end, sought_less, sought_equal, sought_more, drop_view, drop_view_end}
use Rattle.flat_sub.proofs.sub.place_among.Goals as goal

pub loop-place-init : goal.loop-place-init
loop-place-init c = sought_start (name_view c.args.at.now c.args.near) (names_view c.args.names.now.items c.args.nears.now.items)

pub returns-in-Less : goal.returns-in-Less
returns-in-Less c =
    let is = drop_view c.args.names.now.items c.args.nears.now.items c.loop-place.place c.index.result.now c.index-in-loop-place.result.now (search rules) (search rules) c.index.ensures c.index-in-loop-place.ensures in
    let found = sought_less _ _ c.loop-place.place _ _ c.loop-place.invariant is c.in-Less.ensures in
    record { place = found.0; there = found.1 }

pub returns-in-Equal : goal.returns-in-Equal
returns-in-Equal c =
    let is = drop_view c.args.names.now.items c.args.nears.now.items c.loop-place.place c.index.result.now c.index-in-loop-place.result.now (search rules) (search rules) c.index.ensures c.index-in-loop-place.ensures in
    let found = sought_equal _ _ c.loop-place.place _ _ c.loop-place.invariant is c.in-Equal.ensures in
    record { place = found.0; there = found.1 }

pub loop-place-preserved : goal.loop-place-preserved
loop-place-preserved c =
    let is = drop_view c.args.names.now.items c.args.nears.now.items c.loop-place.place c.index.result.now c.index-in-loop-place.result.now (search rules) (search rules) c.index.ensures c.index-in-loop-place.ensures in
    let all = names_view c.args.names.now.items c.args.nears.now.items in
    sought_more _ _ c.loop-place.place _ _ c.loop-place.invariant is c.in-Greater.ensures (ap (λ n. drop n all) (add-one c.loop-place.place))

pub returns : goal.returns
returns c =
    let found = sought_end _ _ c.loop-place.place c.loop-place.invariant (drop_view_end c.args.names.now.items c.args.nears.now.items c.loop-place.place (search rules)) in
    record { place = found.0; there = found.1 }
