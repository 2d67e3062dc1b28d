use Rattle.std.proofs.Common.{ap, rules, add-one, drop}
use Rattle.volume_listing.proofs.Places.{sought_start, sought_end, sought_less, sought_equal, sought_more, drop_at, drop_past}
use Rattle.volume_listing.proofs.order.place_among.Goals as goal

pub loop-place-init : goal.loop-place-init
loop-place-init c = sought_start c.args.name.now c.args.entries.now.items

pub returns-in-Less : goal.returns-in-Less
returns-in-Less c =
    let is = drop_at c.args.entries.now.items c.loop-place.place c.index-entry.result.now (search rules) c.index-entry.ensures in
    let found = sought_less _ _ c.loop-place.place _ _ c.loop-place.invariant is c.in-Less.ensures in
    record { place = found.0; there = found.1 }

pub returns-in-Equal : goal.returns-in-Equal
returns-in-Equal c =
    let is = drop_at c.args.entries.now.items c.loop-place.place c.index-entry.result.now (search rules) c.index-entry.ensures in
    let found = sought_equal _ _ c.loop-place.place _ _ c.loop-place.invariant is c.in-Equal.ensures in
    record { place = found.0; there = found.1 }

pub loop-place-preserved : goal.loop-place-preserved
loop-place-preserved c =
    let all = c.args.entries.now.items in
    let is = drop_at all c.loop-place.place c.index-entry.result.now (search rules) c.index-entry.ensures in
    sought_more _ _ c.loop-place.place _ _ c.loop-place.invariant is c.in-Greater.ensures (ap (λ n. drop n all) (add-one c.loop-place.place))

pub returns : goal.returns
returns c =
    let found = sought_end _ _ c.loop-place.place c.loop-place.invariant (drop_past c.args.entries.now.items c.loop-place.place (search rules)) in
    record { place = found.0; there = found.1 }
