use Rattle.std.proofs.Common.{◌+◌, sym, ◌∙◌, refl, arith}
use Rattle.current_view.specs.View.{seen}
use Rattle.tree_listing.specs.Places.{place_view, waiting_view}
use Rattle.tree_listing.proofs.Given.{given_coherent}
use Rattle.tree_listing.proofs.Walking.{at_none, left_first, left_next, left_none, no_places, popped_some, some_left}
use Rattle.tree_listing.proofs.walk.put_lines.Goals as goal

pub loop-place-init : goal.loop-place-init
loop-place-init c = left_first (seen c.args.table.now c.args.state.now.tree) (given_coherent c.args.table.now c.args.state.now c.requires).coherent c.args.text.now.items _ c.in_ok-waiting.ensures

pub overflow_add-lines : goal.overflow_add-lines
overflow_add-lines c =
    let waiting = c.loop-place.waiting.items in
    let next = popped_some waiting c.pop.new.self.items c.pop.result c.in-Some.place c.pop.ensures.items c.in-Some.is in
    let left = left_next (seen c.args.table.now c.args.state.now.tree) (given_coherent c.args.table.now c.args.state.now c.requires).coherent c.args.text.now.items (waiting_view waiting) c.loop-place.text.items c.loop-place.lines
    (place_view c.in-Some.place) (waiting_view c.pop.new.self.items) c.loop-place.invariant next (waiting_view c.visit.new.waiting.items) c.visit.new.text.items (c.loop-place.lines + 1) c.in_ok-visit.ensures.text c.in_ok-visit.ensures.places refl in
    let few = left.few in
    let long = c.visit.new.text.ok in
    omega (arith, few, long.0)

pub loop-place-preserved : goal.loop-place-preserved
loop-place-preserved c =
    let waiting = c.loop-place.waiting.items in
    let next = popped_some waiting c.pop.new.self.items c.pop.result c.in-Some.place c.pop.ensures.items c.in-Some.is in
    left_next (seen c.args.table.now c.args.state.now.tree) (given_coherent c.args.table.now c.args.state.now c.requires).coherent c.args.text.now.items (waiting_view waiting) c.loop-place.text.items c.loop-place.lines
    (place_view c.in-Some.place) (waiting_view c.pop.new.self.items) c.loop-place.invariant next (waiting_view c.visit.new.waiting.items) c.visit.new.text.items (c.loop-place.lines + 1) c.in_ok-visit.ensures.text c.in_ok-visit.ensures.places refl

pub loop-place-smaller : goal.loop-place-smaller
loop-place-smaller c =
    let waiting = c.loop-place.waiting.items in
    let next = popped_some waiting c.pop.new.self.items c.pop.result c.in-Some.place c.pop.ensures.items c.in-Some.is in
    let some = some_left (seen c.args.table.now c.args.state.now.tree) (given_coherent c.args.table.now c.args.state.now c.requires).coherent c.args.text.now.items (waiting_view waiting) c.loop-place.text.items c.loop-place.lines
    (place_view c.in-Some.place) (waiting_view c.pop.new.self.items) c.loop-place.invariant next in
    omega (arith, some)

pub returns-clause-text : goal.returns-clause-text
returns-clause-text c =
    let waiting = c.loop-place.waiting in
    (left_none (seen c.args.table.now c.args.state.now.tree) c.args.text.now.items (waiting_view waiting.items) c.loop-place.text.items c.loop-place.lines c.loop-place.invariant
    (no_places waiting.items (sym waiting.ok.0 ∙ (at_none _ c.pop.result c.in_default.is c.pop.ensures.cases).0))).0

pub returns-clause-count : goal.returns-clause-count
returns-clause-count c =
    let waiting = c.loop-place.waiting in
    (left_none (seen c.args.table.now c.args.state.now.tree) c.args.text.now.items (waiting_view waiting.items) c.loop-place.text.items c.loop-place.lines c.loop-place.invariant
    (no_places waiting.items (sym waiting.ok.0 ∙ (at_none _ c.pop.result c.in_default.is c.pop.ensures.cases).0))).1
