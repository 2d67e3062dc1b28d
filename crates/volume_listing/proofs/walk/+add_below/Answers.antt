use Rattle.std.proofs.Common.{◌++◌, ◌-◌, List, take_all, sym, ap, ◌∙◌, arith}
use Rattle.std.specs.List.{flat_map}
use Rattle.flat_sub.specs.View.{sub_view}
use Rattle.volume_listing.specs.Listing.{Listed}
use Rattle.volume_listing.specs.Found.{below_name}
use Rattle.volume_listing.proofs.Ways.{below_some}
use Rattle.volume_listing.proofs.walk.+add_below.Goals as goal

pub returns : goal.returns
returns t c =
    let sub = c.args.sub.now in
    let one = below_name (c.args.depth - 1) (sub_view sub).sub c.args.path.now.items in
    let items = c.deref-entry-items.result.now in
    let all = ap (flat_map one) (take_all c.loop-entry.entry-index items (omega arith) ∙ c.deref-entry-items.ensures.value ∙ c.in_ok-entries.ensures) in
    c.loop-entry.invariant
    ∙ ap (λ (more : List Listed). c.args.found.now.items ++ more) (all ∙ sym (below_some c.args.depth (sub_view sub).sub c.args.dir c.args.path.now.items sub.names.items sub.near.items c.if-depth-eq0.false c.requires.marked (λ i. (sub_view sub).sub.names)))
