use Rattle.std.proofs.Common.{arith}
use Rattle.flat_sub.specs.View.{sub_view}
use Rattle.flat_sub.proofs.Placed.{length_view}
use Rattle.volume_listing.proofs.Ways.{listed_from}
use Rattle.volume_listing.proofs.walk.all_of.Goals as goal

pub returns : goal.returns
returns c =
    let sub = c.args.sub.now in
    let long = length_view sub.names.items sub.near.items c.requires.marked in
    listed_from (sub_view sub).sub c.len.result c.new-root.result.items c.new.result.items c.new-found.result.items c.push.new.self.items _ c.new-found.ensures.items c.new.ensures.items c.new-root.ensures.items
    (omega (arith, c.len.ensures, sub.names.ok.0, long)) c.in_ok-push.ensures.items c.in_ok-add_below.ensures
