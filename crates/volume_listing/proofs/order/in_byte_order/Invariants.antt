use Rattle.std.proofs.Common.{◌≡◌, ◌≤◌, drop, length}
use Rattle.volume_listing.specs.Order.{ordered}
use Rattle.volume_listing.proofs.order.in_byte_order.Given as goal

abbrev pub invariant-loop-left : goal.invariant-loop-left
invariant-loop-left l = record {
  within : l.left ≤ length l.names.items;
  in_order : l.entries.items ≡ ordered l.dir (drop l.left l.names.items);
}

abbrev pub decreases-loop-left : goal.decreases-loop-left
decreases-loop-left l = l.left
