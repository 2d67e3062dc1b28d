use Rattle.std.proofs.Common.{◌≡◌, ◌≤◌, ◌*◌, ◌++◌, take}
use Rattle.std.specs.List.{flat_map, sum_by}
use Rattle.tree_listing.specs.Given.{part_at, count_at}
use Rattle.tree_listing.proofs.listing.put_parts.Given as goal

abbrev pub invariant-loop-state : goal.invariant-loop-state
invariant-loop-state l = record {
  written : l.text.items ≡ l.initial.text.items ++ flat_map (part_at l.table) (take l.state-index l.states);
  counted : l.lines ≡ sum_by (count_at l.table) (take l.state-index l.states);
  few : l.lines ≤ 0x1_0000_0000_0000_0000 * l.state-index;
}
