use Rattle.std.proofs.Common.{◌≡◌, ◌≤◌, ◌*◌, ◌++◌, take}
use Rattle.std.specs.List.{flat_map, sum_by}
use Rattle.volume_listing.specs.Parts.{part_at, count_at}
use Rattle.volume_listing.proofs.listing.put_parts.Given as goal

abbrev pub invariant-loop-entry : goal.invariant-loop-entry
invariant-loop-entry l = record {
  written : l.text.items ≡ l.initial.text.items ++ flat_map part_at (take l.entry-index l.subs.items);
  counted : l.lines ≡ sum_by count_at (take l.entry-index l.subs.items);
  few : l.lines ≤ 0x1_0000_0000_0000_0000 * l.entry-index;
}
