use Rattle.std.proofs.Common.{◌≡◌, ◌≤◌, ◌++◌, take}
use Rattle.std.specs.List.{flat_map, count_by}
use Rattle.flat_sub.specs.View.{sub_view}
use Rattle.volume_listing.specs.Listing.{lines_at, is_there}
use Rattle.volume_listing.proofs.lines.put_lines.Given as goal

abbrev pub invariant-loop-found : goal.invariant-loop-found
invariant-loop-found l = record {
  written : l.text.items ≡ l.initial.text.items ++ flat_map (lines_at (sub_view l.sub).sub) (take l.found-index l.found-items);
  counted : l.count ≡ count_by (is_there (sub_view l.sub).sub) (take l.found-index l.found-items);
  few : l.count ≤ l.found-index;
}
