use Rattle.std.proofs.Common.{◌≡◌, [], drop, map, vec_len}
use Rattle.foreign_items.specs.View.{name_view}
use Rattle.foreign_listing.specs.Names.{in_byte_order}
use Rattle.foreign_listing.specs.View.{entries_view, put_entries}
use Rattle.foreign_listing.proofs.names.names_in.Given as goal

abbrev pub invariant-loop-row : goal.invariant-loop-row
invariant-loop-row l = record {
  order : in_byte_order [] (map name_view l.rows) ≡ in_byte_order (put_entries [] (entries_view l.names.items)) (map name_view (drop l.row-index l.rows));
  len : vec_len l.names ≡ l.row-index;
}
