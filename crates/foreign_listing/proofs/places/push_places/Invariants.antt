use Rattle.std.proofs.Common.{◌≡◌, ◌+◌, ◌++◌, vec_len}
use Rattle.foreign_listing.specs.Names.{places_below}
use Rattle.foreign_listing.specs.View.{entries_view, pending_view}
use Rattle.foreign_listing.proofs.places.push_places.Given as goal

abbrev pub invariant-loop-name : goal.invariant-loop-name
invariant-loop-name l = record {
  view : places_below l.path (entries_view l.left.items) ++ pending_view l.pending.items ≡ places_below l.path (entries_view l.fn.names.items) ++ pending_view l.fn.pending.items;
  len : vec_len l.pending + vec_len l.left ≡ vec_len l.fn.pending + vec_len l.fn.names;
}

abbrev pub decreases-loop-name : goal.decreases-loop-name
decreases-loop-name l = vec_len l.left
