-- The places so far, and those of the names that are left.
use Rattle.std.proofs.Common.{◌≡◌, ◌++◌, length}
use Rattle.tree_listing.specs.Places.{texts_below, waiting_view}
use Rattle.tree_listing.proofs.places.push_places.Given as goal

abbrev pub invariant-loop-name : goal.invariant-loop-name
invariant-loop-name l = texts_below l.path l.left.entries ++ waiting_view l.waiting.items ≡ texts_below l.path l.fn.names.entries ++ waiting_view l.fn.waiting.items

abbrev pub decreases-loop-name : goal.decreases-loop-name
decreases-loop-name l = length l.left.entries
