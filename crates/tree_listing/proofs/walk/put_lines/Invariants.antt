-- What is left of the walk.
use Rattle.std.proofs.Common.{◌-◌}
use Rattle.current_view.specs.View.{seen}
use Rattle.volume_listing.specs.Listing.{count_of}
use Rattle.tree_listing.specs.Places.{waiting_view}
use Rattle.tree_listing.proofs.Walking.{IsLeft}
use Rattle.tree_listing.proofs.walk.put_lines.Given as goal

abbrev pub invariant-loop-place : goal.invariant-loop-place
invariant-loop-place l = IsLeft (seen l.table l.state.tree) l.fn.text.items (waiting_view l.waiting.items) l.text.items l.lines

abbrev pub decreases-loop-place : goal.decreases-loop-place
decreases-loop-place l = count_of (seen l.table l.state.tree) - l.lines
