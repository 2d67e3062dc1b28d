-- The log on the way, and how many places are to come.
use Rattle.log_image.specs.LogItems.{ranges_in}
use Rattle.tree_range.specs.Shape.{tree_items}
use Rattle.dir_ranges.proofs.Walk.{IsOnTheWay, places_left, to_come}
use Rattle.dir_ranges.proofs.gone.write_gone.Given as goal

abbrev pub invariant-loop-found : goal.invariant-loop-found
invariant-loop-found l = IsOnTheWay l.ino.0 l.committed l.first l.fn.table l.fn.log l.table l.log

abbrev pub decreases-loop-found : goal.decreases-loop-found
decreases-loop-found l = to_come (ranges_in (tree_items l.table l.log)) (places_left (tree_items l.fn.table l.committed) l.first l.ino.0)
