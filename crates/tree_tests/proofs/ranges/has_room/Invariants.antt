use Rattle.std.proofs.Common.{◌≤◌, ◌+◌, ◌*◌, ◌<◌, ◌^◌, length}
use Rattle.tree_range.specs.Between.{items_between}
use Rattle.tree_range.specs.Shape.{tree_items}
use Rattle.tree_tests.proofs.ranges.has_room.Given as goal

abbrev pub invariant-loop : goal.invariant-loop
invariant-loop l = l.needed + 1 < 2 ^ 64 → 2 * length (items_between l.first l.last (tree_items l.table l.tree)) + 34 ≤ l.needed + 2 * length l.iterator'
