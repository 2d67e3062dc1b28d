use Rattle.std.proofs.Common.{◌≡◌, ◌-◌}
use Rattle.tree_range.specs.Shape.{items_below}
use Rattle.volume_format.specs.Views.{super_view}
use Rattle.tree_mount.specs.Roots.{with_items}
use Rattle.tree_mount.proofs.RootItems.{items_behind}
use Rattle.tree_mount.proofs.roots.+add_below.Given as goal

abbrev pub decreases-add_below : goal.decreases-add_below
decreases-add_below l = l.level

abbrev pub invariant-loop-place : goal.invariant-loop-place
invariant-loop-place l = with_items (super_view l.superblock) l.fn.wants.items (items_below l.level l.table l.fn.at.0) ≡ with_items (super_view l.superblock) l.wants.items (items_behind (l.level - 1) l.table l.node l.place)
