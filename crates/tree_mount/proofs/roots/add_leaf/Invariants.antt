use Rattle.std.proofs.Common.{◌≡◌, drop}
use Rattle.volume_format.specs.Views.{super_view}
use Rattle.tree_mount.specs.Roots.{with_items}
use Rattle.tree_mount.proofs.roots.add_leaf.Given as goal

abbrev pub invariant-loop-place : goal.invariant-loop-place
invariant-loop-place l = with_items (super_view l.superblock) l.fn.wants.items l.leaf ≡ with_items (super_view l.superblock) l.wants.items (drop l.place l.leaf)
