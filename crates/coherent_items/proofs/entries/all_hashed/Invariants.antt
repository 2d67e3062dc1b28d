-- Each entry is right where each that is left is.
use Rattle.std.proofs.Common.{◌≡◌}
use Rattle.std.specs.List.{list_all}
use Rattle.inode_lines.specs.Kinds.{said_kind}
use Rattle.tree_range.specs.Shape.{tree_items}
use Rattle.volume_image.specs.Subvolume.{Data}
use Rattle.coherent_items.specs.Entries.{is_right_hashed}
use Rattle.coherent_items.proofs.entries.all_hashed.Given as goal

abbrev pub invariant-loop-entry : goal.invariant-loop-entry
invariant-loop-entry l =
    ((blocks : Data) → list_all (is_right_hashed (said_kind (tree_items l.table l.tree) blocks) l.slots l.dir.0) l.entry-iterator
    ≡ list_all (is_right_hashed (said_kind (tree_items l.table l.tree) blocks) l.slots l.dir.0) l.fn.entries) ×
    (goal.iterator-loop-entry).can_next l.entry-iterator ×
    (goal.iterator-loop-entry).is_finite l.entry-iterator
