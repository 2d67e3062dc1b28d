-- Each entry is right where each that is left is.
use Rattle.std.proofs.Common.{◌≡◌}
use Rattle.std.specs.List.{list_all}
use Rattle.inode_lines.specs.Kinds.{said_kind}
use Rattle.tree_range.specs.Shape.{tree_items}
use Rattle.volume_image.specs.Subvolume.{Data}
use Rattle.coherent_items.specs.Entries.{is_right_indexed}
use Rattle.coherent_items.proofs.entries.all_indexed.Given as goal

abbrev pub invariant-loop-entry : goal.invariant-loop-entry
invariant-loop-entry l =
    ((blocks : Data) → list_all (is_right_indexed (said_kind (tree_items l.table l.tree) blocks) l.slots l.key.objectid l.key.offset) l.entry-iterator
    ≡ list_all (is_right_indexed (said_kind (tree_items l.table l.tree) blocks) l.slots l.key.objectid l.key.offset) l.fn.entries) ×
    (goal.iterator-loop-entry).can_next l.entry-iterator ×
    (goal.iterator-loop-entry).is_finite l.entry-iterator
