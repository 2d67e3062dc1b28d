-- Whether there is the entry is told by the items that are left.
use Rattle.std.proofs.Common.{◌≡◌, []}
use Rattle.std.specs.List.{list_any}
use Rattle.blk_base.specs.Entries.{entries_of}
use Rattle.blk_base.specs.Keys.{dir_index}
use Rattle.log_image.specs.LogItems.{entries_in, read_or}
use Rattle.logged_volume.specs.FlatLog.{has_entry}
use Rattle.tree_range.specs.Shape.{tree_items}
use Rattle.recovered_view.specs.Kept.{is_entry_to, name_of_parts}
use Rattle.recovered_view.proofs.ranges.has_entry.Given as goal

abbrev pub invariant-loop-key : goal.invariant-loop-key
invariant-loop-key l =
    (list_any (λ item. list_any (is_entry_to l.name l.ino) (read_or [] (entries_of dir_index item.1))) l._key-iterator ≡ has_entry (entries_in (tree_items l.table l.log)) (name_of_parts l.dir l.index l.name l.ino)) ×
    (goal.iterator-loop-key).can_next l._key-iterator ×
    (goal.iterator-loop-key).is_finite l._key-iterator
