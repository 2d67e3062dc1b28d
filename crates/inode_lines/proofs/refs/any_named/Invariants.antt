-- Such an entry is among those that are left exactly where it is among all.
use Rattle.std.proofs.Common.{◌≡◌}
use Rattle.std.specs.List.{list_any}
use Rattle.inode_lines.specs.Refs.{is_named}
use Rattle.inode_lines.proofs.refs.any_named.Given as goal

abbrev pub invariant-loop-entry : goal.invariant-loop-entry
invariant-loop-entry l =
    (list_any (is_named l.name l.ino.0) l.entry-iterator ≡ list_any (is_named l.name l.ino.0) l.fn.entries) ×
    (goal.iterator-loop-entry).can_next l.entry-iterator ×
    (goal.iterator-loop-entry).is_finite l.entry-iterator
