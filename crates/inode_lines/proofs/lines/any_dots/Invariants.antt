-- The name is among those that are left exactly where it is among all.
use Rattle.std.proofs.Common.{◌≡◌}
use Rattle.std.specs.List.{list_any}
use Rattle.inode_lines.specs.Kinds.{is_dots_ref}
use Rattle.inode_lines.proofs.lines.any_dots.Given as goal

abbrev pub invariant-loop-index : goal.invariant-loop-index
invariant-loop-index l =
    (list_any is_dots_ref l.index-iterator ≡ list_any is_dots_ref l.fn.refs) ×
    (goal.iterator-loop-index).can_next l.index-iterator ×
    (goal.iterator-loop-index).is_finite l.index-iterator
