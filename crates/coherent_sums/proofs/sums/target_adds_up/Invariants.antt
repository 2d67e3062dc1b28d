-- What is left of the number is what the items that are left have of it.
use Rattle.std.proofs.Common.{◌≡◌, ◌+◌, filter, sum_by}
use Rattle.blk_base.specs.Keys.{extent_data}
use Rattle.tree_range.specs.Shape.{tree_items}
use Rattle.coherent_sums.specs.Sums.{target_bytes, is_of}
use Rattle.coherent_sums.proofs.sums.target_adds_up.Given as goal

abbrev pub invariant-loop-key : goal.invariant-loop-key
invariant-loop-key l =
    (sum_by target_bytes l.key-iterator + l.fn.size ≡ l.left + sum_by target_bytes (filter (is_of extent_data l.fn.ino.0) (tree_items l.fn.table l.fn.tree))) ×
    (goal.iterator-loop-key).can_next l.key-iterator ×
    (goal.iterator-loop-key).is_finite l.key-iterator
