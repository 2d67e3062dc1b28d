-- What is left of the number is what the items that are left have of it.
use Rattle.std.proofs.Common.{◌≡◌, ◌+◌, filter, sum_by}
use Rattle.blk_base.specs.Keys.{dir_index}
use Rattle.tree_range.specs.Shape.{tree_items}
use Rattle.coherent_sums.specs.Sums.{index_bytes, is_of}
use Rattle.coherent_sums.proofs.sums.index_names_add_up.Given as goal

abbrev pub invariant-loop-bytes : goal.invariant-loop-bytes
invariant-loop-bytes l =
    (sum_by index_bytes l.bytes-iterator + l.fn.length ≡ l.left + sum_by index_bytes (filter (is_of dir_index l.fn.dir.0) (tree_items l.fn.table l.fn.tree))) ×
    (goal.iterator-loop-bytes).can_next l.bytes-iterator ×
    (goal.iterator-loop-bytes).is_finite l.bytes-iterator
