use Rattle.std.proofs.Common.{◌≡◌, ◌≤◌, All, vec_len, vec_capacity}
use Rattle.block_table.specs.Table.{IsInStock}
use Rattle.block_table.proofs.steps.empty_lists.Given as goal

abbrev pub invariant-loop-index : goal.invariant-loop-index
invariant-loop-index l =
    (vec_len l.lists ≡ l.index) × (34 ≤ vec_capacity l.lists) × All (IsInStock l.blocks) l.lists.items
