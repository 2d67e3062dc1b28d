-- So many of the root items stand in the leaf.
use Rattle.std.proofs.Common.{◌≡◌, take}
use Rattle.tree_blocks.specs.Steps.{IsDirtyLeaf, leaf_at}
use Rattle.log_root.specs.Built.{IsRewritten}
use Rattle.log_root.specs.Entries.{log_entries}
use Rattle.log_root.proofs.leaf.write_leaf.Given as goal

abbrev pub invariant-loop-place : goal.invariant-loop-place
invariant-loop-place l = record {
  items : leaf_at l.table l.at.0 ≡ log_entries (take l.place l.subs);
  leaf : IsDirtyLeaf l.table l.at.0;
  written : IsRewritten l.fn.table l.table l.at.0;
}
