-- The superblock that commits to a root tree.
use Rattle.std.specs.Prelude.{ℕ, List, length}
use Rattle.blk_base.specs.Superblock.{SuperValue}
use Rattle.block_table.specs.declared.tree.Tree.{Tree}
use Rattle.block_table.specs.Table.{Table}

-- what the superblock says: this root tree and no log ("Superblock")
abbrev pub super_at : Table → Tree → List ℕ → ℕ → ℕ → SuperValue
super_at table root fsid generation used = record {
  fsid = fsid;
  generation = generation;
  root = root.root.0;
  root_level = root.level;
  log_root = 0;
  log_root_level = 0;
  blocks = length table.slots;
  used = used;
}
