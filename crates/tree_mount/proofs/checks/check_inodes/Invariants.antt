use Rattle.std.proofs.Common.{◌≡◌, Contains, None, drop, take}
use Rattle.blk_base.specs.declared.key.Want.{Want}
use Rattle.image_faults.specs.Lowest.{first_faulty}
use Rattle.table_volume.specs.Gives.{data_in}
use Rattle.tree_mount.specs.Checks.{inode_fault}
use Rattle.tree_mount.specs.Trees.{items_of}
use Rattle.tree_mount.proofs.checks.check_inodes.Given as goal

abbrev pub invariant-loop-want : goal.invariant-loop-want
invariant-loop-want l = record {
  right : (want : Want) → Contains (take l.want-index l.wants) want → first_faulty (items_of l.table want) (data_in l.table) ≡ None;
  so_far : inode_fault l.table l.wants ≡ inode_fault l.table (drop l.want-index l.wants);
}
