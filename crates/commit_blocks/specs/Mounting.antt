-- What a mounted volume starts from.
use Rattle.std.specs.Prelude.{◌≡◌, ◌≤◌, [], length, slice_index_or}
use Rattle.blk_base.specs.declared.format.TheConstants.{SUPER_BLOCK}
use Rattle.blk_base.specs.Bytes.{Image}
use Rattle.commit_images.specs.Scene.{Commit}
use Rattle.flat_model.specs.Volume.{RunVolume, Volume}
use Rattle.table_volume.specs.Running.{GiveVolume}
use Rattle.tree_load.specs.Loaded.{HasBytes}
use Rattle.tree_mount.specs.declared.mounted.Mounted.{Mounted}
use Rattle.tree_mount.specs.Mounted.{mount_reach}
use Rattle.commit_blocks.specs.Keeps.{blocks_at}

-- the commit of this image's superblock, which reaches the blocks of a mounted volume, for this volume (own)
abbrev pub mount_commit : Image → Mounted → Volume → Commit
mount_commit image m volume = record { superblock = slice_index_or image SUPER_BLOCK []; blocks = blocks_at m.table (mount_reach m); volume = volume }

-- An image has the blocks of a mounted volume, and the superblock that was found reaches these and no other (own).
pub record IsMountOf (image : Image) (m : Mounted) (run : RunVolume) (commit : Commit) : Type 0 where
  pub on_image : length m.table.slots ≤ length image
  pub gives : GiveVolume m.table m.states.items run
  pub bytes : HasBytes image m.table (mount_reach m)
  pub blocks : commit.blocks ≡ blocks_at m.table (mount_reach m)
