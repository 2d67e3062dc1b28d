-- When the numbers of an inode's item are right, by sums over its items and the count of its names.
use Rattle.std.specs.Prelude.{◌≡◌, ◌≤◌, ◌*◌, ◌==◌, ◌&&◌, ℕ, Bool, true, not, List, nat_lt, filter, sum_by, IsTrue, if◌then◌else◌}
use Rattle.blk_base.specs.Items.{InodeValue}
use Rattle.blk_base.specs.Keys.{dir_index, extent_data}
use Rattle.blk_base.specs.Leaf.{Item}
use Rattle.blk_base.specs.declared.format.TheConstants.{FIRST_FREE}
use Rattle.flat_model.specs.Coherent.{most_links}
use Rattle.flat_model.specs.Contents.{most_file_bytes}
use Rattle.coherent_sums.specs.Sums.{index_bytes, is_of, run_bytes, target_bytes}

-- so many names are right for a file or a symlink, and for a directory; the root directory has none
abbrev pub are_links : ℕ → ℕ → Bool
are_links ino links = if ino == FIRST_FREE then links == 0 else not (nat_lt links 1) && not (nat_lt most_links links)

abbrev pub are_dir_links : ℕ → ℕ → Bool
are_dir_links ino links = if ino == FIRST_FREE then links == 0 else links == 1

-- of a file ("INODE_ITEM")
pub record HasFileNumbers (items : List Item) (links ino : ℕ) (value : InodeValue) : Type 0 where
  pub nlink : value.nlink ≡ links
  pub links_are : are_links ino links ≡ true
  pub nbytes : sum_by run_bytes (filter (is_of extent_data ino) items) ≡ value.nbytes
  pub size : value.size ≤ most_file_bytes

-- of a directory
pub record HasDirNumbers (items : List Item) (links : ℕ) (reached : Bool) (ino : ℕ) (value : InodeValue) : Type 0 where
  pub nlink : value.nlink ≡ 1
  pub links_are : are_dir_links ino links ≡ true
  pub nbytes : value.nbytes ≡ 0
  pub size : value.size ≡ 2 * sum_by index_bytes (filter (is_of dir_index ino) items)
  pub way_up : IsTrue reached

-- of a symlink
pub record HasLinkNumbers (items : List Item) (links ino : ℕ) (value : InodeValue) : Type 0 where
  pub nlink : value.nlink ≡ links
  pub links_are : are_links ino links ≡ true
  pub nbytes : value.nbytes ≡ value.size
  pub size : sum_by target_bytes (filter (is_of extent_data ino) items) ≡ value.size
  pub some : 1 ≤ value.size
  pub most : value.size ≤ 1023
