-- What a line shows of an inode, by its item.
use Rattle.std.proofs.Common.{◌≡◌, ◌≢◌, ℕ, List, [], ◌∷◌, ◌++◌, Some, refl, sym, ap, codes}
use Rattle.std.specs.FinMap.{get}
use Rattle.std.specs.List.{flat_map}
use Rattle.blk_base.specs.Crc.{crc32c_of}
use Rattle.blk_base.specs.Items.{InodeValue}
use Rattle.flat_model.specs.Contents.{bytes_read}
use Rattle.flat_model.specs.declared.view.Kind.TheVariants.{File, Link}
use Rattle.flat_model.specs.Records.{InodeRecord, FileRecord, LinkRecord, FileInode, DirInode, LinkInode, kind_of}
use Rattle.flat_model.specs.Volume.{Subvolume}
use Rattle.io_edge.specs.Printed.{hex8, printed}
use Rattle.volume_image.specs.Subvolume.{nlink_of, size_of}
use Rattle.volume_listing.specs.Listing.{links_shown, path_shown, size_shown, step_shown, sum_shown, target_shown}
use Rattle.inode_shown.specs.Words.{IsItemOf, text_shown}

pub links_are : (sub : Subvolume) (ino : ℕ) (inode : InodeRecord) → nlink_of sub ino inode ≡ links_shown sub ino inode
links_are sub ino (FileInode file) = refl
links_are sub ino (DirInode dir) = refl
links_are sub ino (LinkInode link) = refl

pub size_is : (sub : Subvolume) (ino : ℕ) (inode : InodeRecord) → size_of sub ino inode ≡ size_shown sub ino inode
size_is sub ino (FileInode file) = refl
size_is sub ino (DirInode dir) = refl
size_is sub ino (LinkInode link) = refl

pub path_is : (steps : List (List ℕ)) (path : List ℕ) → path ≡ flat_map step_shown steps → text_shown path ≡ path_shown steps
unfolding path_shown
path_is [] path is = ap text_shown is
path_is (name ∷ names) path is = ap text_shown is

pub sum_is : (sub : Subvolume) (ino : ℕ) (inode : InodeRecord) (value : InodeValue) (sum : ℕ) → IsItemOf sub ino inode value → kind_of inode ≡ File
    → ((file : FileRecord) → get sub.inodes ino ≡ Some (FileInode file) → file.size ≡ value.size → sum ≡ crc32c_of (bytes_read file 0 file.size)) → hex8 sum ≡ sum_shown inode
sum_is sub ino (FileInode file) value sum is kind sums = ap hex8 (sums file is.there (sym is.size))
sum_is sub ino (DirInode dir) value sum is kind sums = absurd cc
sum_is sub ino (LinkInode link) value sum is kind sums = absurd cc

pub target_is : (sub : Subvolume) (ino : ℕ) (inode : InodeRecord) (value : InodeValue) (target : List ℕ) → IsItemOf sub ino inode value → kind_of inode ≡ Link
    → ((link : LinkRecord) → get sub.inodes ino ≡ Some (LinkInode link) → target ≡ link.target) → codes " " ++ printed target ≡ target_shown inode
target_is sub ino (FileInode file) value target is kind targets = absurd cc
target_is sub ino (DirInode dir) value target is kind targets = absurd cc
target_is sub ino (LinkInode link) value target is kind targets = ap (λ (bytes : List ℕ). codes " " ++ printed bytes) (targets link is.there)

pub no_target : (inode : InodeRecord) → kind_of inode ≢ Link → target_shown inode ≡ []
no_target (FileInode file) other = refl
no_target (DirInode dir) other = refl
no_target (LinkInode link) other = absurd (other refl)
