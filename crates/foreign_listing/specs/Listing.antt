-- The listing of a foreign volume, or its first fault: the superblock, the chunks, the root tree and then each subvolume in
-- ascending order of their numbers, its tree and its names in the order of their lines.
use Rattle.std.specs.Prelude.{ℕ, List, [], ◌∷◌, ◌++◌, codes, Result, Ok}
use Rattle.std.specs.Fmt.{decimal}
use Rattle.blk_base.specs.Bytes.{Image}
use Rattle.foreign_format.specs.declared.fault.ForeignFault.{ForeignFault}
use Rattle.foreign_format.specs.Answer.{and_then}
use Rattle.foreign_tree.specs.Tree.{VolumeValue, disk_bytes}
use Rattle.foreign_volume.specs.declared.roots.Subvolume.{Subvolume}
use Rattle.foreign_volume.specs.Opened.{opened_of}
use Rattle.foreign_volume.specs.Roots.{subvolumes_of}
use Rattle.foreign_items.specs.Rows.{ItemsValue, items_of}
use Rattle.foreign_listing.specs.Lines.{TreeValue}
use Rattle.foreign_listing.specs.Walk.{Listed, tree_listed}

-- the line of a subvolume's number behind what is listed so far ("ROOT_ITEM"), which isn't counted
abbrev pub with_head : ℕ → Listed → Listed
with_head id listed = record { text = listed.text ++ (codes "sub " ++ decimal id ++ codes "\n"); lines = listed.lines }

-- the inodes and extents of a subvolume
abbrev pub tree_in : ℕ → ItemsValue → TreeValue
tree_in id items = record { sub = id; inodes = items.inodes; extents = items.extents }

-- a subvolume behind what is listed so far, or the first fault
unfoldable pub sub_listed : VolumeValue → List ℕ → Subvolume → Listed → Result Listed ForeignFault
sub_listed volume disk sub listed =
    and_then (items_of disk volume sub) (λ items. tree_listed volume disk (tree_in sub.id items) items.names (with_head sub.id listed))

-- subvolumes behind what is listed so far, or the first fault
unfoldable pub subs_listed : VolumeValue → List ℕ → List Subvolume → Listed → Result Listed ForeignFault
subs_listed volume disk [] listed = Ok listed
subs_listed volume disk (sub ∷ subs) listed = and_then (sub_listed volume disk sub listed) (subs_listed volume disk subs)

abbrev pub nothing_listed : Listed
nothing_listed = record { text = []; lines = 0 }

-- the text with the last line: how many names are listed
abbrev pub with_done : Listed → List ℕ
with_done listed = listed.text ++ (codes "done " ++ decimal listed.lines ++ codes "\n")

-- the listing of the volume on a disk of so many blocks, or the first fault
unfoldable pub listing_of : ℕ → Image → Result (List ℕ) ForeignFault
listing_of blocks image =
    and_then (opened_of blocks image) (λ opened.
    and_then (subvolumes_of (disk_bytes image) opened.volume opened.superblock) (λ subs.
    and_then (subs_listed opened.volume (disk_bytes image) subs nothing_listed) (λ listed.
    Ok (with_done listed))))
