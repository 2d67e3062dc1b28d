-- What is read of an inode's item, and that an item with bytes is there.
use Rattle.std.proofs.Common.{◌≡◌, ◌≢◌, ◌∙◌, ℕ, List, [], ◌∷◌, length, Some, Result, Ok, refl, ap}
use Rattle.blk_base.specs.declared.fault.ItemFault.{ItemFault}
use Rattle.blk_base.specs.declared.key.Key.{Key}
use Rattle.blk_base.specs.Items.{InodeValue, inode_of}
use Rattle.blk_base.specs.Keys.{inode_item}
use Rattle.blk_base.specs.Leaf.{Item}
use Rattle.tree_range.specs.Between.{data_under}
use Rattle.format_laws.specs.Items.{inode_of-Ok}
use Rattle.item_inode.specs.declared.inode.InodeItem.{InodeItem}
use Rattle.item_inode.specs.Inode.{answer_view}
use Rattle.volume_image.specs.Subvolume.{make_key}
use Rattle.item_edit.specs.ItemEdit.{HasInode, item_bytes}

pub inode_read : (items : List Item) (ino : ℕ) (value : InodeValue) (key : Key) (found : List ℕ) (answer : Result InodeItem ItemFault) → HasInode items ino value → key ≡ make_key ino inode_item 0 → Some found ≡ data_under key items
    → answer_view answer ≡ inode_of found → answer_view answer ≡ Ok value
inode_read items ino value key found answer has is there read =
    let same : Some found ≡ Some has.bytes = there ∙ ap (λ (k : Key). data_under k items) is ∙ has.there in
    let bytes : found ≡ has.bytes = cc in
    read ∙ ap inode_of bytes ∙ inode_of-Ok has.bytes value has.spelled

pub item_bytes_some : (bytes : List ℕ) → length bytes ≢ 0 → item_bytes bytes ≡ Some bytes
item_bytes_some [] some = absurd (some refl)
item_bytes_some (byte ∷ bytes) some = refl
