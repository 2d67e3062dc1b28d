-- Which leaf of a tree has an item, and what is known of items and data that were checked.
use Rattle.std.specs.Prelude.{◌≡◌, ◌≤◌, ◌<◌, ◌+◌, ℕ, List, None, Contains, length}
use Rattle.blk_base.specs.declared.key.Key.{Key}
use Rattle.blk_base.specs.declared.key.Want.{Want}
use Rattle.blk_base.specs.Keys.{extent_data}
use Rattle.blk_base.specs.Leaf.{Item, IsLeaf}
use Rattle.blk_base.specs.ItemFaults.{item_fault}
use Rattle.volume_image.specs.Tree.{Image, block_of}
use Rattle.volume_image.specs.Subvolume.{make_key, extent_len}
use Rattle.volume_image.specs.Stands.{IsCommitted}
use Rattle.image_order.specs.FirstFault.{Found, volume_in}

-- a leaf at this byte address, one of those reached, has the item
pub record IsInLeafAt (image : Image) (reach : List ℕ) (item : Item) (at : ℕ) : Type 0 where
  pub want : Want
  pub items : List Item
  pub place : want.at.0 ≡ at
  pub reached : Contains reach at
  pub leaf : IsLeaf want (block_of image at) items
  pub has : Contains items item

-- no item has a fault of its own
abbrev pub AreFaultless : List Item → Type 0
AreFaultless items = (key : Key) (bytes : List ℕ) → Contains items (key, bytes) → item_fault key bytes ≡ None

-- no extent begins below the end of another of its file
abbrev pub AreApartExtents : List Item → Type 0
AreApartExtents items = (ino one two : ℕ) (first second : List ℕ) → Contains items (make_key ino extent_data one, first) → Contains items (make_key ino extent_data two, second) → one < two
    → one + extent_len (make_key ino extent_data one) first ≤ two

-- what was found is what the superblock commits to: its volume, with as many addresses in use as were reached
pub record IsCommittedAs (image : Image) (found : Found) : Type 0 where
  pub reach : List ℕ
  pub committed : IsCommitted image found.super (volume_in image found) reach
  pub long : length reach ≡ length found.reached
