-- Leaves whose data stand without a gap from the block's end downwards, as Btrfs packs them.
use Rattle.std.specs.Prelude.{◌≡◌, ◌≤◌, ◌<◌, ◌+◌, ◌-◌, ◌*◌, ◌^◌, ℕ, List, ◌++◌, length, take, get_or, true}
use Rattle.blk_base.specs.Bytes.{number_bytes, bytes_at}
use Rattle.blk_base.specs.Keys.{KeyFits, keys_rise}
use Rattle.blk_base.specs.Leaf.{Item, count_of, item_key, item_offset, item_size, data_of}
use Rattle.leaf_view.specs.Search.{keys_of}
use Rattle.leaf_edit.specs.declared.header.Header.{Header}
use Rattle.leaf_edit.specs.Images.{key_image}

-- the header of item i ("Leaf Node": key, data offset, size)
abbrev pub header_of : List ℕ → ℕ → Header
header_of bytes i = record { key = item_key bytes i; offset = item_offset bytes i; size = item_size bytes i }

-- a header that fits its fields
pub record HeaderFits (header : Header) : Type 0 where
  pub key : KeyFits header.key
  pub offset : header.offset < 2 ^ 32
  pub size : header.size < 2 ^ 32

-- the 25 bytes of an item header
unfoldable pub header_bytes : Header → List ℕ
header_bytes header = key_image header.key ++ number_bytes 4 header.offset ++ number_bytes 4 header.size

-- the header with its data lower, and with its data higher (own)
abbrev pub lowered : ℕ → Header → Header
lowered by header = record header { offset = header.offset - by }

abbrev pub raised : ℕ → Header → Header
raised by header = record header { offset = header.offset + by }

-- how many bytes the data of the first i items have (own)
unfoldable pub data_before : List Item → ℕ → ℕ
data_before items i = data_of (take i items)

-- where the data of item i begin, behind the block's header (own)
abbrev pub place_of : List Item → ℕ → ℕ
place_of items i = 3995 - data_before items (i + 1)

-- the header that item i has where all data are packed (own)
abbrev pub packed_header : List Item → ℕ → Item → Header
packed_header items i item = record { key = item.0; offset = place_of items i; size = length item.1 }

-- the block's body is a leaf with these items, whose data are packed
pub record IsPacked (bytes : List ℕ) (items : List Item) : Type 0 where
  pub size : length bytes ≡ 4096
  pub count : count_of bytes ≡ length items
  pub fits : 25 * length items + data_of items ≤ 3995
  pub rise : keys_rise (keys_of items) ≡ true
  pub headers : (i : ℕ) (d : Item) → i < length items → header_of bytes i ≡ packed_header items i (get_or items i d)
  pub contents : (i : ℕ) (d : Item) → i < length items → bytes_at (length (get_or items i d).1) bytes (101 + place_of items i) ≡ (get_or items i d).1
