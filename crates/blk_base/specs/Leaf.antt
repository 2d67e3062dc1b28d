-- Blocks of trees: the header, a leaf's list of items and a node's list of pointers, from any list of bytes.
use Rattle.std.specs.Prelude.{◌≡◌, ◌≤◌, ◌<◌, ◌+◌, ◌*◌, ◌-◌, ℕ, Bool, ◌&&◌, ◌||◌, not, nat_lt, nat_le, ◌==◌, List, [], ◌∷◌, length, map, slice_get, Some, Result, Ok, Err, if◌then◌else◌}
use Rattle.std.specs.List.{list_all, range_with_len}
use Rattle.std.specs.Str.{bytes_eq}
use Rattle.blk_base.specs.declared.key.Key.{Key}
use Rattle.blk_base.specs.declared.key.Want.{Want}
use Rattle.blk_base.specs.declared.fault.BlockFault.{BlockFault}
use Rattle.blk_base.specs.declared.fault.BlockFault.TheVariants.{Checksum, Fsid, Address, Generation, Owner, Level, Count, Order, Bounds, Overlap}
use Rattle.blk_base.specs.declared.format.TheConstants.{HEADER_SIZE, HEADER_FLAGS, ITEM_HEADER_SIZE, POINTER_SIZE, LEAF_BYTES, MOST_ITEMS, MOST_POINTERS}
use Rattle.blk_base.specs.Bytes.{field, bytes_at, number_bytes, zeros}
use Rattle.blk_base.specs.Crc.{block_sum}
use Rattle.blk_base.specs.Superblock.{Field, with_fields, with_sum}
use Rattle.blk_base.specs.Keys.{KeyBelow, key_at, keys_rise}

-- ---- the header ("Header": csum, fsid, bytenr, flags, chunk tree uuid, generation, owner, nritems, level)

-- what a block says of itself is what its reader wants; flags and the uuid of the chunk tree aren't looked at
pub record HeaderFits (want : Want) (bytes : List ℕ) : Type 0 where
  pub sum : field 4 bytes 0 ≡ block_sum bytes
  pub fsid : bytes_at 16 bytes 32 ≡ want.fsid
  pub address : field 8 bytes 48 ≡ want.at.0
  pub generation : field 8 bytes 80 ≡ want.generation
  pub owner : field 8 bytes 88 ≡ want.owner
  pub level : field 1 bytes 100 ≡ want.level

-- the number of items or pointers
abbrev pub count_of : List ℕ → ℕ
count_of bytes = field 4 bytes 96

-- the first check of the header that fails, else what the body gives
abbrev pub after_header : {A : Type 0} → Want → List ℕ → Result A BlockFault → Result A BlockFault
after_header want bytes body =
    if not (field 4 bytes 0 == block_sum bytes) then Err Checksum else
    if not (bytes_eq (bytes_at 16 bytes 32) want.fsid) then Err Fsid else
    if not (field 8 bytes 48 == want.at.0) then Err Address else
    if not (field 8 bytes 80 == want.generation) then Err Generation else
    if not (field 8 bytes 88 == want.owner) then Err Owner else
    if not (field 1 bytes 100 == want.level) then Err Level else body

-- the header's fields as they are written: the sum has four bytes and zeros behind; flags are bit 0, written, and back
-- reference revision 1; the uuid of the chunk tree is zero
abbrev pub header_fields : Want → List Field
header_fields want =
    (4, zeros 28)
    ∷ (32, want.fsid)
    ∷ (48, number_bytes 8 want.at.0)
    ∷ (56, number_bytes 8 HEADER_FLAGS)
    ∷ (64, zeros 16)
    ∷ (80, number_bytes 8 want.generation)
    ∷ (88, number_bytes 8 want.owner)
    ∷ (100, number_bytes 1 want.level)
    ∷ []

-- a body with its header, and the sum of all from byte 32 on
unfoldable pub sealed : Want → List ℕ → List ℕ
sealed want bytes = with_sum (with_fields bytes (header_fields want))

-- ---- leaves ("Leaf Node": item headers of 25 bytes from the front, data from the back)

-- a key and the bytes that stand under it
abbrev pub Item : Type 0
Item = Key × List ℕ

-- where the header of item i stands
abbrev pub header_at : ℕ → ℕ
header_at i = HEADER_SIZE + ITEM_HEADER_SIZE * i

abbrev pub item_key : List ℕ → ℕ → Key
item_key bytes i = key_at bytes (header_at i)

-- where the data of item i begin, counted from the end of the block's header
abbrev pub item_offset : List ℕ → ℕ → ℕ
item_offset bytes i = field 4 bytes (header_at i + 17)

abbrev pub item_size : List ℕ → ℕ → ℕ
item_size bytes i = field 4 bytes (header_at i + 21)

abbrev pub item_end : List ℕ → ℕ → ℕ
item_end bytes i = item_offset bytes i + item_size bytes i

abbrev pub item_of : List ℕ → ℕ → Item
item_of bytes i = (item_key bytes i, bytes_at (item_size bytes i) bytes (HEADER_SIZE + item_offset bytes i))

-- the data of item i have the byte at this place
pub record HasByte (bytes : List ℕ) (i at : ℕ) : Type 0 where
  pub from : item_offset bytes i ≤ at
  pub below : at < item_end bytes i

-- the block's body is a leaf with these items
pub record IsLeafBody (bytes : List ℕ) (items : List Item) : Type 0 where
  pub count : count_of bytes ≡ length items
  pub most : length items ≤ MOST_ITEMS
  pub each : (i : ℕ) → i < length items → slice_get items i ≡ Some (item_of bytes i)
  pub order : (i : ℕ) → i + 1 < length items → KeyBelow (item_key bytes i) (item_key bytes (i + 1))
  pub behind_headers : (i : ℕ) → i < length items → ITEM_HEADER_SIZE * length items ≤ item_offset bytes i
  pub inside : (i : ℕ) → i < length items → item_end bytes i ≤ LEAF_BYTES
  pub apart : (i j at : ℕ) → i < j → j < length items → HasByte bytes i at → HasByte bytes j at → ⊥

-- a leaf, read with this want
pub record IsLeaf (want : Want) (bytes : List ℕ) (items : List Item) : Type 0 where
  pub header : HeaderFits want bytes
  pub body : IsLeafBody bytes items

-- places 0 to n - 1
abbrev pub below : ℕ → List ℕ
below n = range_with_len 0 n

abbrev pub in_bounds : List ℕ → ℕ → Bool
in_bounds bytes i = nat_le (ITEM_HEADER_SIZE * count_of bytes) (item_offset bytes i) && nat_le (item_end bytes i) LEAF_BYTES

-- two items share no byte
abbrev pub are_apart : List ℕ → ℕ → ℕ → Bool
are_apart bytes i j = (item_size bytes i == 0) || (item_size bytes j == 0) || nat_le (item_end bytes i) (item_offset bytes j) || nat_le (item_end bytes j) (item_offset bytes i)

-- item i shares no byte with an earlier one
abbrev pub apart_before : List ℕ → ℕ → Bool
apart_before bytes i = list_all (are_apart bytes i) (below i)

-- the items of the body, or its first fault
unfoldable pub leaf_body_of : List ℕ → Result (List Item) BlockFault
leaf_body_of bytes =
    let places = below (count_of bytes) in
    if nat_lt MOST_ITEMS (count_of bytes) then Err Count else
    if not (keys_rise (map (item_key bytes) places)) then Err Order else
    if not (list_all (in_bounds bytes) places) then Err Bounds else
    if not (list_all (apart_before bytes) places) then Err Overlap else Ok (map (item_of bytes) places)

-- the items of a leaf, or the first check that fails
abbrev pub leaf_of : Want → List ℕ → Result (List Item) BlockFault
leaf_of want bytes = after_header want bytes (leaf_body_of bytes)

-- ---- nodes ("Internal Node": pointers of 33 bytes)

-- the first key of a child, its address and its generation
pub record Pointer : Type 0 where
  pub key : Key
  pub at : ℕ
  pub generation : ℕ

-- where pointer i stands
abbrev pub pointer_at : ℕ → ℕ
pointer_at i = HEADER_SIZE + POINTER_SIZE * i

abbrev pub pointer_of : List ℕ → ℕ → Pointer
pointer_of bytes i = record { key = key_at bytes (pointer_at i); at = field 8 bytes (pointer_at i + 17); generation = field 8 bytes (pointer_at i + 25) }

-- the block's body is a node with these pointers
pub record IsNodeBody (bytes : List ℕ) (pointers : List Pointer) : Type 0 where
  pub count : count_of bytes ≡ length pointers
  pub least : 1 ≤ length pointers
  pub most : length pointers ≤ MOST_POINTERS
  pub each : (i : ℕ) → i < length pointers → slice_get pointers i ≡ Some (pointer_of bytes i)
  pub order : (i : ℕ) → i + 1 < length pointers → KeyBelow (key_at bytes (pointer_at i)) (key_at bytes (pointer_at (i + 1)))

-- a node, read with this want
pub record IsNode (want : Want) (bytes : List ℕ) (pointers : List Pointer) : Type 0 where
  pub header : HeaderFits want bytes
  pub body : IsNodeBody bytes pointers

-- the pointers of the body, or its first fault
unfoldable pub node_body_of : List ℕ → Result (List Pointer) BlockFault
node_body_of bytes =
    let places = below (count_of bytes) in
    if (count_of bytes == 0) || nat_lt MOST_POINTERS (count_of bytes) then Err Count else
    if not (keys_rise (map (λ i. key_at bytes (pointer_at i)) places)) then Err Order else Ok (map (pointer_of bytes) places)

-- the pointers of a node, or the first check that fails
abbrev pub node_of : Want → List ℕ → Result (List Pointer) BlockFault
node_of want bytes = after_header want bytes (node_body_of bytes)

-- ---- room

-- what a leaf with these items has left for one more header and its data, of 3995 bytes for both
abbrev pub data_of : List Item → ℕ
data_of [] = 0
data_of (item ∷ items) = length item.1 + data_of items

abbrev pub room_of : List Item → ℕ
room_of items = LEAF_BYTES - (ITEM_HEADER_SIZE * length items + data_of items)
