-- Tree blocks of any size ("Header", "Leaf Node", "Internal Node").
use Rattle.std.specs.Prelude.{ℕ, ◌+◌, ◌-◌, ◌*◌, ◌/◌, Bool, true, ◌&&◌, ◌||◌, not, nat_lt, nat_le, ◌==◌, List, length, map, Option, Some, None, Result, Ok, Err, if◌then◌else◌}
use Rattle.std.specs.List.{list_all}
use Rattle.std.specs.Str.{bytes_eq}
use Rattle.blk_base.specs.declared.fault.BlockFault.{BlockFault}
use Rattle.blk_base.specs.declared.fault.BlockFault.TheVariants.{Checksum, Fsid, Address, Generation, Level, Count, Order, Bounds, Overlap}
use Rattle.blk_base.specs.Bytes.{field, bytes_at}
use Rattle.blk_base.specs.Crc.{block_sum}
use Rattle.blk_base.specs.Keys.{key_at, keys_rise}
use Rattle.blk_base.specs.Leaf.{apart_before, below, count_of, item_end, item_key, item_offset}

-- a generation is the wanted one, where one is wanted
abbrev pub has_generation : Option ℕ → ℕ → Bool
has_generation (Some wanted) generation = generation == wanted
has_generation None generation = true

-- the first check of the header that fails
abbrev pub check_header : List ℕ → ℕ → Option ℕ → ℕ → List ℕ → Result (Unit {0}) BlockFault
check_header fsid at generation level bytes =
    if not (field 4 bytes 0 == block_sum bytes) then Err Checksum else
    if not (bytes_eq (bytes_at 16 bytes 32) fsid) then Err Fsid else
    if not (field 8 bytes 48 == at) then Err Address else
    if not (has_generation generation (field 8 bytes 80)) then Err Generation else
    if not (field 1 bytes 100 == level) then Err Level else Ok tt

-- the data of item i lie between the last item header and the block's end
abbrev pub in_bounds : List ℕ → ℕ → Bool
in_bounds bytes i = nat_le (25 * count_of bytes) (item_offset bytes i) && nat_le (101 + item_end bytes i) (length bytes)

-- the first check of a leaf's body that fails
unfoldable pub leaf_body : List ℕ → Result (Unit {0}) BlockFault
leaf_body bytes =
    let places = below (count_of bytes) in
    if nat_lt ((length bytes - 101) / 25) (count_of bytes) then Err Count else
    if not (keys_rise (map (item_key bytes) places)) then Err Order else
    if not (list_all (in_bounds bytes) places) then Err Bounds else
    if not (list_all (apart_before bytes) places) then Err Overlap else Ok tt

-- the first check of a node's body that fails
unfoldable pub node_body : List ℕ → Result (Unit {0}) BlockFault
node_body bytes =
    if (count_of bytes == 0) || nat_lt ((length bytes - 101) / 33) (count_of bytes) then Err Count else
    if not (keys_rise (map (λ i. key_at bytes (101 + 33 * i)) (below (count_of bytes)))) then Err Order else Ok tt

-- the first fault of two checks, one behind the other
abbrev pub followed_by : Result (Unit {0}) BlockFault → Result (Unit {0}) BlockFault → Result (Unit {0}) BlockFault
followed_by (Ok _) next = next
followed_by (Err fault) next = Err fault

-- the first check that a block fails of those that its reader wants: a block of this file system, at this logical address,
-- of this generation and on this level, a leaf at level 0
abbrev pub check_block : List ℕ → ℕ → Option ℕ → ℕ → List ℕ → Result (Unit {0}) BlockFault
check_block fsid at generation level bytes = followed_by (check_header fsid at generation level bytes) (if level == 0 then leaf_body bytes else node_body bytes)
