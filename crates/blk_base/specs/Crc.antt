-- CRC-32C over bytes, and the hashes of names that are made of it.
use Rattle.std.specs.Prelude.{ℕ, zero, suc, ◌/◌, ◌%◌, ◌^◌, List, cond, nat_eq, bit_xor, drop, fold}

-- one bit of the register, low bit first, by the polynomial 0x1EDC6F41 with its bits turned round ("Checksums": CRC-32C)
unfoldable pub crc_bit : ℕ → ℕ
crc_bit register = cond (nat_eq (register % 2) 1) (bit_xor (register / 2) 0x82F6_3B78) (register / 2)

-- so many bits of the register, one after the other ("Checksums": CRC-32C)
unfoldable pub crc_bits : ℕ → ℕ → ℕ
crc_bits zero register = register
crc_bits (suc count) register = crc_bits count (crc_bit register)

-- a byte into the register: its eight bits ("Checksums": CRC-32C)
unfoldable pub crc_byte : ℕ → ℕ → ℕ
crc_byte register byte = crc_bits 8 (bit_xor register byte)

-- the register after these bytes, begun at `start` ("Checksums": CRC-32C)
unfoldable pub register_after : ℕ → List ℕ → ℕ
register_after start bytes = fold crc_byte start bytes

-- the CRC-32C of these bytes: begun at all ones, and all bits turned at the end ("Checksums": CRC-32C)
unfoldable pub crc32c_of : List ℕ → ℕ
crc32c_of bytes = bit_xor (register_after 0xFFFF_FFFF bytes) 0xFFFF_FFFF

-- the sum of a block: that of its bytes from 32 on ("Superblock" and "Header": csum)
unfoldable pub block_sum : List ℕ → ℕ
block_sum bytes = crc32c_of (drop 32 bytes)

-- the hash of a name in a directory: the register begun at all ones but the lowest, with no bit turned at the end ("DIR_ITEM": crc32c of the name)
unfoldable pub name_hash_of : List ℕ → ℕ
name_hash_of name = register_after 0xFFFF_FFFE name

-- the hash of a name beside the directory that has it: the register begun at the low 32 bits of the directory's number ("INODE_EXTREF": crc32c of the name)
unfoldable pub extref_hash_of : ℕ → List ℕ → ℕ
extref_hash_of parent name = register_after (parent % 2 ^ 32) name
