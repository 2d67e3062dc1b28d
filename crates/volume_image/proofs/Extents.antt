-- A regular extent of a file is read as it is.
use Rattle.std.proofs.Common.{◌≡◌, ◌<◌, ◌+◌, ◌*◌, ◌%◌, ◌/◌, ℕ, zero, suc, true, List, Contains, Ok, refl, subst, arith}
use Rattle.std.proofs.lemmas.Bool.{eq-eqb, le-leb, and_from}
use Rattle.blk_base.specs.declared.key.Key.{Key}
use Rattle.blk_base.specs.Keys.{extent_data}
use Rattle.blk_base.specs.Leaf.{Item}
use Rattle.blk_base.specs.Extents.{Regular, IsExtent, IsRun, is_run, file_limit, extent_of}
use Rattle.volume_image.specs.Subvolume.{extent_len, run_addresses, item_addresses, data_addresses}
use Rattle.volume_image.proofs.Reaches.{head_in, tail_in}
use Rattle.volume_image.proofs.Members.{flat_map_in}

run_test : (len : ℕ) → IsRun len → is_run len ≡ true
run_test len run = and_from _ _ (and_from _ _ (eq-eqb (len % 4096) 0 run.0) (le-leb 4096 len run.1)) (le-leb len file_limit run.2)

pub regular_is_read : (key : Key) (bytes : List ℕ) (at offset len : ℕ) → IsExtent key bytes (Regular at offset len) → extent_of key bytes ≡ Ok (Regular at offset len)
unfolding extent_of
regular_is_read key bytes at offset len (plain, type, size, is_at, is_offset, zero_offset, disk, ram, num, run, aligned) =
    rw (plain.compression, plain.encryption, plain.other_encoding, type, size, is_at, is_offset, zero_offset, disk, ram, num, aligned, run_test len run, eq-eqb len len refl) refl

pub extent_len_regular : (key : Key) (bytes : List ℕ) (at offset len : ℕ) → IsExtent key bytes (Regular at offset len) → extent_len key bytes ≡ len
extent_len_regular key bytes at offset len is = rw (regular_is_read key bytes at offset len is) refl

in_run : (at count i : ℕ) → i < count → Contains (run_addresses at count) (at + 4096 * i)
in_run at zero i below = absurd (omega arith)
in_run at (suc count) zero below = subst (λ (x : ℕ). Contains (run_addresses at (suc count)) x) (omega arith) (head_in at (run_addresses (at + 4096) count))
in_run at (suc count) (suc i) below =
    let later = in_run (at + 4096) count i (omega arith) in
    subst (λ (x : ℕ). Contains (run_addresses at (suc count)) x) (omega arith) (tail_in at ((at + 4096) + 4096 * i) (run_addresses (at + 4096) count) later)

-- the addresses of a regular extent of the items are among the items' addresses
pub run_is_reached : (items : List Item) (key : Key) (bytes : List ℕ) (at offset len i : ℕ) → Contains items (key, bytes) → key.kind ≡ extent_data → IsExtent key bytes (Regular at offset len) → i < len / 4096
    → Contains (data_addresses items) (at + 4096 * i)
run_is_reached items key bytes at offset len i there kind is below =
    flat_map_in item_addresses items (key, bytes) (at + 4096 * i) there
    (rw (eq-eqb key.kind extent_data kind, regular_is_read key bytes at offset len is) (in_run at (len / 4096) i below))
