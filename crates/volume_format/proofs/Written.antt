-- The writes of `encode`, one after the other, give the bytes of the grammar.
use Rattle.std.proofs.Common.{◌≡◌, ◌*◌, ℕ, List, refl}
use Rattle.blk_base.specs.Bytes.{with_bytes, with_field, zeros}
use Rattle.blk_base.specs.Items.{RootValue, root_bytes}
use Rattle.blk_base.specs.Superblock.{SuperValue, super_bytes, magic, profile_flags, with_sum}

pub super_written : (v : SuperValue) {b1 b2 b3 b4 b5 b6 b7 b8 b9 b10 b11 b12 b13 b14 b15 b16 : List ℕ}
    → b1 ≡ with_bytes (zeros 4096) 0x20 v.fsid
    → b2 ≡ with_field 8 b1 0x30 65536
    → b3 ≡ with_field 8 b2 0x38 1
    → b4 ≡ with_bytes b3 0x40 magic
    → b5 ≡ with_field 8 b4 0x48 v.generation
    → b6 ≡ with_field 8 b5 0x50 v.root
    → b7 ≡ with_field 8 b6 0x60 v.log_root
    → b8 ≡ with_field 8 b7 0x70 (v.blocks * 4096)
    → b9 ≡ with_field 8 b8 0x78 (v.used * 4096)
    → b10 ≡ with_field 8 b9 0x88 1
    → b11 ≡ with_field 4 b10 0x90 4096
    → b12 ≡ with_field 4 b11 0x94 4096
    → b13 ≡ with_field 8 b12 0xbc profile_flags
    → b14 ≡ with_field 1 b13 0xc6 v.root_level
    → b15 ≡ with_field 1 b14 0xc8 v.log_root_level
    → b16 ≡ with_sum b15
    → b16 ≡ super_bytes v
unfolding super_bytes
super_written v e1 e2 e3 e4 e5 e6 e7 e8 e9 e10 e11 e12 e13 e14 e15 e16 =
    rw (e16, e15, e14, e13, e12, e11, e10, e9, e8, e7, e6, e5, e4, e3, e2, e1) refl

pub root_written : (v : RootValue) {b1 b2 b3 b4 b5 b6 : List ℕ}
    → b1 ≡ with_field 8 (zeros 439) 160 v.generation
    → b2 ≡ with_field 8 b1 168 256
    → b3 ≡ with_field 8 b2 176 v.at
    → b4 ≡ with_field 4 b3 216 1
    → b5 ≡ with_field 1 b4 238 v.level
    → b6 ≡ with_field 8 b5 239 v.generation
    → b6 ≡ root_bytes v
unfolding root_bytes with_bytes
root_written v e1 e2 e3 e4 e5 e6 = rw (e6, e5, e4, e3, e2, e1) refl
