-- Bytes with a table of fields written over them, and the superblock, which is written so.
use Rattle.std.proofs.Common.{◌≡◌, ◌≤◌, ◌<◌, ◌+◌, ◌-◌, ◌*◌, ◌/◌, ◌^◌, ◌⊎◌, inl, inr, ℕ, zero, suc, min, Bool, true, ◌&&◌, ◌||◌, nat_le, List, [], ◌∷◌, length, drop, slice_get, get_or, Some, Ok, refl, sym, ap, ◌∙◌, arith}
use Rattle.std.proofs.lemmas.Bool.{and_parts, or_cases, leb-true}
use Rattle.std.proofs.lemmas.List.{take_all}
use Rattle.blk_base.specs.Bytes.{IsBytes, IsBlock, field, bytes_at, with_bytes, number_bytes, zeros}
use Rattle.blk_base.specs.Crc.{block_sum, crc32c_of}
use Rattle.blk_base.specs.Superblock.{SuperValue, SuperFits, IsSuper, IsProfile, super_of, super_bytes, super_fields, magic, profile_flags, Field, with_fields, with_sum}
use Rattle.blk_base.proofs.CrcLemmas.{block_sum-fits}
use Rattle.format_laws.specs.Fields.{All-from_IsBytes, SameBytes, field_same, bytes_same, same_apart, same_inside, field_written, field_of_number, length-with_bytes, length-number_bytes, drop-with_bytes, IsBytes-with_bytes, IsBytes-number_bytes, IsBytes-zeros, IsBytes-from_test, field_of_zeros}
use Rattle.format_laws.specs.Superblock.{super_of-Ok}

-- ---- tables

-- every field of the table lies in the first bytes, so many
abbrev pub is_within : ℕ → List Field → Bool
is_within size [] = true
is_within size (f ∷ fields) = nat_le (f.0 + length f.1) size && is_within size fields

-- no field of the table has one of the n bytes from x on
abbrev pub is_clear : ℕ → ℕ → List Field → Bool
is_clear n x [] = true
is_clear n x (f ∷ fields) = (nat_le (x + n) f.0 || nat_le (f.0 + length f.1) x) && is_clear n x fields

-- the first field, and the others
pub within_parts : (size : ℕ) (f : Field) (fields : List Field) → is_within size (f ∷ fields) ≡ true → (f.0 + length f.1 ≤ size) × (is_within size fields ≡ true)
within_parts size f fields h = let p = and_parts (nat_le (f.0 + length f.1) size) (is_within size fields) h in (leb-true _ _ p.0, p.1)

apart_cases : (n x at len : ℕ) → (nat_le (x + n) at || nat_le (at + len) x) ≡ true → (x + n ≤ at) ⊎ (at + len ≤ x)
apart_cases n x at len h = elim (or_cases (nat_le (x + n) at) (nat_le (at + len) x) h) [ inl a ↦ inl (leb-true _ _ a) | inr b ↦ inr (leb-true _ _ b) ]

-- the length stays where they fit
pub length-with_fields : (b : List ℕ) (fields : List Field) → is_within (length b) fields ≡ true → length (with_fields b fields) ≡ length b
length-with_fields b [] h = refl
length-with_fields b (f ∷ fields) h =
    let p = within_parts (length b) f fields h in
    let e = length-with_bytes b f.0 f.1 p.0 in
    length-with_fields (with_bytes b f.0 f.1) fields (rw e p.1) ∙ e

-- bytes apart from all fields
pub same_clear : (n x : ℕ) (b : List ℕ) (fields : List Field) → is_within (length b) fields ≡ true → is_clear n x fields ≡ true → SameBytes n (with_fields b fields) x b x
same_clear n x b [] h g = record { each = λ k l. refl }
same_clear n x b (f ∷ fields) h g =
    let p = within_parts (length b) f fields h in
    let q = and_parts (nat_le (x + n) f.0 || nat_le (f.0 + length f.1) x) (is_clear n x fields) g in
    let e = length-with_bytes b f.0 f.1 p.0 in
    let later = same_clear n x (with_bytes b f.0 f.1) fields (rw e p.1) q.1 in
    let here = same_apart n b f.0 f.1 x (omega arith) (apart_cases n x f.0 (length f.1) q.0) in
    record { each = λ k l. later.each k l ∙ here.each k l }

-- bytes of the field at place j, which no later one has
pub same_field : (n x j : ℕ) (c b : List ℕ) (fields : List Field) → is_within (length b) fields ≡ true → slice_get fields j ≡ Some (x, c) → length c ≡ n
    → is_clear n x (drop (suc j) fields) ≡ true → SameBytes n (with_fields b fields) x c 0
same_field n x j c b [] h s e g = cc
same_field n x zero c b (f ∷ fields) h s e g =
    let place : f.0 ≡ x = cc in
    let content : f.1 ≡ c = cc in
    let long_content : length f.1 ≡ n = ap length content ∙ e in
    let p = within_parts (length b) f fields h in
    let long = length-with_bytes b f.0 f.1 p.0 in
    let later = same_clear n x (with_bytes b f.0 f.1) fields (rw long p.1) g in
    let z : x - f.0 ≡ 0 = omega arith in
    let here = rw z at (same_inside n b f.0 f.1 x (omega arith) (omega arith) (omega arith)) in
    record { each = λ k l. later.each k l ∙ here.each k l ∙ ap (λ (w : List ℕ). get_or w (0 + k) 0) content }
same_field n x (suc j) c b (f ∷ fields) h s e g =
    let p = within_parts (length b) f fields h in
    let long = length-with_bytes b f.0 f.1 p.0 in
    same_field n x j c (with_bytes b f.0 f.1) fields (rw long p.1) s e g

-- ---- the superblock's table

-- the whole table, over zeros
abbrev table_of : SuperValue → List ℕ
table_of v = with_fields (zeros 4096) (super_fields v)

super_within : (v : SuperValue) → length v.fsid ≡ 16 → is_within 4096 (super_fields v) ≡ true
super_within v h = rw h refl

length-table : (v : SuperValue) → length v.fsid ≡ 16 → length (table_of v) ≡ 4096
length-table v h = length-with_fields (zeros 4096) (super_fields v) (super_within v h)

-- behind the sum stands the table
past_sum : (v : SuperValue) → length v.fsid ≡ 16 → (n x : ℕ) → 4 ≤ x → SameBytes n (super_bytes v) x (table_of v) x
unfolding super_bytes
past_sum v h n x l =
    same_apart n (table_of v) 0 (number_bytes 4 (block_sum (table_of v))) x (omega arith) (inr (rw (length-number_bytes 4 (block_sum (table_of v))) l))

-- bytes of a field of the table
super_field : (v : SuperValue) → length v.fsid ≡ 16 → (n x j : ℕ) (c : List ℕ) → 4 ≤ x → slice_get (super_fields v) j ≡ Some (x, c) → length c ≡ n
    → is_clear n x (drop (suc j) (super_fields v)) ≡ true → SameBytes n (super_bytes v) x c 0
super_field v h n x j c l s e g =
    let table = same_field n x j c (zeros 4096) (super_fields v) (super_within v h) s e g in
    record { each = λ k m. (past_sum v h n x l).each k m ∙ table.each k m }

-- a number of the table
super_number : (v : SuperValue) → length v.fsid ≡ 16 → (n x j w : ℕ) → 4 ≤ x → slice_get (super_fields v) j ≡ Some (x, number_bytes n w)
    → is_clear n x (drop (suc j) (super_fields v)) ≡ true → w < 256 ^ n → field n (super_bytes v) x ≡ w
super_number v h n x j w l s g m = field_same (super_field v h n x j (number_bytes n w) l s (length-number_bytes n w) g) ∙ field_of_number n w m

-- a number that is in no field of the table
super_zero : (v : SuperValue) → length v.fsid ≡ 16 → (n x : ℕ) → 4 ≤ x → is_clear n x (super_fields v) ≡ true → field n (super_bytes v) x ≡ 0
super_zero v h n x l g =
    field_same (past_sum v h n x l) ∙ field_same (same_clear n x (zeros 4096) (super_fields v) (super_within v h) g) ∙ field_of_zeros n 4096 x

-- ---- the superblock is a block

-- the contents of all fields are bytes
abbrev pub AreBytes : List Field → Type 0
AreBytes [] = Unit {0}
AreBytes (f ∷ fields) = IsBytes f.1 × AreBytes fields

pub IsBytes-with_fields : (b : List ℕ) (fields : List Field) → is_within (length b) fields ≡ true → IsBytes b → AreBytes fields → IsBytes (with_fields b fields)
IsBytes-with_fields b [] h g a = g
IsBytes-with_fields b (f ∷ fields) h g a =
    let p = within_parts (length b) f fields h in
    let e = length-with_bytes b f.0 f.1 p.0 in
    IsBytes-with_fields (with_bytes b f.0 f.1) fields (rw e p.1) (IsBytes-with_bytes b f.0 f.1 (omega arith) g a.0) a.1

IsBytes-table : (v : SuperValue) → SuperFits v → IsBytes (table_of v)
IsBytes-table v h =
    let number = IsBytes-number_bytes in
    IsBytes-with_fields (zeros 4096) (super_fields v) (super_within v h.fsid) (IsBytes-zeros 4096) (
      h.fsid_bytes,
      (
        number 8 65536,
        (
          number 8 1,
          (
            IsBytes-from_test magic refl,
            (
              number 8 v.generation,
              (
                number 8 v.root,
                (
                  number 8 v.log_root,
                  (
                    number 8 (v.blocks * 4096),
                    (
                      number 8 (v.used * 4096),
                      (
                        number 8 1,
                        (
                          number 4 4096,
                          (
                            number 4 4096,
                            (
                              number 8 profile_flags,
                              (number 1 v.root_level, (number 1 v.log_root_level, tt)),
                            ),
                          ),
                        ),
                      ),
                    ),
                  ),
                ),
              ),
            ),
          ),
        ),
      ),
    )

pub length-super_bytes : (v : SuperValue) → length v.fsid ≡ 16 → length (super_bytes v) ≡ 4096
unfolding super_bytes
length-super_bytes v h =
    let e = length-table v h in
    let l = length-number_bytes 4 (block_sum (table_of v)) in
    length-with_bytes (table_of v) 0 (number_bytes 4 (block_sum (table_of v))) (omega arith) ∙ e

pub IsBlock-super_bytes : (v : SuperValue) → SuperFits v → IsBlock (super_bytes v)
unfolding super_bytes
IsBlock-super_bytes v h = record {
  size = length-super_bytes v h.fsid;
  range = All-from_IsBytes _ (IsBytes-with_bytes (table_of v) 0 (number_bytes 4 (block_sum (table_of v))) (omega arith) (IsBytes-table v h) (IsBytes-number_bytes 4 (block_sum (table_of v))));
}

-- ---- the superblock is read back

pub block_sum-with_sum : (b : List ℕ) → 4 ≤ length b → block_sum (with_sum b) ≡ block_sum b
unfolding block_sum
block_sum-with_sum b h =
    let l = length-number_bytes 4 (block_sum b) in
    ap crc32c_of (drop-with_bytes 32 b 0 (number_bytes 4 (block_sum b)) (omega arith) (omega arith))

super_sum : (v : SuperValue) → SuperFits v → field 4 (super_bytes v) 0 ≡ block_sum (super_bytes v)
unfolding super_bytes
super_sum v h =
    let t = table_of v in
    let e = length-table v h.fsid in
    let fits : block_sum t < 256 ^ 4 = block_sum-fits t (All-from_IsBytes t (IsBytes-table v h)) in
    field_written 4 t 0 (block_sum t) (omega arith) fits ∙ sym (block_sum-with_sum t (omega arith))

super_part : (v : SuperValue) → length v.fsid ≡ 16 → (n x j : ℕ) (c : List ℕ) → 4 ≤ x → slice_get (super_fields v) j ≡ Some (x, c) → length c ≡ n
    → is_clear n x (drop (suc j) (super_fields v)) ≡ true → x + n ≤ 4096 → bytes_at n (super_bytes v) x ≡ c
super_part v h n x j c l s e g m =
    bytes_same (super_field v h n x j c l s e g) (rw (length-super_bytes v h) m) (omega arith) ∙ take_all n c (omega arith)

used_of : (n used : ℕ) → n ≡ used * 4096 → used < 2 ^ 32 → min (n / 4096) (2 ^ 32 - 1) ≡ used
used_of n used e h = let q : n / 4096 ≡ used = omega arith in rw q (omega arith)

root_fits : (v : SuperValue) → SuperFits v → v.root < 256 ^ 8
root_fits v h = let a = h.root.inside in let b = h.greatest in omega arith

super_profile : (v : SuperValue) → SuperFits v → IsProfile (super_bytes v)
super_profile v h =
    let f = h.fsid in
    record {
      magic = super_part v f 8 0x40 3 magic (omega arith) refl refl refl (omega arith);
      sum_kind = super_zero v f 2 0xc4 (omega arith) (rw f refl);
      sum = super_sum v h;
      own_address = super_number v f 8 0x30 1 65536 (omega arith) refl refl (omega arith);
      devices = super_number v f 8 0x88 9 1 (omega arith) refl refl (omega arith);
      sector_size = super_number v f 4 0x90 10 4096 (omega arith) refl refl (omega arith);
      node_size = super_number v f 4 0x94 11 4096 (omega arith) refl refl (omega arith);
      flags = super_number v f 8 0xbc 12 profile_flags (omega arith) refl refl (omega arith);
      chunk_root = super_zero v f 8 0x58 (omega arith) (rw f refl);
      chunk_array = super_zero v f 4 0xa0 (omega arith) (rw f refl);
    }

pub IsSuper-super_bytes : (v : SuperValue) (disk_blocks : ℕ) → SuperFits v → v.blocks ≤ disk_blocks → IsSuper (super_bytes v) disk_blocks v
IsSuper-super_bytes v disk_blocks h on_disk =
    let f = h.fsid in
    let blocks_most = h.greatest in
    let used_most = h.used in
    record {
      profile = super_profile v h;
      fsid = super_part v f 16 0x20 0 v.fsid (omega arith) refl f refl (omega arith);
      generation = super_number v f 8 0x48 4 v.generation (omega arith) refl refl h.generation;
      root = super_number v f 8 0x50 5 v.root (omega arith) refl refl (root_fits v h);
      log_root = super_number v f 8 0x60 6 v.log_root (omega arith) refl refl h.log_root;
      size = super_number v f 8 0x70 7 (v.blocks * 4096) (omega arith) refl refl (omega arith);
      used = used_of _ _ (super_number v f 8 0x78 8 (v.used * 4096) (omega arith) refl refl (omega arith)) h.used;
      root_level = super_number v f 1 0xc6 13 v.root_level (omega arith) refl refl (let l = h.low in omega arith);
      log_root_level = super_number v f 1 0xc8 14 v.log_root_level (omega arith) refl refl (let l = h.log_low in omega arith);
      smallest = h.smallest;
      greatest = h.greatest;
      on_disk = on_disk;
      allowed = h.root;
      low = h.low;
      log_low = h.log_low;
      no_log = h.no_log;
    }

pub super_reads_back : (v : SuperValue) (disk_blocks : ℕ) → SuperFits v → v.blocks ≤ disk_blocks → super_of (super_bytes v) disk_blocks ≡ Ok v
super_reads_back v disk_blocks h g = super_of-Ok (super_bytes v) disk_blocks v (IsSuper-super_bytes v disk_blocks h g)
