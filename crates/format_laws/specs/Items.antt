-- Items of fixed length are read exactly where they are such items, and what is written is read back.
use Rattle.std.proofs.Common.{◌≡◌, ◌<◌, ◌^◌, ◌⊎◌, inl, inr, ℕ, true, List, length, drop, Ok, refl, ap, ◌∙◌, arith}
use Rattle.std.proofs.lemmas.Bool.{or_cases, or_left, or_right, eqb-true, eq-eqb}
use Rattle.blk_base.specs.Bytes.{number_bytes}
use Rattle.blk_base.specs.Items.{InodeValue, IsInode, inode_of, inode_value, inode_bytes, is_mode, file_mode, dir_mode, link_mode, RootValue, RootFits, IsRoot, root_of, root_value, root_bytes, IsRange, range_of}
use Rattle.format_laws.specs.Checks.{passed, passes, same_ok}
use Rattle.format_laws.specs.Fields.{field_split, field_of_number}

-- ---- modes

-- a mode of a file, a directory or a symlink
abbrev pub IsMode : ℕ → Type 0
IsMode mode = (mode ≡ file_mode) ⊎ (mode ≡ dir_mode) ⊎ (mode ≡ link_mode)

pub IsMode-from_test : (mode : ℕ) → is_mode mode ≡ true → IsMode mode
IsMode-from_test mode h = elim (or_cases _ _ h) [
  | inl either ↦ elim (or_cases _ _ either) [ inl file ↦ inl (eqb-true _ _ file) | inr dir ↦ inr (inl (eqb-true _ _ dir)) ]
  | inr link ↦ inr (inr (eqb-true _ _ link))
]

pub is_mode-true : (mode : ℕ) → IsMode mode → is_mode mode ≡ true
is_mode-true mode (inl file) = or_left _ _ (or_left _ _ (eq-eqb _ _ file))
is_mode-true mode (inr (inl dir)) = or_left _ _ (or_right _ _ (eq-eqb _ _ dir))
is_mode-true mode (inr (inr link)) = or_right _ _ (eq-eqb _ _ link)

-- ---- inode items

pub IsInode-from_read : (bytes : List ℕ) (v : InodeValue) → inode_of bytes ≡ Ok v → IsInode bytes v
unfolding inode_of
IsInode-from_read bytes v h =
    let a = passed _ _ _ _ h in
    let b = passed _ _ _ _ a.1 in
    let s : IsInode bytes (inode_value bytes) = record { size = eqb-true _ _ a.0; value = refl; mode = IsMode-from_test _ b.0 } in
    rw (same_ok b.1) at s

pub inode_of-Ok : (bytes : List ℕ) (v : InodeValue) → IsInode bytes v → inode_of bytes ≡ Ok v
unfolding inode_of
inode_of-Ok bytes v s =
    let t = rw (← s.value) at s in
    passes _ _ _ (eq-eqb _ _ s.size) ∙ passes _ _ _ (is_mode-true _ t.mode) ∙ ap Ok s.value

-- what can be written as an inode item
pub record InodeFits (v : InodeValue) : Type 0 where
  pub generation : v.generation < 2 ^ 64
  pub transid : v.transid < 2 ^ 64
  pub size : v.size < 2 ^ 64
  pub nbytes : v.nbytes < 2 ^ 64
  pub nlink : v.nlink < 2 ^ 32
  pub mode : IsMode v.mode

mode_fits : (mode : ℕ) → IsMode mode → mode < 2 ^ 32
mode_fits mode (inl file) = omega arith
mode_fits mode (inr (inl dir)) = omega arith
mode_fits mode (inr (inr link)) = omega arith

inode_value-bytes : (v : InodeValue) → InodeFits v → inode_value (inode_bytes v) ≡ v
unfolding inode_bytes
inode_value-bytes v h =
    let b = inode_bytes v in
    rw (
      field_split 8 v.generation 0 b (drop 8 b) refl h.generation,
      field_split 8 v.transid 8 b (drop 16 b) refl h.transid,
      field_split 8 v.size 16 b (drop 24 b) refl h.size,
      field_split 8 v.nbytes 24 b (drop 32 b) refl h.nbytes,
      field_split 4 v.nlink 40 b (drop 44 b) refl h.nlink,
      field_split 4 v.mode 52 b (drop 56 b) refl (mode_fits v.mode h.mode),
    ) refl

length-inode_bytes : (v : InodeValue) → length (inode_bytes v) ≡ 160
unfolding inode_bytes
length-inode_bytes v = refl

pub inode_reads_back : (v : InodeValue) → InodeFits v → inode_of (inode_bytes v) ≡ Ok v
inode_reads_back v h =
    inode_of-Ok (inode_bytes v) v (record { size = length-inode_bytes v; value = inode_value-bytes v h; mode = h.mode })

-- ---- root items

pub IsRoot-from_read : (bytes : List ℕ) (v : RootValue) → root_of bytes ≡ Ok v → IsRoot bytes v
unfolding root_of
IsRoot-from_read bytes v h = let a = passed _ _ _ _ h in record { size = eqb-true _ _ a.0; value = same_ok a.1 }

pub root_of-Ok : (bytes : List ℕ) (v : RootValue) → IsRoot bytes v → root_of bytes ≡ Ok v
unfolding root_of
root_of-Ok bytes v s = passes _ _ _ (eq-eqb _ _ s.size) ∙ ap Ok s.value

root_value-bytes : (v : RootValue) → RootFits v → root_value (root_bytes v) ≡ v
unfolding root_bytes
root_value-bytes v h =
    let b = root_bytes v in
    rw (
      field_split 8 v.generation 160 b (drop 168 b) refl h.generation,
      field_split 8 v.at 176 b (drop 184 b) refl h.at,
      field_split 1 v.level 238 b (drop 239 b) refl h.level,
    ) refl

length-root_bytes : (v : RootValue) → length (root_bytes v) ≡ 439
unfolding root_bytes
length-root_bytes v = refl

pub root_reads_back : (v : RootValue) → RootFits v → root_of (root_bytes v) ≡ Ok v
root_reads_back v h = root_of-Ok (root_bytes v) v (record { size = length-root_bytes v; value = root_value-bytes v h })

-- ---- ranges of a log

pub IsRange-from_read : (bytes : List ℕ) (last : ℕ) → range_of bytes ≡ Ok last → IsRange bytes last
unfolding range_of
IsRange-from_read bytes last h = let a = passed _ _ _ _ h in record { size = eqb-true _ _ a.0; value = same_ok a.1 }

pub range_of-Ok : (bytes : List ℕ) (last : ℕ) → IsRange bytes last → range_of bytes ≡ Ok last
unfolding range_of
range_of-Ok bytes last s = passes _ _ _ (eq-eqb _ _ s.size) ∙ ap Ok s.value

pub range_reads_back : (last : ℕ) → last < 2 ^ 64 → range_of (number_bytes 8 last) ≡ Ok last
range_reads_back last h = range_of-Ok (number_bytes 8 last) last (record { size = refl; value = field_of_number 8 last h })
