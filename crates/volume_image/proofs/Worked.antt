-- The worked items are those of the worked subvolume.
use Rattle.std.proofs.Common.{◌≡◌, ◌≢◌, ◌<◌, ◌+◌, ◌*◌, ◌^◌, ◌&&◌, ◌⊎◌, ℕ, zero, suc, Bool, true, false, not, cond, is_some, List, [], ◌∷◌, Contains, Option, Some, None, Ordering, Less, Equal, Greater, nat_cmp, is_eq, nat_eq, filter, map, slice_get, IsPermutation, refl, sym, ap, subst, ◌∙◌, arith, inl, inr, append-nil}
use Rattle.std.proofs.lemmas.Bool.{and_parts, eqb-true, eqb-false}
use Rattle.std.proofs.lemmas.List.Elements.{All-from_recursion, All-contains, Contains-append_cases}
use Rattle.std.proofs.lemmas.List.Sorted.{IsPermutation-refl}
use Rattle.std.specs.List.{AllByRecursion}
use Rattle.std.specs.Ordering.{eq_by_cmp}
use Rattle.std.specs.Cmp.{nat_cmp_total}
use Rattle.std.specs.Cmp.Lexicographic.{slice_cmp, nat_list_cmp_total}
use Rattle.std.specs.FinMap.{get, len, insert, empty, entries, put, get-insert, get-empty, len-insert, len-empty, entries-insert, nat_cmp-IsAntisymmetric}
use Rattle.blk_base.specs.declared.key.Key.{Key}
use Rattle.blk_base.specs.Bytes.{field}
use Rattle.blk_base.specs.Crc.{name_hash_of, extref_hash_of, register_after, crc_byte, crc_bits, crc_bit}
use Rattle.blk_base.specs.Name.{IsName, is_name}
use Rattle.blk_base.proofs.NameLemmas.{is_name_decides}
use Rattle.blk_base.specs.Keys.{inode_item, inode_ref, inode_extref, xattr_item, dir_item, dir_index, extent_data}
use Rattle.blk_base.specs.Leaf.{Item}
use Rattle.blk_base.specs.Items.{InodeValue, IsInode, inode_bytes}
use Rattle.blk_base.specs.Entries.{RefValue, EntryValue, IsRefs, IsEntries, IsEntryKind, EntryFits, ref_bytes, extref_bytes, entry_bytes, dots}
use Rattle.blk_base.specs.Extents.{Regular, Inline, IsExtent, inline_bytes, regular_bytes}
use Rattle.format_laws.specs.Items.{InodeFits, IsInode-from_read, inode_reads_back}
use Rattle.flat_model.specs.Names.{FlatName}
use Rattle.flat_model.specs.Records.{InodeRecord, FileInode, LinkInode, FileRecord, LinkRecord, new_dir, attributes_of}
use Rattle.volume_image.specs.Subvolume.{Data, AreItemsOf, IsAsked, InodeAsked, RefsAsked, ExtRefsAsked, AttributesAsked, HashedAsked, IndexedAsked, ExtentAsked, HasEntries, HasKey, CoversBlock, make_key, size_of, own_refs, refs_asked, extrefs_asked, attributes_asked, attributes_there, attribute_entry, hashed_asked, indexed_asked, entry_of, entry_kind_of, ref_of, extref_of, without_transid}
use Rattle.volume_image.specs.Worked.{name_d, name_f, name_g, name_l, worked_file, worked_link, worked_subvolume, worked_inode, worked_entry, worked_attribute, worked_ref, worked_extref, worked_items}
use Rattle.volume_image.proofs.Lists.{in_nothing, in_cons, entries_empty}
use Rattle.volume_image.proofs.Members.{in_filter, in_map, has_some}
use Rattle.volume_image.proofs.Extents.{extent_len_regular}

-- ---- hashes

hash_d : name_hash_of (100 ∷ []) ≡ 4189400016
unfolding name_hash_of register_after crc_byte crc_bits crc_bit
hash_d = refl

hash_f : name_hash_of (102 ∷ []) ≡ 411982631
unfolding name_hash_of register_after crc_byte crc_bits crc_bit
hash_f = refl

hash_g : name_hash_of (103 ∷ []) ≡ 3940931620
unfolding name_hash_of register_after crc_byte crc_bits crc_bit
hash_g = refl

hash_l : name_hash_of (108 ∷ []) ≡ 1936487199
unfolding name_hash_of register_after crc_byte crc_bits crc_bit
hash_l = refl

hash_a : name_hash_of (97 ∷ []) ≡ 3427024844
unfolding name_hash_of register_after crc_byte crc_bits crc_bit
hash_a = refl

far_hash_g : extref_hash_of 257 (103 ∷ []) ≡ 1197962379
unfolding extref_hash_of register_after crc_byte crc_bits crc_bit
far_hash_g = refl

-- ---- the inodes

key_case : (r : Ordering) (x : InodeRecord) (rest : Option InodeRecord) (y : InodeRecord) → cond (is_eq r) (Some x) rest ≡ Some y → ((r ≡ Equal) × (y ≡ x)) ⊎ (rest ≡ Some y)
key_case Less x rest y e = inr e
key_case Equal x rest y e = inl (refl, cc)
key_case Greater x rest y e = inr e

-- what holds of each of the four inodes
pub record InodeCases (P : ℕ → InodeRecord → Type 0) (file : FileRecord) : Type 0 where
  pub root : P 256 new_dir
  pub dir : P 257 new_dir
  pub file_case : P 258 (FileInode file)
  pub link : P 259 (LinkInode worked_link)

module _ (block : List ℕ) where
  inode_at : (ino : ℕ) → get (worked_subvolume block).inodes ino
      ≡ cond (eq_by_cmp nat_cmp ino 259) (Some (LinkInode worked_link)) (cond (eq_by_cmp nat_cmp ino 258) (Some (FileInode (worked_file block))) (cond (eq_by_cmp nat_cmp ino 257) (Some new_dir) (cond (eq_by_cmp nat_cmp ino 256) (Some new_dir) None)))
  inode_at ino =
      get-insert nat_cmp_total (insert (insert (insert empty 256 new_dir) 257 new_dir) 258 (FileInode (worked_file block))) 259 (LinkInode worked_link) ino
      ∙ ap (cond (eq_by_cmp nat_cmp ino 259) (Some (LinkInode worked_link)))
      (get-insert nat_cmp_total (insert (insert empty 256 new_dir) 257 new_dir) 258 (FileInode (worked_file block)) ino
      ∙ ap (cond (eq_by_cmp nat_cmp ino 258) (Some (FileInode (worked_file block))))
      (get-insert nat_cmp_total (insert empty 256 new_dir) 257 new_dir ino
      ∙ ap (cond (eq_by_cmp nat_cmp ino 257) (Some new_dir))
      (get-insert nat_cmp_total empty 256 new_dir ino ∙ ap (cond (eq_by_cmp nat_cmp ino 256) (Some new_dir)) (get-empty nat_cmp ino))))

  -- what holds of each of the four inodes holds of all
  inode_cases : (P : ℕ → InodeRecord → Type 0) → InodeCases P (worked_file block) → (ino : ℕ) (inode : InodeRecord) → get (worked_subvolume block).inodes ino ≡ Some inode → P ino inode
  inode_cases P cases ino inode there =
      let place = λ (n : ℕ) (x : InodeRecord) (is : nat_cmp ino n ≡ Equal) (same : inode ≡ x) (h : P n x). subst (λ (m : ℕ). P m inode) (sym (nat_cmp-IsAntisymmetric ino n is)) (subst (P n) (sym same) h) in
      elim (key_case (nat_cmp ino 259) (LinkInode worked_link) _ inode (sym (inode_at ino) ∙ there)) [
        | inl link ↦ place 259 (LinkInode worked_link) link.0 link.1 cases.link
        | inr other ↦ elim (key_case (nat_cmp ino 258) (FileInode (worked_file block)) _ inode other) [
          | inl file ↦ place 258 (FileInode (worked_file block)) file.0 file.1 cases.file_case
          | inr other ↦ elim (key_case (nat_cmp ino 257) new_dir _ inode other) [
            | inl dir ↦ place 257 new_dir dir.0 dir.1 cases.dir
            | inr other ↦ elim (key_case (nat_cmp ino 256) new_dir None inode other) [
              | inl root ↦ place 256 new_dir root.0 root.1 cases.root
              | inr none ↦ absurd (none_some inode none)
            ]
          ]
        ]
      ]
    where
      none_some : (inode : InodeRecord) → None ≡ Some inode → ⊥
      none_some inode e = cc

  -- what holds of each of the four names holds of all
  name_cases : (P : FlatName → Type 0) → P name_d → P name_f → P name_g → P name_l → (name : FlatName) → Contains (worked_subvolume block).names name → P name
  name_cases P d f g l name there = All-contains P (name_d ∷ name_f ∷ name_g ∷ name_l ∷ []) name (All-from_recursion P (name_d ∷ name_f ∷ name_g ∷ name_l ∷ []) (d, (f, (g, (l, tt))))) there

-- ---- each item is asked for

one_byte_name : (b : ℕ) → is_name (b ∷ []) ≡ true → IsName (b ∷ [])
one_byte_name b test = (is_name_decides (b ∷ [])).0 test

is_d : IsName (100 ∷ [])
unfolding is_name
is_d = one_byte_name 100 refl

is_f : IsName (102 ∷ [])
unfolding is_name
is_f = one_byte_name 102 refl

is_g : IsName (103 ∷ [])
unfolding is_name
is_g = one_byte_name 103 refl

is_l : IsName (108 ∷ [])
unfolding is_name
is_l = one_byte_name 108 refl

is_a : IsName (97 ∷ [])
unfolding is_name
is_a = one_byte_name 97 refl

inode_spelled : (v : InodeValue) → InodeFits v → IsInode (inode_bytes v) v
inode_spelled v fits = IsInode-from_read (inode_bytes v) v (inode_reads_back v fits)

one_ref : (key : Key) (index : ℕ) (name : List ℕ) → index < 2 ^ 64 → IsName name → IsRefs key (ref_bytes (worked_ref index name)) (worked_ref index name ∷ [])
one_ref key index name fits is = record { some = λ e. absurd cc; spelled = sym (append-nil (ref_bytes (worked_ref index name))); indexes = (fits, tt); names = (inl is, tt) }

one_entry : (kind : ℕ) (e : EntryValue) → EntryFits e → IsName e.name → IsEntryKind kind e → IsEntries kind (entry_bytes e) (e ∷ [])
one_entry kind e fits is entry_kind = record {
  some = λ z. absurd cc;
  spelled = sym (append-nil (entry_bytes e));
  fields = (fits, tt);
  names = (is, tt);
  kinds = (entry_kind, tt);
  once = λ i j a b below first second. absurd (only_first i j b below second);
  single = λ k. refl;
}
  where
    only_first : (i j : ℕ) (b : EntryValue) → i < j → slice_get (e ∷ []) j ≡ Some b → ⊥
    only_first i zero b below second = omega arith
    only_first i (suc j) b below second = cc

has_one : (kind : ℕ) (e : EntryValue) (asked : List EntryValue) → IsEntries kind (entry_bytes e) (e ∷ []) → asked ≡ without_transid e ∷ [] → HasEntries kind (entry_bytes e) asked
has_one kind e asked is same = record { found = e ∷ []; spelled = is; same = subst (IsPermutation (without_transid e ∷ [])) (sym same) (IsPermutation-refl (without_transid e ∷ [])) }

named_fits : (ino kind : ℕ) (name : List ℕ) → ino < 2 ^ 64 → EntryFits (worked_entry ino kind name)
named_fits ino kind name fits = record { target = record { objectid = fits; kind = omega arith; offset = omega arith }; transid = omega arith; value = omega arith }

module _ (block : List ℕ) where
  entry_is : (name : FlatName) (kind : ℕ) → entry_kind_of (get (worked_subvolume block).inodes name.ino) ≡ kind → entry_of (worked_subvolume block) name ≡ without_transid (worked_entry name.ino kind name.bytes)
  entry_is name kind is = λ i. record { target = make_key name.ino inode_item 0; transid = 0; kind = is i; name = name.bytes; value = [] }

  entry_d : entry_of (worked_subvolume block) name_d ≡ without_transid (worked_entry 257 2 (100 ∷ []))
  entry_d = entry_is name_d 2 (ap entry_kind_of (inode_at block 257))

  entry_f : entry_of (worked_subvolume block) name_f ≡ without_transid (worked_entry 258 1 (102 ∷ []))
  entry_f = entry_is name_f 1 (ap entry_kind_of (inode_at block 258))

  entry_g : entry_of (worked_subvolume block) name_g ≡ without_transid (worked_entry 258 1 (103 ∷ []))
  entry_g = entry_is name_g 1 (ap entry_kind_of (inode_at block 258))

  entry_l : entry_of (worked_subvolume block) name_l ≡ without_transid (worked_entry 259 7 (108 ∷ []))
  entry_l = entry_is name_l 7 (ap entry_kind_of (inode_at block 259))

  hashed_d : hashed_asked (worked_subvolume block) 256 4189400016 ≡ without_transid (worked_entry 257 2 (100 ∷ [])) ∷ []
  hashed_d = rw (hash_d, entry_d) refl

  hashed_f : hashed_asked (worked_subvolume block) 257 411982631 ≡ without_transid (worked_entry 258 1 (102 ∷ [])) ∷ []
  hashed_f = rw (hash_f, hash_g, hash_l, entry_f) refl

  hashed_g : hashed_asked (worked_subvolume block) 257 3940931620 ≡ without_transid (worked_entry 258 1 (103 ∷ [])) ∷ []
  hashed_g = rw (hash_f, hash_g, hash_l, entry_g) refl

  hashed_l : hashed_asked (worked_subvolume block) 257 1936487199 ≡ without_transid (worked_entry 259 7 (108 ∷ [])) ∷ []
  hashed_l = rw (hash_f, hash_g, hash_l, entry_l) refl

  attribute_entries : entries (attributes_of (FileInode (worked_file block))) ≡ (97 ∷ [], 1 ∷ []) ∷ []
  attribute_entries = entries-insert nat_list_cmp_total empty (97 ∷ []) (1 ∷ []) ∙ ap (put (slice_cmp nat_cmp) (97 ∷ []) (1 ∷ [])) (entries_empty (slice_cmp nat_cmp))

  attributes_a : attributes_asked (worked_subvolume block) 258 3427024844 ≡ without_transid worked_attribute ∷ []
  attributes_a =
      ap (λ (r : Option InodeRecord). map attribute_entry (filter (λ attribute. nat_eq (name_hash_of attribute.0) 3427024844) (attributes_there r))) (inode_at block 258)
      ∙ ap (λ (es : List (List ℕ × List ℕ)). map attribute_entry (filter (λ attribute. nat_eq (name_hash_of attribute.0) 3427024844) es)) attribute_entries
      ∙ ap (λ (h : ℕ). map attribute_entry (cond (nat_eq h 3427024844) ((97 ∷ [], 1 ∷ []) ∷ []) [])) hash_a

  one_block : len (worked_file block).blocks ≡ 1
  one_block =
      len-insert nat_cmp_total (empty {X = List ℕ}) 0 block
      ∙ ap (λ (r : Option (List ℕ)). cond (is_some r) (len (empty {X = List ℕ} {R = nat_cmp})) (len (empty {X = List ℕ} {R = nat_cmp}) + 1)) (get-empty nat_cmp 0)
      ∙ ap (λ (n : ℕ). n + 1) (len-empty nat_cmp (List ℕ))

  regular_is : IsExtent (make_key 258 extent_data 0) (regular_bytes 7 81920 4096) (Regular 81920 0 4096)
  unfolding regular_bytes field
  regular_is = (record { compression = refl; encryption = refl; other_encoding = refl }, refl, refl, refl, refl, refl, refl, refl, refl, (refl, omega arith, omega arith), refl)

  inline_is : IsExtent (make_key 259 extent_data 0) (inline_bytes 7 (120 ∷ [])) (Inline (120 ∷ []))
  unfolding inline_bytes field
  inline_is = (record { compression = refl; encryption = refl; other_encoding = refl }, refl, omega arith, refl, refl, refl)

  dir_asked : (blocks : Data) (ino size : ℕ) → size < 2 ^ 64 → get (worked_subvolume block).inodes ino ≡ Some new_dir → size ≡ size_of (worked_subvolume block) ino new_dir
      → IsAsked (worked_subvolume block) blocks (make_key ino 1 0) (inode_bytes (worked_inode size 0 1 16877))
  dir_asked blocks ino size fits there is =
      InodeAsked new_dir refl refl there
      (record {
        value = worked_inode size 0 1 16877;
        spelled = inode_spelled (worked_inode size 0 1 16877) (record { generation = omega arith; transid = omega arith; size = fits; nbytes = omega arith; nlink = omega arith; mode = inr (inl refl) });
        mode = refl;
        size = is;
        nbytes = refl;
        nlink = refl;
      })

  file_asked : (blocks : Data) → IsAsked (worked_subvolume block) blocks (make_key 258 1 0) (inode_bytes (worked_inode 5 4096 2 33188))
  file_asked blocks =
      InodeAsked (FileInode (worked_file block)) refl refl (inode_at block 258)
      (record {
        value = worked_inode 5 4096 2 33188;
        spelled = inode_spelled (worked_inode 5 4096 2 33188) (record { generation = omega arith; transid = omega arith; size = omega arith; nbytes = omega arith; nlink = omega arith; mode = inl refl });
        mode = refl;
        size = refl;
        nbytes = ap (λ (n : ℕ). 4096 * n) (sym one_block);
        nlink = refl;
      })

  link_asked : (blocks : Data) → IsAsked (worked_subvolume block) blocks (make_key 259 1 0) (inode_bytes (worked_inode 1 1 1 41471))
  link_asked blocks =
      InodeAsked (LinkInode worked_link) refl refl (inode_at block 259)
      (record {
        value = worked_inode 1 1 1 41471;
        spelled = inode_spelled (worked_inode 1 1 1 41471) (record { generation = omega arith; transid = omega arith; size = omega arith; nbytes = omega arith; nlink = omega arith; mode = inr (inr refl) });
        mode = refl;
        size = refl;
        nbytes = refl;
        nlink = refl;
      })

  ref_asked : (blocks : Data) (ino parent index : ℕ) (name : List ℕ) → index < 2 ^ 64 → IsName name → refs_asked (worked_subvolume block) ino parent ≡ worked_ref index name ∷ []
      → IsAsked (worked_subvolume block) blocks (make_key ino 12 parent) (ref_bytes (worked_ref index name))
  ref_asked blocks ino parent index name fits is same =
      RefsAsked (worked_ref index name ∷ []) refl (one_ref (make_key ino 12 parent) index name fits is) (subst (IsPermutation (worked_ref index name ∷ [])) (sym same) (IsPermutation-refl (worked_ref index name ∷ [])))

  own_asked : (blocks : Data) → IsAsked (worked_subvolume block) blocks (make_key 256 12 256) (ref_bytes (worked_ref 0 (46 ∷ 46 ∷ [])))
  own_asked blocks =
      RefsAsked (worked_ref 0 (46 ∷ 46 ∷ []) ∷ []) refl
      (record { some = λ e. absurd cc; spelled = sym (append-nil (ref_bytes (worked_ref 0 (46 ∷ 46 ∷ [])))); indexes = (omega arith, tt); names = (inr ((refl, refl, refl), refl), tt) })
      (IsPermutation-refl (worked_ref 0 (46 ∷ 46 ∷ []) ∷ []))

  far_asked : (blocks : Data) → IsAsked (worked_subvolume block) blocks (make_key 258 13 1197962379) (extref_bytes worked_extref)
  far_asked blocks =
      let same : extrefs_asked (worked_subvolume block) 258 1197962379 ≡ worked_extref ∷ [] = rw far_hash_g refl in
      ExtRefsAsked (worked_extref ∷ []) refl
      (record { some = λ e. absurd cc; spelled = sym (append-nil (extref_bytes worked_extref)); numbers = ((omega arith, omega arith), tt); names = (is_g, tt) })
      (subst (IsPermutation (worked_extref ∷ [])) (sym same) (IsPermutation-refl (worked_extref ∷ [])))

  hash_asked : (blocks : Data) (dir hash ino kind : ℕ) (name : List ℕ) → ino < 2 ^ 64 → IsName name → IsEntryKind dir_item (worked_entry ino kind name) → hashed_asked (worked_subvolume block) dir hash ≡ without_transid (worked_entry ino kind name) ∷ []
      → IsAsked (worked_subvolume block) blocks (make_key dir 84 hash) (entry_bytes (worked_entry ino kind name))
  hash_asked blocks dir hash ino kind name fits is is_kind same =
      HashedAsked refl (has_one dir_item (worked_entry ino kind name) (hashed_asked (worked_subvolume block) dir hash) (one_entry dir_item (worked_entry ino kind name) (named_fits ino kind name fits) is is_kind) same)

  index_asked : (blocks : Data) (dir index ino kind : ℕ) (name : List ℕ) → ino < 2 ^ 64 → IsName name → IsEntryKind dir_index (worked_entry ino kind name) → indexed_asked (worked_subvolume block) dir index ≡ without_transid (worked_entry ino kind name) ∷ []
      → IsAsked (worked_subvolume block) blocks (make_key dir 96 index) (entry_bytes (worked_entry ino kind name))
  index_asked blocks dir index ino kind name fits is is_kind same =
      IndexedAsked refl (has_one dir_index (worked_entry ino kind name) (indexed_asked (worked_subvolume block) dir index) (one_entry dir_index (worked_entry ino kind name) (named_fits ino kind name fits) is is_kind) same)

  attribute_asked : (blocks : Data) → IsAsked (worked_subvolume block) blocks (make_key 258 24 3427024844) (entry_bytes worked_attribute)
  attribute_asked blocks =
      AttributesAsked refl (has_one xattr_item worked_attribute (attributes_asked (worked_subvolume block) 258 3427024844)
      (one_entry xattr_item worked_attribute (record { target = record { objectid = omega arith; kind = omega arith; offset = omega arith }; transid = omega arith; value = omega arith }) is_a (inl (refl, refl))) attributes_a)

  block_there : get (worked_file block).blocks 0 ≡ Some block
  block_there = get-insert nat_cmp_total (empty {X = List ℕ}) 0 block 0

  extent_asked : (blocks : Data) → blocks 81920 ≡ Some block → IsAsked (worked_subvolume block) blocks (make_key 258 108 0) (regular_bytes 7 81920 4096)
  extent_asked blocks there =
      ExtentAsked (FileInode (worked_file block)) refl (inode_at block 258) (81920, 4096, regular_is, λ i below. run i below)
    where
      run : (i : ℕ) → i < 1 → (b : List ℕ) × (blocks (81920 + 4096 * i) ≡ Some b) × (get (worked_file block).blocks (0 + i) ≡ Some b)
      run zero below = (block, there, block_there)
      run (suc i) below = absurd (omega arith)

  target_asked : (blocks : Data) → IsAsked (worked_subvolume block) blocks (make_key 259 108 0) (inline_bytes 7 (120 ∷ []))
  target_asked blocks = ExtentAsked (LinkInode worked_link) refl (inode_at block 259) inline_is

  all_asked : (blocks : Data) → blocks 81920 ≡ Some block → AllByRecursion (λ (item : Item). IsAsked (worked_subvolume block) blocks item.0 item.1) worked_items
  all_asked blocks there = (
    dir_asked blocks 256 2 (omega arith) (inode_at block 256) refl,
    (
      own_asked blocks,
      (
        hash_asked blocks 256 4189400016 257 2 (100 ∷ []) (omega arith) is_d (inr (λ e. absurd (omega arith), inr (inl refl), refl)) hashed_d,
        (
          index_asked blocks 256 2 257 2 (100 ∷ []) (omega arith) is_d (inr (λ e. absurd (omega arith), inr (inl refl), refl)) (rw entry_d refl),
          (
            dir_asked blocks 257 6 (omega arith) (inode_at block 257) refl,
            (
              ref_asked blocks 257 256 2 (100 ∷ []) (omega arith) is_d refl,
              (
                hash_asked blocks 257 411982631 258 1 (102 ∷ []) (omega arith) is_f (inr (λ e. absurd (omega arith), inl refl, refl)) hashed_f,
                (
                  hash_asked blocks 257 1936487199 259 7 (108 ∷ []) (omega arith) is_l (inr (λ e. absurd (omega arith), inr (inr refl), refl)) hashed_l,
                  (
                    hash_asked blocks 257 3940931620 258 1 (103 ∷ []) (omega arith) is_g (inr (λ e. absurd (omega arith), inl refl, refl)) hashed_g,
                    (
                      index_asked blocks 257 2 258 1 (102 ∷ []) (omega arith) is_f (inr (λ e. absurd (omega arith), inl refl, refl)) (rw entry_f refl),
                      (
                        index_asked blocks 257 3 258 1 (103 ∷ []) (omega arith) is_g (inr (λ e. absurd (omega arith), inl refl, refl)) (rw entry_g refl),
                        (
                          index_asked blocks 257 4 259 7 (108 ∷ []) (omega arith) is_l (inr (λ e. absurd (omega arith), inr (inr refl), refl)) (rw entry_l refl),
                          (
                            file_asked blocks,
                            (
                              ref_asked blocks 258 257 2 (102 ∷ []) (omega arith) is_f refl,
                              (
                                far_asked blocks,
                                (
                                  attribute_asked blocks,
                                  (
                                    extent_asked blocks there,
                                    (link_asked blocks, (ref_asked blocks 259 257 4 (108 ∷ []) (omega arith) is_l refl, (target_asked blocks, tt))),
                                  ),
                                ),
                              ),
                            ),
                          ),
                        ),
                      ),
                    ),
                  ),
                ),
              ),
            ),
          ),
        ),
      ),
    ),
  )

-- ---- all that is asked for is there

-- the worked items have something under this key
abbrev Has : ℕ → ℕ → ℕ → Type 0
Has objectid kind offset = HasKey worked_items (make_key objectid kind offset)

-- what is there under one key is there under an equal one
has_at : (objectid kind offset a b : ℕ) → Has a kind b → a ≡ objectid → b ≡ offset → Has objectid kind offset
has_at objectid kind offset a b there same_a same_b = subst (λ (y : ℕ). Has objectid kind y) same_b (subst (λ (x : ℕ). Has x kind b) same_a there)

two_tests : (a b c d : ℕ) → (nat_eq a b && nat_eq c d) ≡ true → (a ≡ b) × (c ≡ d)
two_tests a b c d h = let parts = and_parts (nat_eq a b) (nat_eq c d) h in (eqb-true a b parts.0, eqb-true c d parts.1)

module _ (block : List ℕ) where
  inodes_there : (ino : ℕ) (inode : InodeRecord) → get (worked_subvolume block).inodes ino ≡ Some inode → Has ino inode_item 0
  inodes_there = inode_cases block (λ ino inode. Has ino inode_item 0) (record {
    root = (inode_bytes (worked_inode 2 0 1 16877), (0, omega arith, refl));
    dir = (inode_bytes (worked_inode 6 0 1 16877), (4, omega arith, refl));
    file_case = (inode_bytes (worked_inode 5 4096 2 33188), (12, omega arith, refl));
    link = (inode_bytes (worked_inode 1 1 1 41471), (17, omega arith, refl));
  })

  near_there : (ino parent : ℕ) (name : FlatName) → Contains (worked_subvolume block).names name → (name.near && (nat_eq name.ino ino && nat_eq name.dir parent)) ≡ true → Has ino inode_ref parent
  near_there ino parent = name_cases block (λ name. (name.near && (nat_eq name.ino ino && nat_eq name.dir parent)) ≡ true → Has ino inode_ref parent)
      (λ h. let t = two_tests 257 ino 256 parent h in has_at ino 12 parent 257 256 (ref_bytes (worked_ref 2 (100 ∷ [])), (5, omega arith, refl)) t.0 t.1)
      (λ h. let t = two_tests 258 ino 257 parent h in has_at ino 12 parent 258 257 (ref_bytes (worked_ref 2 (102 ∷ [])), (13, omega arith, refl)) t.0 t.1)
      (λ h. absurd (false_is_not_true h))
      (λ h. let t = two_tests 259 ino 257 parent h in has_at ino 12 parent 259 257 (ref_bytes (worked_ref 4 (108 ∷ [])), (18, omega arith, refl)) t.0 t.1)
    where
      false_is_not_true : false ≡ true → ⊥
      false_is_not_true e = cc

  refs_there : (ino parent : ℕ) → refs_asked (worked_subvolume block) ino parent ≢ [] → Has ino inode_ref parent
  refs_there ino parent some =
      let first = has_some (refs_asked (worked_subvolume block) ino parent) some in
      elim (Contains-append_cases (own_refs ino parent) _ first.0 first.1) [
        | inl own ↦ own_there (nat_eq ino 256) (nat_eq parent 256) refl refl first.0 own
        | inr named ↦
            let found = in_map ref_of _ first.0 named in
            let kept = in_filter (λ name. name.near && (nat_eq name.ino ino && nat_eq name.dir parent)) (worked_subvolume block).names found.0 found.1 in
            near_there ino parent found.0 kept.0 kept.1
      ]
    where
      own_there : (a b : Bool) → nat_eq ino 256 ≡ a → nat_eq parent 256 ≡ b → (r : RefValue) → Contains (cond (a && b) (worked_ref 0 dots ∷ []) []) r → Has ino inode_ref parent
      own_there true true p q r c = has_at ino 12 parent 256 256 (ref_bytes (worked_ref 0 (46 ∷ 46 ∷ [])), (1, omega arith, refl)) (sym (eqb-true ino 256 p)) (sym (eqb-true parent 256 q))
      own_there true false p q r c = absurd (in_nothing r c)
      own_there false b p q r c = absurd (in_nothing r c)

  far_there : (ino hash : ℕ) (name : FlatName) → Contains (worked_subvolume block).names name → (not name.near && (nat_eq name.ino ino && nat_eq (extref_hash_of name.dir name.bytes) hash)) ≡ true → Has ino inode_extref hash
  far_there ino hash = name_cases block (λ name. (not name.near && (nat_eq name.ino ino && nat_eq (extref_hash_of name.dir name.bytes) hash)) ≡ true → Has ino inode_extref hash)
      (λ h. absurd (false_is_not_true h)) (λ h. absurd (false_is_not_true h))
      (λ h. let t = two_tests 258 ino (extref_hash_of 257 (103 ∷ [])) hash h in has_at ino 13 hash 258 1197962379 (extref_bytes worked_extref, (14, omega arith, refl)) t.0 (sym far_hash_g ∙ t.1))
      (λ h. absurd (false_is_not_true h))
    where
      false_is_not_true : false ≡ true → ⊥
      false_is_not_true e = cc

  extrefs_there : (ino hash : ℕ) → extrefs_asked (worked_subvolume block) ino hash ≢ [] → Has ino inode_extref hash
  extrefs_there ino hash some =
      let first = has_some (extrefs_asked (worked_subvolume block) ino hash) some in
      let found = in_map extref_of _ first.0 first.1 in
      let kept = in_filter (λ name. not name.near && (nat_eq name.ino ino && nat_eq (extref_hash_of name.dir name.bytes) hash)) (worked_subvolume block).names found.0 found.1 in
      far_there ino hash found.0 kept.0 kept.1

  hashed_there : (dir hash : ℕ) → hashed_asked (worked_subvolume block) dir hash ≢ [] → Has dir dir_item hash
  hashed_there dir hash some =
      let first = has_some (hashed_asked (worked_subvolume block) dir hash) some in
      let found = in_map (entry_of (worked_subvolume block)) _ first.0 first.1 in
      let kept = in_filter (λ name. nat_eq name.dir dir && nat_eq (name_hash_of name.bytes) hash) (worked_subvolume block).names found.0 found.1 in
      name_cases block (λ name. (nat_eq name.dir dir && nat_eq (name_hash_of name.bytes) hash) ≡ true → Has dir dir_item hash)
      (λ h. let t = two_tests 256 dir (name_hash_of (100 ∷ [])) hash h in has_at dir 84 hash 256 4189400016 (entry_bytes (worked_entry 257 2 (100 ∷ [])), (2, omega arith, refl)) t.0 (sym hash_d ∙ t.1))
      (λ h. let t = two_tests 257 dir (name_hash_of (102 ∷ [])) hash h in has_at dir 84 hash 257 411982631 (entry_bytes (worked_entry 258 1 (102 ∷ [])), (6, omega arith, refl)) t.0 (sym hash_f ∙ t.1))
      (λ h. let t = two_tests 257 dir (name_hash_of (103 ∷ [])) hash h in has_at dir 84 hash 257 3940931620 (entry_bytes (worked_entry 258 1 (103 ∷ [])), (8, omega arith, refl)) t.0 (sym hash_g ∙ t.1))
      (λ h. let t = two_tests 257 dir (name_hash_of (108 ∷ [])) hash h in has_at dir 84 hash 257 1936487199 (entry_bytes (worked_entry 259 7 (108 ∷ [])), (7, omega arith, refl)) t.0 (sym hash_l ∙ t.1))
      found.0 kept.0 kept.1

  indexed_there : (dir index : ℕ) → indexed_asked (worked_subvolume block) dir index ≢ [] → Has dir dir_index index
  indexed_there dir index some =
      let first = has_some (indexed_asked (worked_subvolume block) dir index) some in
      let found = in_map (entry_of (worked_subvolume block)) _ first.0 first.1 in
      let kept = in_filter (λ name. nat_eq name.dir dir && nat_eq name.index index) (worked_subvolume block).names found.0 found.1 in
      name_cases block (λ name. (nat_eq name.dir dir && nat_eq name.index index) ≡ true → Has dir dir_index index)
      (λ h. let t = two_tests 256 dir 2 index h in has_at dir 96 index 256 2 (entry_bytes (worked_entry 257 2 (100 ∷ [])), (3, omega arith, refl)) t.0 t.1)
      (λ h. let t = two_tests 257 dir 2 index h in has_at dir 96 index 257 2 (entry_bytes (worked_entry 258 1 (102 ∷ [])), (9, omega arith, refl)) t.0 t.1)
      (λ h. let t = two_tests 257 dir 3 index h in has_at dir 96 index 257 3 (entry_bytes (worked_entry 258 1 (103 ∷ [])), (10, omega arith, refl)) t.0 t.1)
      (λ h. let t = two_tests 257 dir 4 index h in has_at dir 96 index 257 4 (entry_bytes (worked_entry 259 7 (108 ∷ [])), (11, omega arith, refl)) t.0 t.1)
      found.0 kept.0 kept.1

  -- an attribute that is there is the file's
  attribute_is : (ino hash : ℕ) (attribute : List ℕ × List ℕ) (inode : InodeRecord) → get (worked_subvolume block).inodes ino ≡ Some inode → Contains (entries (attributes_of inode)) attribute → nat_eq (name_hash_of attribute.0) hash ≡ true → Has ino xattr_item hash
  attribute_is ino hash attribute = inode_cases block (λ ino inode. Contains (entries (attributes_of inode)) attribute → nat_eq (name_hash_of attribute.0) hash ≡ true → Has ino xattr_item hash)
      (record { root = λ c h. absurd (none c); dir = λ c h. absurd (none c); file_case = the_file; link = λ c h. absurd (none c) }) ino
    where
      none : Contains (entries (empty {X = List ℕ} {R = slice_cmp nat_cmp})) attribute → ⊥
      none c = in_nothing attribute (subst (λ (es : List (List ℕ × List ℕ)). Contains es attribute) (entries_empty (slice_cmp nat_cmp)) c)

      the_file : Contains (entries (attributes_of (FileInode (worked_file block)))) attribute → nat_eq (name_hash_of attribute.0) hash ≡ true → Has 258 xattr_item hash
      the_file c h = elim (in_cons (97 ∷ [], 1 ∷ []) attribute [] (subst (λ (es : List (List ℕ × List ℕ)). Contains es attribute) (attribute_entries block) c)) [
        | inl is ↦ has_at 258 24 hash 258 3427024844 (entry_bytes worked_attribute, (15, omega arith, refl)) refl (sym hash_a ∙ ap (λ (x : List ℕ × List ℕ). name_hash_of x.0) is ∙ eqb-true (name_hash_of attribute.0) hash h)
        | inr nothing ↦ absurd (in_nothing attribute nothing)
      ]

  attributes_are_there : (ino hash : ℕ) → attributes_asked (worked_subvolume block) ino hash ≢ [] → Has ino xattr_item hash
  attributes_are_there ino hash some =
      let first = has_some (attributes_asked (worked_subvolume block) ino hash) some in
      let found = in_map attribute_entry _ first.0 first.1 in
      let kept = in_filter (λ attribute. nat_eq (name_hash_of attribute.0) hash) (attributes_there (get (worked_subvolume block).inodes ino)) found.0 found.1 in
      go (get (worked_subvolume block).inodes ino) refl found.0 kept.0 kept.1
    where
      go : (r : Option InodeRecord) → get (worked_subvolume block).inodes ino ≡ r → (attribute : List ℕ × List ℕ) → Contains (attributes_there r) attribute → nat_eq (name_hash_of attribute.0) hash ≡ true → Has ino xattr_item hash
      go None is attribute c h = absurd (in_nothing attribute c)
      go (Some inode) is attribute c h = attribute_is ino hash attribute inode is c h

  block_is_covered : (ino : ℕ) (file : FileRecord) (number : ℕ) (content : List ℕ) → get (worked_subvolume block).inodes ino ≡ Some (FileInode file) → get file.blocks number ≡ Some content → CoversBlock worked_items ino number
  block_is_covered ino file number content there has =
      inode_cases block (λ ino inode. inode ≡ FileInode file → CoversBlock worked_items ino number)
      (record { root = λ e. absurd cc; dir = λ e. absurd cc; file_case = λ e. the_file (let same : worked_file block ≡ file = cc in subst (λ (f : FileRecord). get f.blocks number ≡ Some content) (sym same) has); link = λ e. absurd cc }) ino (FileInode file) there refl
    where
      covers : CoversBlock worked_items 258 0
      covers = record {
        offset = 0;
        bytes = regular_bytes 7 81920 4096;
        there = (16, omega arith, refl);
        from = omega arith;
        to = rw (extent_len_regular (make_key 258 extent_data 0) (regular_bytes 7 81920 4096) 81920 0 4096 (regular_is block)) (omega arith);
      }

      only_block : (r : Ordering) → nat_cmp number 0 ≡ r → cond (is_eq r) (Some block) None ≡ Some content → CoversBlock worked_items 258 number
      only_block Less is e = absurd cc
      only_block Equal is e = subst (λ (n : ℕ). CoversBlock worked_items 258 n) (sym (nat_cmp-IsAntisymmetric number 0 is)) covers
      only_block Greater is e = absurd cc

      the_file : get (worked_file block).blocks number ≡ Some content → CoversBlock worked_items 258 number
      the_file has = only_block (nat_cmp number 0) refl (sym (get-insert nat_cmp_total (empty {X = List ℕ}) 0 block number ∙ ap (cond (eq_by_cmp nat_cmp number 0) (Some block)) (get-empty nat_cmp number)) ∙ has)

  target_is_there : (ino : ℕ) (link : LinkRecord) → get (worked_subvolume block).inodes ino ≡ Some (LinkInode link) → Has ino extent_data 0
  target_is_there ino link there =
      inode_cases block (λ ino inode. inode ≡ LinkInode link → Has ino extent_data 0)
      (record { root = λ e. absurd cc; dir = λ e. absurd cc; file_case = λ e. absurd cc; link = λ e. (inline_bytes 7 (120 ∷ []), (19, omega arith, refl)) }) ino (LinkInode link) there refl

-- the extents all begin at 0
extents_begin : AllByRecursion (λ (item : Item). item.0.kind ≡ extent_data → item.0.offset ≡ 0) worked_items
extents_begin = (
  other refl,
  (
    other refl,
    (
      other refl,
      (
        other refl,
        (
          other refl,
          (
            other refl,
            (
              other refl,
              (
                other refl,
                (
                  other refl,
                  (
                    other refl,
                    (
                      other refl,
                      (
                        other refl,
                        (
                          other refl,
                          (
                            other refl,
                            (
                              other refl,
                              (
                                other refl,
                                (λ e. refl, (other refl, (other refl, (λ e. refl, tt)))),
                              ),
                            ),
                          ),
                        ),
                      ),
                    ),
                  ),
                ),
              ),
            ),
          ),
        ),
      ),
    ),
  ),
)
  where
    other : {kind offset : ℕ} → nat_eq kind extent_data ≡ false → kind ≡ extent_data → offset ≡ 0
    other test e = absurd (eqb-false _ extent_data test e)

extent_at_zero : (ino offset : ℕ) (bytes : List ℕ) → Contains worked_items (make_key ino extent_data offset, bytes) → offset ≡ 0
extent_at_zero ino offset bytes there =
    All-contains (λ (item : Item). item.0.kind ≡ extent_data → item.0.offset ≡ 0) worked_items (make_key ino extent_data offset, bytes)
    (All-from_recursion (λ (item : Item). item.0.kind ≡ extent_data → item.0.offset ≡ 0) worked_items extents_begin) there refl

pub worked_items_are : (block : List ℕ) (blocks : Data) → blocks 81920 ≡ Some block → AreItemsOf worked_items blocks (worked_subvolume block)
worked_items_are block blocks there = record {
  only = λ key bytes c. All-contains (λ (item : Item). IsAsked (worked_subvolume block) blocks item.0 item.1) worked_items (key, bytes)
      (All-from_recursion (λ (item : Item). IsAsked (worked_subvolume block) blocks item.0 item.1) worked_items (all_asked block blocks there)) c;
  inodes = inodes_there block;
  refs = refs_there block;
  extrefs = extrefs_there block;
  attributes = attributes_are_there block;
  hashed = hashed_there block;
  indexed = indexed_there block;
  file_blocks = block_is_covered block;
  targets = target_is_there block;
  apart = λ ino one two first second a b below. let x = extent_at_zero ino one first a in let y = extent_at_zero ino two second b in absurd (omega arith);
}
