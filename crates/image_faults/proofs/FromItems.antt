-- Where no inode is faulty: refs, attributes, runs of blocks and targets are those that the said subvolume asks for.
use Rattle.std.proofs.Common.{◌≡◌, ◌⊎◌, ◌==◌, ℕ, Bool, true, false, cond, nat_eq, List, filter, map, Contains, IsPermutation, Option, Some, None, Result, Ok, Err, refl, sym, ap, subst, ◌∙◌, inl, inr}
use Rattle.std.proofs.lemmas.Bool.{cases_Bool}
use Rattle.std.specs.Cmp.Lexicographic.{nat_list_cmp_total}
use Rattle.std.specs.FinMap.{get}
use Rattle.blk_base.specs.declared.key.Key.{Key}
use Rattle.blk_base.specs.declared.fault.ItemFault.{ItemFault}
use Rattle.blk_base.specs.Crc.{name_hash_of, extref_hash_of}
use Rattle.blk_base.specs.Keys.{inode_ref, inode_extref, xattr_item, extent_data}
use Rattle.blk_base.specs.Leaf.{Item}
use Rattle.blk_base.specs.Items.{InodeValue, file_mode, dir_mode}
use Rattle.blk_base.specs.Entries.{RefValue, ExtRefValue, EntryValue, IsRefs, IsExtRefs, IsEntryKind, refs_of, extrefs_of, entries_of}
use Rattle.blk_base.specs.Extents.{ExtentValue, Inline, Regular, Hole, extent_of}
use Rattle.blk_base.specs.ItemFaults.{LeadsNowhere}
use Rattle.item_laws.specs.Refs.{refs_to}
use Rattle.item_laws.specs.ExtRefs.{extrefs_to}
use Rattle.flat_model.specs.Names.{FlatName}
use Rattle.flat_model.specs.Records.{Attributes, InodeRecord, FileRecord, LinkRecord, FileInode, DirInode, LinkInode, attributes_of}
use Rattle.flat_model.specs.Volume.{Subvolume}
use Rattle.volume_image.specs.Subvolume.{Data, HasEntries, HasKey, make_key, refs_asked, extrefs_asked, attributes_asked, attributes_there, attribute_entry, ref_of, extref_of, without_transid}
use Rattle.volume_image.proofs.Members.{in_map, map_in, get_in, in_get}
use Rattle.image_faults.specs.Said.{read_list, is_own_ref, near_name, far_name, entries_at, attribute_of, said_attributes, said_blocks, said_target, said_record, said_sub}
use Rattle.image_faults.specs.Faulty.{AreReadable, StandOnce, is_extent_for, HasNoFault}
use Rattle.image_faults.specs.Lists.{permuted, once_map, once_filter, once_entries, once_map_entries, taken, given}
use Rattle.image_faults.proofs.Rising.{key_once}
use Rattle.image_faults.proofs.Readings.{FarItem, near_said, far_said, said_from, said_in_order, entry_in, entry_from, InodeItem, inode_from}
use Rattle.image_faults.proofs.Entries.{entries_read, entry_of_name}
use Rattle.image_faults.proofs.Asking.{own_ref, own_asked, own_ref_parts, ref_asked, asked_near, far_asked, asked_far, with_attribute, asked_attribute}
use Rattle.image_faults.proofs.Once.{near_once, far_once}
use Rattle.image_faults.proofs.OfInodes.{bytes_one}
use Rattle.image_faults.proofs.OfLines.{kind_of_extent}
use Rattle.image_faults.proofs.FromNames.{all_at, spelled, root_has_no_name, placed_in}

some_same : {X : Type 0} (x y : X) → Some x ≡ Some y → x ≡ y
some_same x y e = cc

-- ---- records

record_attributes : (items : List Item) (blocks : Data) (ino : ℕ) (value : InodeValue) → attributes_of (said_record items blocks ino value) ≡ said_attributes items ino
record_attributes items blocks ino value = go (value.mode == file_mode) (value.mode == dir_mode)
  where
    go : (b c : Bool) → attributes_of (cond b (FileInode (record { attributes = said_attributes items ino; size = value.size; blocks = said_blocks items blocks ino }))
        (cond c (DirInode (record { attributes = said_attributes items ino })) (LinkInode (record { attributes = said_attributes items ino; target = said_target items ino })))) ≡ said_attributes items ino
    go true c = refl
    go false true = refl
    go false false = refl

module _ (items : List Item) (blocks : Data) (ino : ℕ) (value : InodeValue) where
  abbrev a : Attributes
  a = said_attributes items ino

  pub record_blocks : (file : FileRecord) → said_record items blocks ino value ≡ FileInode file → file.blocks ≡ said_blocks items blocks ino
  record_blocks file e = go (value.mode == file_mode) (value.mode == dir_mode) e
    where
      go : (b c : Bool) → cond b (FileInode (record { attributes = said_attributes items ino; size = value.size; blocks = said_blocks items blocks ino }))
          (cond c (DirInode (record { attributes = said_attributes items ino })) (LinkInode (record { attributes = said_attributes items ino; target = said_target items ino }))) ≡ FileInode file
          → file.blocks ≡ said_blocks items blocks ino
      go true c e = let same : record { attributes = said_attributes items ino; size = value.size; blocks = said_blocks items blocks ino } ≡ file = cc in sym (ap (λ (f : FileRecord). f.blocks) same)
      go false true e = absurd cc
      go false false e = absurd cc

  pub record_target : (link : LinkRecord) → said_record items blocks ino value ≡ LinkInode link → link.target ≡ said_target items ino
  record_target link e = go (value.mode == file_mode) (value.mode == dir_mode) e
    where
      go : (b c : Bool) → cond b (FileInode (record { attributes = said_attributes items ino; size = value.size; blocks = said_blocks items blocks ino }))
          (cond c (DirInode (record { attributes = said_attributes items ino })) (LinkInode (record { attributes = said_attributes items ino; target = said_target items ino }))) ≡ LinkInode link
          → link.target ≡ said_target items ino
      go true c e = absurd cc
      go false true e = absurd cc
      go false false e = let same : record { attributes = said_attributes items ino; target = said_target items ino } ≡ link = cc in sym (ap (λ (l : LinkRecord). l.target) same)

-- what an extent says that is for a file, or for a symlink
pub for_file : (file : FileRecord) (r : Result ExtentValue ItemFault) → is_extent_for (Some (FileInode file)) r ≡ true → (at : ℕ) × (offset : ℕ) × (len : ℕ) × (r ≡ Ok (Regular at offset len))
for_file file (Ok (Regular at offset len)) e = (at, offset, len, refl)
for_file file (Ok (Inline content)) e = absurd (let no : false ≡ true = e in cc)
for_file file (Ok (Hole len)) e = absurd (let no : false ≡ true = e in cc)
for_file file (Err fault) e = absurd (let no : false ≡ true = e in cc)

pub for_link : (link : LinkRecord) (r : Result ExtentValue ItemFault) → is_extent_for (Some (LinkInode link)) r ≡ true → (content : List ℕ) × (r ≡ Ok (Inline content))
for_link link (Ok (Inline content)) e = (content, refl)
for_link link (Ok (Regular at offset len)) e = absurd (let no : false ≡ true = e in cc)
for_link link (Ok (Hole len)) e = absurd (let no : false ≡ true = e in cc)
for_link link (Err fault) e = absurd (let no : false ≡ true = e in cc)

attributes_once : (o : Option InodeRecord) → StandOnce (attributes_there o)
attributes_once None = tt
attributes_once (Some inode) = once_map_entries nat_list_cmp_total bytes_one (attributes_of inode)

module _ (items : List Item) (blocks : Data) (ok : AreReadable items) (right : (ino : ℕ) → HasNoFault items blocks ino) where
  abbrev s : Subvolume
  s = said_sub items blocks

  -- ---- near names

  -- the ref of a near name stands in the item of its key
  near_in : (name : FlatName) (ino dir : ℕ) (bytes : List ℕ) → Contains s.names name → name.near ≡ true → name.ino ≡ ino → name.dir ≡ dir → Contains items (make_key ino inode_ref dir, bytes)
      → Contains (read_list (refs_of (make_key ino inode_ref dir) bytes)) (ref_of name)
  near_in name ino dir bytes c near is_ino is_dir there = elim (said_from items name c) [
    | inl item ↦
        let key : make_key name.ino inode_ref name.dir ≡ make_key ino inode_ref dir = λ i. record { objectid = is_ino i; kind = inode_ref; offset = is_dir i } in
        let same = key_once items (make_key name.ino inode_ref name.dir) item.bytes bytes ok.rise item.there (subst (λ (k : Key). Contains items (k, bytes)) (sym key) there) in
        subst (λ (k : Key). Contains (read_list (refs_of k bytes)) (ref_of name)) key (subst (λ (b : List ℕ). Contains (read_list (refs_of (make_key name.ino inode_ref name.dir) b)) (ref_of name)) same item.ref)
    | inr item ↦ absurd (let no : true ≡ false = sym near ∙ item.far in cc)
  ]

  -- the root directory's name for itself stands in the item of its key
  own_in : (bytes : List ℕ) → Contains items (make_key 256 inode_ref 256, bytes) → Contains (read_list (refs_of (make_key 256 inode_ref 256) bytes)) own_ref
  own_in bytes there =
      let own = (right 256).own_ref refl in
      subst (λ (b : List ℕ). Contains (read_list (refs_of (make_key 256 inode_ref 256) b)) own_ref) (key_once items (make_key 256 inode_ref 256) own.bytes bytes ok.rise own.there there) own.dots

  pub refs_are : (ino dir : ℕ) (bytes : List ℕ) → Contains items (make_key ino inode_ref dir, bytes) → (found : List RefValue) × IsRefs (make_key ino inode_ref dir) bytes found × IsPermutation found (refs_asked s ino dir)
  refs_are ino dir bytes there =
      let key = make_key ino inode_ref dir in
      let found = (spelled items blocks ok right key bytes there).refs refl in
      let read : read_list (refs_of key bytes) ≡ found.0 = ap read_list (refs_to key bytes found.0 found.1) in
      let once = subst StandOnce read (((right ino).own.refs_once key bytes there refl).near refl) in (
        found.0,
        found.1,
        permuted found.0 (refs_asked s ino dir) once (near_once s (said_in_order items) (root_has_no_name items blocks ok right) ino dir)
            (λ r c. forth r (subst (λ (rs : List RefValue). Contains rs r) (sym read) c) (cases_Bool (is_own_ref key r)))
            (λ r c. subst (λ (rs : List RefValue). Contains rs r) read (back r c)),
      )
    where
      forth : (r : RefValue) → Contains (read_list (refs_of (make_key ino inode_ref dir) bytes)) r → (is_own_ref (make_key ino inode_ref dir) r ≡ true) ⊎ (is_own_ref (make_key ino inode_ref dir) r ≡ false) → Contains (refs_asked s ino dir) r
      forth r c (inl own) =
          let parts = own_ref_parts ino dir r own in
          subst (λ (x : RefValue). Contains (refs_asked s ino dir) x) (sym parts.2)
          (subst (λ (n : ℕ). Contains (refs_asked s n dir) own_ref) (sym parts.0) (subst (λ (n : ℕ). Contains (refs_asked s 256 n) own_ref) (sym parts.1) (own_asked s)))
      forth r c (inr other) = asked_near s (near_name (make_key ino inode_ref dir) r) (near_said items ino dir bytes r there c other) refl

      back : (r : RefValue) → Contains (refs_asked s ino dir) r → Contains (read_list (refs_of (make_key ino inode_ref dir) bytes)) r
      back r c = elim (ref_asked s ino dir r c) [
        | inl own ↦
            let parts = own_ref_parts ino dir r own in
            let key : make_key 256 inode_ref 256 ≡ make_key ino inode_ref dir = λ i. record { objectid = sym parts.0 i; kind = inode_ref; offset = sym parts.1 i } in
            subst (λ (x : RefValue). Contains (read_list (refs_of (make_key ino inode_ref dir) bytes)) x) (sym parts.2)
            (subst (λ (k : Key). Contains (read_list (refs_of k bytes)) own_ref) key (own_in bytes (subst (λ (k : Key). Contains items (k, bytes)) (sym key) there)))
        | inr name ↦ subst (λ (x : RefValue). Contains (read_list (refs_of (make_key ino inode_ref dir) bytes)) x) name.5 (near_in name.0 ino dir bytes name.1 name.2 name.3 name.4 there)
      ]

  pub refs_there : (ino dir : ℕ) → (r : RefValue) → Contains (refs_asked s ino dir) r → HasKey items (make_key ino inode_ref dir)
  refs_there ino dir r c = elim (ref_asked s ino dir r c) [
    | inl own ↦
        let parts = own_ref_parts ino dir r own in
        let item = (right 256).own_ref refl in
        (item.bytes, subst (λ (k : Key). Contains items (k, item.bytes)) (λ i. record { objectid = sym parts.0 i; kind = inode_ref; offset = sym parts.1 i }) item.there)
    | inr name ↦ elim (said_from items name.0 name.1) [
      | inl item ↦ (item.bytes, subst (λ (k : Key). Contains items (k, item.bytes)) (λ i. record { objectid = name.3 i; kind = inode_ref; offset = name.4 i }) item.there)
      | inr item ↦ absurd (let no : true ≡ false = sym name.2 ∙ item.far in cc)
    ]
  ]

  -- ---- far names

  -- the item of a far name has the name's hash
  far_hash : (name : FlatName) (item : FarItem items name) → extref_hash_of name.dir name.bytes ≡ item.hash
  far_hash name item =
      let key = make_key name.ino inode_extref item.hash in
      let refs = (spelled items blocks ok right key item.bytes item.there).extrefs refl in
      all_at (λ (ref : ExtRefValue). extref_hash_of ref.parent ref.name ≡ item.hash) refs.0 (extref_of name) (((right name.ino).keys key item.bytes item.there refl).content.extrefs refl refs.0 refs.1)
      (subst (λ (r : List ExtRefValue). Contains r (extref_of name)) (ap read_list (extrefs_to item.bytes refs.0 refs.1)) item.ref)

  far_item : (name : FlatName) → Contains s.names name → name.near ≡ false → FarItem items name
  far_item name c far = elim (said_from items name c) [ inl item ↦ absurd (let no : true ≡ false = sym item.near ∙ far in cc) | inr item ↦ item ]

  pub extrefs_are : (ino hash : ℕ) (bytes : List ℕ) → Contains items (make_key ino inode_extref hash, bytes) → (found : List ExtRefValue) × IsExtRefs bytes found × IsPermutation found (extrefs_asked s ino hash)
  extrefs_are ino hash bytes there =
      let key = make_key ino inode_extref hash in
      let found = (spelled items blocks ok right key bytes there).extrefs refl in
      let read : read_list (extrefs_of bytes) ≡ found.0 = ap read_list (extrefs_to bytes found.0 found.1) in
      let once = subst StandOnce read (((right ino).own.refs_once key bytes there refl).far refl) in
      let content = ((right ino).keys key bytes there refl).content.extrefs refl found.0 found.1 in (
        found.0,
        found.1,
        permuted found.0 (extrefs_asked s ino hash) once (far_once s (said_in_order items) ino hash)
            (λ r c.
            let name = far_name key r in
            let hashed = all_at (λ (ref : ExtRefValue). extref_hash_of ref.parent ref.name ≡ hash) found.0 r content c in
            subst (λ (h : ℕ). Contains (extrefs_asked s ino h) r) hashed
            (asked_far s name (far_said items ino hash bytes r there (subst (λ (rs : List ExtRefValue). Contains rs r) (sym read) c)) refl))
            (λ r c.
            let name = far_asked s ino hash r c in
            let item = far_item name.0 name.1 name.2 in
            let key' : make_key name.0.ino inode_extref item.hash ≡ key = λ i. record { objectid = name.3 i; kind = inode_extref; offset = (sym (far_hash name.0 item) ∙ name.4) i } in
            let same = key_once items key item.bytes bytes ok.rise (subst (λ (k : Key). Contains items (k, item.bytes)) key' item.there) there in
            subst (λ (x : ExtRefValue). Contains found.0 x) name.5 (subst (λ (rs : List ExtRefValue). Contains rs (extref_of name.0)) read (subst (λ (b : List ℕ). Contains (read_list (extrefs_of b)) (extref_of name.0)) same item.ref))),
      )

  pub extrefs_there : (ino hash : ℕ) → (r : ExtRefValue) → Contains (extrefs_asked s ino hash) r → HasKey items (make_key ino inode_extref hash)
  extrefs_there ino hash r c =
      let name = far_asked s ino hash r c in
      let item = far_item name.0 name.1 name.2 in
      (item.bytes, subst (λ (k : Key). Contains items (k, item.bytes)) (λ i. record { objectid = name.3 i; kind = inode_extref; offset = (sym (far_hash name.0 item) ∙ name.4) i }) item.there)

  -- ---- attributes

  -- an attribute's entry stands in the item of its hash
  attribute_hash : (ino hash : ℕ) (bytes : List ℕ) (e : EntryValue) → Contains items (make_key ino xattr_item hash, bytes) → Contains (read_list (entries_of xattr_item bytes)) e → (name_hash_of e.name ≡ hash) × LeadsNowhere e × IsEntryKind xattr_item e
  attribute_hash ino hash bytes e there c =
      let key = make_key ino xattr_item hash in
      let found = entries_read items ok.rise (spelled items blocks ok right) xattr_item ino hash bytes (inr (inr refl)) there in
      let inside = subst (λ (es : List EntryValue). Contains es e) found.2 c in
      let content = all_at (λ (x : EntryValue). (name_hash_of x.name ≡ hash) × LeadsNowhere x) found.0 e (((right ino).keys key bytes there refl).content.attributes refl found.0 found.1) inside in
      (content.0, content.1, all_at (IsEntryKind xattr_item) found.0 e found.1.kinds inside)

  attribute_is : (e : EntryValue) → LeadsNowhere e → IsEntryKind xattr_item e → attribute_entry (e.name, e.value) ≡ without_transid e
  attribute_is e nowhere (inl kind) = λ i. record { target = record { objectid = sym nowhere.objectid i; kind = sym nowhere.kind i; offset = sym nowhere.offset i }; transid = 0; kind = sym kind.1 i; name = e.name; value = e.value }
  attribute_is e nowhere (inr named) = absurd (named.0 refl)

  -- an attribute that an item says is among those of its inode
  attribute_said : (ino hash : ℕ) (bytes : List ℕ) (e : EntryValue) → Contains items (make_key ino xattr_item hash, bytes) → Contains (read_list (entries_of xattr_item bytes)) e → get (said_attributes items ino) e.name ≡ Some e.value
  unfolding said_attributes
  attribute_said ino hash bytes e there c = given nat_list_cmp_total bytes_one (map attribute_of (entries_at items xattr_item ino)) e.name e.value
      (λ w d.
      let p = in_map attribute_of (entries_at items xattr_item ino) (e.name, w) d in
      let item = entry_from items xattr_item ino p.0 p.1 in
      let name : p.0.1.name ≡ e.name = ap (λ (z : List ℕ × List ℕ). z.0) p.2 in
      let place : p.0.0 ≡ hash = sym (attribute_hash ino p.0.0 item.bytes p.0.1 item.there item.entry).0 ∙ ap name_hash_of name ∙ (attribute_hash ino hash bytes e there c).0 in
      let inside = placed_in items blocks ok right xattr_item ino hash bytes p.0.1 (subst (λ (h : ℕ). Contains (entries_at items xattr_item ino) (h, p.0.1)) place p.1) there in
      let found = entries_read items ok.rise (spelled items blocks ok right) xattr_item ino hash bytes (inr (inr refl)) there in
      let one = entry_of_name xattr_item bytes found.0 p.0.1 e found.1 (subst (λ (es : List EntryValue). Contains es p.0.1) found.2 inside) (subst (λ (es : List EntryValue). Contains es e) found.2 c) name in
      sym (ap (λ (z : List ℕ × List ℕ). z.1) p.2) ∙ ap (λ (x : EntryValue). x.value) one)
      (map_in attribute_of (entries_at items xattr_item ino) (hash, e) (entry_in items xattr_item ino hash bytes e there c))

  -- the item of an attribute that an inode has
  pub attribute_item : (ino : ℕ) (pair : List ℕ × List ℕ) → get (said_attributes items ino) pair.0 ≡ Some pair.1
      → (bytes : List ℕ) × Contains items (make_key ino xattr_item (name_hash_of pair.0), bytes) × (e : EntryValue) × Contains (read_list (entries_of xattr_item bytes)) e × (e.name ≡ pair.0) × (e.value ≡ pair.1)
  unfolding said_attributes
  attribute_item ino pair h =
      let p = in_map attribute_of (entries_at items xattr_item ino) pair (taken nat_list_cmp_total bytes_one (map attribute_of (entries_at items xattr_item ino)) pair.0 pair.1 h) in
      let item = entry_from items xattr_item ino p.0 p.1 in
      let name : p.0.1.name ≡ pair.0 = ap (λ (z : List ℕ × List ℕ). z.0) p.2 in
      let place : p.0.0 ≡ name_hash_of pair.0 = sym (attribute_hash ino p.0.0 item.bytes p.0.1 item.there item.entry).0 ∙ ap name_hash_of name in
      (item.bytes, subst (λ (n : ℕ). Contains items (make_key ino xattr_item n, item.bytes)) place item.there, p.0.1, item.entry, name, ap (λ (z : List ℕ × List ℕ). z.1) p.2)

  module _ (ino : ℕ) (inode : InodeRecord) (there : get s.inodes ino ≡ Some inode) where
    inode_item : InodeItem items blocks ino inode
    inode_item = inode_from items blocks ino inode there

    attributes_are_said : attributes_of inode ≡ said_attributes items ino
    attributes_are_said = ap attributes_of inode_item.is ∙ record_attributes items blocks ino inode_item.value

    -- an attribute of the inode is one that its items say, and the other way round
    attribute_from : (pair : List ℕ × List ℕ) → Contains (attributes_there (get s.inodes ino)) pair → get (said_attributes items ino) pair.0 ≡ Some pair.1
    attribute_from pair c =
        ap (λ (m : Attributes). get m pair.0) (sym attributes_are_said)
        ∙ in_get nat_list_cmp_total bytes_one (attributes_of inode) pair.0 pair.1 (subst (λ (o : Option InodeRecord). Contains (attributes_there o) pair) there c)

    attribute_to : (pair : List ℕ × List ℕ) → get (said_attributes items ino) pair.0 ≡ Some pair.1 → Contains (attributes_there (get s.inodes ino)) pair
    attribute_to pair h =
        subst (λ (o : Option InodeRecord). Contains (attributes_there o) pair) (sym there)
        (get_in nat_list_cmp_total bytes_one (attributes_of inode) pair.0 pair.1 (ap (λ (m : Attributes). get m pair.0) attributes_are_said ∙ h))

    pub attributes_are : (hash : ℕ) (bytes : List ℕ) → Contains items (make_key ino xattr_item hash, bytes) → HasEntries xattr_item bytes (attributes_asked s ino hash)
    attributes_are hash bytes has =
        let found = entries_read items ok.rise (spelled items blocks ok right) xattr_item ino hash bytes (inr (inr refl)) has in
        record {
          found = found.0;
          spelled = found.1;
          same = permuted (map without_transid found.0) (attributes_asked s ino hash) (once_entries found.0 found.1.once)
              (once_map attribute_entry (filter (λ attribute. nat_eq (name_hash_of attribute.0) hash) (attributes_there (get s.inodes ino)))
              (λ p q c d e. (λ i. (ap (λ (x : EntryValue). x.name) e i, ap (λ (x : EntryValue). x.value) e i)))
              (once_filter (λ attribute. nat_eq (name_hash_of attribute.0) hash) (attributes_there (get s.inodes ino)) (attributes_once (get s.inodes ino))))
              (λ a c.
              let e = in_map without_transid found.0 a c in
              let read = subst (λ (es : List EntryValue). Contains es e.0) (sym found.2) e.1 in
              let facts = attribute_hash ino hash bytes e.0 has read in
              let pair : List ℕ × List ℕ = (e.0.name, e.0.value) in
              let asked = asked_attribute s ino pair (attribute_to pair (attribute_said ino hash bytes e.0 has read)) in
              subst (λ (x : EntryValue). Contains (attributes_asked s ino hash) x) (attribute_is e.0 facts.1 facts.2 ∙ e.2)
              (subst (λ (h : ℕ). Contains (attributes_asked s ino h) (attribute_entry pair)) facts.0 asked))
              (λ a c.
              let pair = with_attribute s ino hash a c in
              let item = attribute_item ino pair.0 (attribute_from pair.0 pair.1) in
              let same = key_once items (make_key ino xattr_item hash) item.0 bytes ok.rise (subst (λ (h : ℕ). Contains items (make_key ino xattr_item h, item.0)) pair.2 item.1) has in
              let e = item.2 in
              let read = subst (λ (b : List ℕ). Contains (read_list (entries_of xattr_item b)) e) same item.3 in
              let facts = attribute_hash ino hash bytes e has read in
              let says : without_transid e ≡ a = sym (attribute_is e facts.1 facts.2) ∙ (λ i. attribute_entry (item.4 i, item.5 i)) ∙ pair.3 in
              subst (λ (x : EntryValue). Contains (map without_transid found.0) x) says (map_in without_transid found.0 e (subst (λ (es : List EntryValue). Contains es e) found.2 read)));
        }

    pub attributes_there_too : (hash : ℕ) (a : EntryValue) → Contains (attributes_asked s ino hash) a → HasKey items (make_key ino xattr_item hash)
    attributes_there_too hash a c =
        let pair = with_attribute s ino hash a c in
        let item = attribute_item ino pair.0 (attribute_from pair.0 pair.1) in
        (item.0, subst (λ (h : ℕ). Contains items (make_key ino xattr_item h, item.0)) pair.2 item.1)

    -- ---- extents

    pub extent_for : (offset : ℕ) (bytes : List ℕ) → Contains items (make_key ino extent_data offset, bytes) → is_extent_for (Some inode) (extent_of (make_key ino extent_data offset) bytes) ≡ true
    extent_for offset bytes has =
        let key = make_key ino extent_data offset in
        ap (λ (o : Option InodeRecord). is_extent_for o (extent_of key bytes)) (sym there) ∙ sym (kind_of_extent (get s.inodes ino) key bytes refl) ∙ ((right ino).keys key bytes has refl).kind
