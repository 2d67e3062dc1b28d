-- Of the items of a coherent subvolume no inode is faulty.
use Rattle.std.proofs.Common.{◌≡◌, ◌*◌, ◌==◌, ◌||◌, ℕ, true, false, cond, List, map, Contains, Option, Some, None, Ok, refl, sym, ap, subst, ◌∙◌, inl, inr}
use Rattle.std.proofs.lemmas.List.Sorted.{IsPermutation-sym, Contains-permutation}
use Rattle.std.specs.FinMap.{get}
use Rattle.blk_base.specs.declared.key.Key.{Key}
use Rattle.blk_base.specs.Crc.{name_hash_of}
use Rattle.blk_base.specs.Keys.{inode_item, inode_ref, inode_extref, dir_item, dir_index, extent_data}
use Rattle.blk_base.specs.Leaf.{Item}
use Rattle.blk_base.specs.Items.{InodeValue, inode_of}
use Rattle.blk_base.specs.Entries.{EntryValue, refs_of}
use Rattle.blk_base.specs.Extents.{Inline, extent_of}
use Rattle.item_laws.specs.ExtentLaws.{extent_to}
use Rattle.format_laws.specs.Items.{inode_of-Ok}
use Rattle.flat_model.specs.Names.{FlatName}
use Rattle.flat_model.specs.Records.{InodeRecord, FileInode, DirInode, LinkInode}
use Rattle.flat_model.specs.Volume.{Subvolume, is_dir_at, is_dir_there}
use Rattle.flat_model.specs.Coherent.{IsCoherent, IsInoNumber}
use Rattle.volume_image.specs.Subvolume.{Data, AreItemsOf, IsAsked, InodeAsked, RefsAsked, ExtRefsAsked, AttributesAsked, HashedAsked, IndexedAsked, ExtentAsked, HasEntries, IsInodeOf, IsExtentOf, make_key, refs_asked, extrefs_asked, attributes_asked, attributes_there, hashed_asked, indexed_asked, entry_of, entry_kind_of, without_transid, size_of}
use Rattle.volume_image.specs.Tree.{ItemsRise}
use Rattle.volume_image.proofs.Lists.{in_nothing}
use Rattle.volume_image.proofs.Members.{not_empty, has_some, map_in}
use Rattle.volume_image.proofs.Extents.{regular_is_read}
use Rattle.volume_image.proofs.Asked.{asked_inode, asked_hashed, asked_indexed}
use Rattle.volume_image.proofs.OwnKeys.{has_its_key, asked_is_spelled, asked_kind}
use Rattle.image_faults.specs.Said.{PlacedEntry, read_list, entries_at, said_sub}
use Rattle.image_faults.specs.Faulty.{StandOnce, IsThere, HasOwnRef, is_extent_for, is_for_kind, HasRightKey, size_by, HasRightNumbers, IsEntryOf, IsRightIndexed, IsRightHashed, IsRightRef, HasRefsOnce, KeepsRules, IsRightInode, HasNoFault}
use Rattle.image_faults.specs.Lists.{once_permuted}
use Rattle.image_faults.proofs.Readings.{EntryItem, entry_in, entry_from}
use Rattle.image_faults.proofs.Entries.{GoTogether, same_lengths, AreSpelled}
use Rattle.image_faults.proofs.Asking.{is_near_at, is_far_at, own_ref, own_asked, in_own, ref_asked, far_asked, at_index, asked_index, with_hash, asked_hash, with_attribute}
use Rattle.image_faults.proofs.Once.{near_once, far_once}
use Rattle.image_faults.proofs.Held.{asked_from, asked_to}
use Rattle.image_faults.proofs.OfNames.{refs_read, extrefs_read, names_are_said}
use Rattle.image_faults.proofs.OfInodes.{inodes_are_said}

some_same : {X : Type 0} (x y : X) → Some x ≡ Some y → x ≡ y
some_same x y e = cc

-- where a list of a map's values has something, the map has something
pub attributes_of_some : (o : Option InodeRecord) (pair : List ℕ × List ℕ) → Contains (attributes_there o) pair → (inode : InodeRecord) × (o ≡ Some inode)
attributes_of_some None pair c = absurd (in_nothing pair c)
attributes_of_some (Some inode) pair c = (inode, refl)

pub dir_is_there : (o : Option InodeRecord) → is_dir_there o ≡ true → (inode : InodeRecord) × (o ≡ Some inode)
dir_is_there None e = absurd (let no : false ≡ true = e in cc)
dir_is_there (Some inode) e = (inode, refl)

-- an extent is for an inode's kind by what it says
pub kind_of_extent : (o : Option InodeRecord) (key : Key) (bytes : List ℕ) → key.kind ≡ extent_data → is_for_kind o key bytes ≡ is_extent_for o (extent_of key bytes)
kind_of_extent o key bytes k = ap (λ (n : ℕ). cond ((n == dir_item) || (n == dir_index)) (is_dir_there o) (cond (n == extent_data) (is_extent_for o (extent_of key bytes)) true)) k

module _ (items : List Item) (blocks : Data) (sub : Subvolume) (rise : ItemsRise items) (are : AreItemsOf items blocks sub) (whole : IsCoherent sub) where
  spelled : AreSpelled items
  spelled key bytes there = asked_is_spelled sub blocks key bytes (are.only key bytes there)

  root_there : (inode : InodeRecord) × (get sub.inodes 256 ≡ Some inode)
  root_there = dir_is_there (get sub.inodes 256) whole.root_is_dir

  -- ---- what stands in the items of entries

  -- the name of a DIR_INDEX entry
  index_name : (dir : ℕ) (p : PlacedEntry) → Contains (entries_at items dir_index dir) p → (name : FlatName) × Contains sub.names name × (name.dir ≡ dir) × (name.index ≡ p.0) × (entry_of sub name ≡ without_transid p.1)
  index_name dir p c =
      let item = entry_from items dir_index dir p c in
      let key = make_key dir dir_index p.0 in
      let has = asked_indexed sub blocks key item.bytes refl (are.only key item.bytes item.there) in
      at_index sub dir p.0 (without_transid p.1) (asked_from dir_index item.bytes (indexed_asked sub dir p.0) has p.1 item.entry)

  -- the name of a DIR_ITEM entry
  hash_name : (dir : ℕ) (p : PlacedEntry) → Contains (entries_at items dir_item dir) p → (name : FlatName) × Contains sub.names name × (name.dir ≡ dir) × (name_hash_of name.bytes ≡ p.0) × (entry_of sub name ≡ without_transid p.1)
  hash_name dir p c =
      let item = entry_from items dir_item dir p c in
      let key = make_key dir dir_item p.0 in
      let has = asked_hashed sub blocks key item.bytes refl (are.only key item.bytes item.there) in
      with_hash sub dir p.0 (without_transid p.1) (asked_from dir_item item.bytes (hashed_asked sub dir p.0) has p.1 item.entry)

  -- a name's DIR_INDEX entry
  name_index : (name : FlatName) → Contains sub.names name → (e : EntryValue) × Contains (entries_at items dir_index name.dir) (name.index, e) × (without_transid e ≡ entry_of sub name)
  name_index name c =
      let asked = asked_index sub name c in
      let item = are.indexed name.dir name.index (not_empty (entry_of sub name) (indexed_asked sub name.dir name.index) asked) in
      let key = make_key name.dir dir_index name.index in
      let has = asked_indexed sub blocks key item.0 refl (are.only key item.0 item.1) in
      let found = asked_to dir_index item.0 (indexed_asked sub name.dir name.index) has (entry_of sub name) asked in
      (found.0, entry_in items dir_index name.dir name.index item.0 found.0 item.1 found.1, found.2)

  -- a name's DIR_ITEM entry
  name_hash : (name : FlatName) → Contains sub.names name → (e : EntryValue) × Contains (entries_at items dir_item name.dir) (name_hash_of name.bytes, e) × (without_transid e ≡ entry_of sub name)
  name_hash name c =
      let hash = name_hash_of name.bytes in
      let asked = asked_hash sub name c in
      let item = are.hashed name.dir hash (not_empty (entry_of sub name) (hashed_asked sub name.dir hash) asked) in
      let key = make_key name.dir dir_item hash in
      let has = asked_hashed sub blocks key item.0 refl (are.only key item.0 item.1) in
      let found = asked_to dir_item item.0 (hashed_asked sub name.dir hash) has (entry_of sub name) asked in
      (found.0, entry_in items dir_item name.dir hash item.0 found.0 item.1 found.1, found.2)

  tells : (name : FlatName) (e : EntryValue) → without_transid e ≡ entry_of sub name → IsEntryOf name e
  tells name e same = record { bytes = ap (λ (x : EntryValue). x.name) same; ino = ap (λ (x : EntryValue). x.target.objectid) same }

  type_is : (name : FlatName) (e : EntryValue) → without_transid e ≡ entry_of sub name → (inode : InodeRecord) → get sub.inodes e.target.objectid ≡ Some inode → e.kind ≡ entry_kind_of (Some inode)
  type_is name e same inode there = ap (λ (x : EntryValue). x.kind) same ∙ ap entry_kind_of (ap (get sub.inodes) (sym (tells name e same).ino) ∙ there)

  -- ---- an item's inode is there

  owner_there : (key : Key) (bytes : List ℕ) → IsAsked sub blocks key bytes → (inode : InodeRecord) × (get sub.inodes key.objectid ≡ Some inode)
  owner_there key bytes (InodeAsked inode k zero there is) = (inode, there)
  owner_there key bytes (RefsAsked found k is same) =
      let some = has_some found is.some in
      elim (ref_asked sub key.objectid key.offset some.0 (Contains-permutation found (refs_asked sub key.objectid key.offset) some.0 same some.1)) [
        | inl own ↦ let root : key.objectid ≡ 256 = (Rattle.image_faults.proofs.Asking.own_ref_parts key.objectid key.offset some.0 own).0 in (root_there.0, ap (get sub.inodes) root ∙ root_there.1)
        | inr found ↦ let to = whole.leads_to_inode found.0 found.1 in (to.0, ap (get sub.inodes) (sym found.3) ∙ to.1)
      ]
  owner_there key bytes (ExtRefsAsked found k is same) =
      let some = has_some found is.some in
      let name = far_asked sub key.objectid key.offset some.0 (Contains-permutation found (extrefs_asked sub key.objectid key.offset) some.0 same some.1) in
      let to = whole.leads_to_inode name.0 name.1 in
      (to.0, ap (get sub.inodes) (sym name.3) ∙ to.1)
  owner_there key bytes (AttributesAsked k has) =
      let some = has_some has.found has.spelled.some in
      let asked = Contains-permutation (map without_transid has.found) (attributes_asked sub key.objectid key.offset) (without_transid some.0) has.same (map_in without_transid has.found some.0 some.1) in
      let pair = with_attribute sub key.objectid key.offset (without_transid some.0) asked in
      attributes_of_some (get sub.inodes key.objectid) pair.0 pair.1
  owner_there key bytes (HashedAsked k has) =
      let some = has_some has.found has.spelled.some in
      let asked = Contains-permutation (map without_transid has.found) (hashed_asked sub key.objectid key.offset) (without_transid some.0) has.same (map_in without_transid has.found some.0 some.1) in
      let name = with_hash sub key.objectid key.offset (without_transid some.0) asked in
      let dir = dir_is_there (get sub.inodes name.0.dir) (whole.stands_in_dir name.0 name.1) in
      (dir.0, ap (get sub.inodes) (sym name.2) ∙ dir.1)
  owner_there key bytes (IndexedAsked k has) =
      let some = has_some has.found has.spelled.some in
      let asked = Contains-permutation (map without_transid has.found) (indexed_asked sub key.objectid key.offset) (without_transid some.0) has.same (map_in without_transid has.found some.0 some.1) in
      let name = at_index sub key.objectid key.offset (without_transid some.0) asked in
      let dir = dir_is_there (get sub.inodes name.0.dir) (whole.stands_in_dir name.0 name.1) in
      (dir.0, ap (get sub.inodes) (sym name.2) ∙ dir.1)
  owner_there key bytes (ExtentAsked inode k there is) = (inode, there)

  there_is : (ino : ℕ) → IsThere items ino → (inode : InodeRecord) × (get sub.inodes ino ≡ Some inode)
  there_is ino (item, has, same) = let owner = owner_there item.0 item.1 (are.only item.0 item.1 has) in (owner.0, ap (get sub.inodes) (sym same) ∙ owner.1)

  -- ---- keys

  -- an item with an entry that is asked for in a directory has the directory
  dir_of_hashed : (key : Key) (bytes : List ℕ) → HasEntries dir_item bytes (hashed_asked sub key.objectid key.offset) → is_dir_at sub key.objectid ≡ true
  dir_of_hashed key bytes has =
      let some = has_some has.found has.spelled.some in
      let asked = Contains-permutation (map without_transid has.found) (hashed_asked sub key.objectid key.offset) (without_transid some.0) has.same (map_in without_transid has.found some.0 some.1) in
      let name = with_hash sub key.objectid key.offset (without_transid some.0) asked in
      subst (λ (d : ℕ). is_dir_at sub d ≡ true) name.2 (whole.stands_in_dir name.0 name.1)

  dir_of_indexed : (key : Key) (bytes : List ℕ) → HasEntries dir_index bytes (indexed_asked sub key.objectid key.offset) → is_dir_at sub key.objectid ≡ true
  dir_of_indexed key bytes has =
      let some = has_some has.found has.spelled.some in
      let asked = Contains-permutation (map without_transid has.found) (indexed_asked sub key.objectid key.offset) (without_transid some.0) has.same (map_in without_transid has.found some.0 some.1) in
      let name = at_index sub key.objectid key.offset (without_transid some.0) asked in
      subst (λ (d : ℕ). is_dir_at sub d ≡ true) name.2 (whole.stands_in_dir name.0 name.1)

  extent_is_for : (inode : InodeRecord) (key : Key) (bytes : List ℕ) → IsExtentOf blocks inode key bytes → is_extent_for (Some inode) (extent_of key bytes) ≡ true
  extent_is_for (FileInode file) key bytes (at, len, is, holds) = ap (is_extent_for (Some (FileInode file))) (regular_is_read key bytes at 0 len is)
  extent_is_for (DirInode dir) key bytes is = absurd is
  extent_is_for (LinkInode link) key bytes is = ap (is_extent_for (Some (LinkInode link))) (extent_to key bytes (Inline link.target) is)

  for_kind : (key : Key) (bytes : List ℕ) → IsAsked sub blocks key bytes → is_for_kind (get sub.inodes key.objectid) key bytes ≡ true
  for_kind key bytes (InodeAsked inode k zero there is) = rw k refl
  for_kind key bytes (RefsAsked found k is same) = rw k refl
  for_kind key bytes (ExtRefsAsked found k is same) = rw k refl
  for_kind key bytes (AttributesAsked k has) = rw k refl
  for_kind key bytes (HashedAsked k has) = rw k (dir_of_hashed key bytes has)
  for_kind key bytes (IndexedAsked k has) = rw k (dir_of_indexed key bytes has)
  for_kind key bytes (ExtentAsked inode k there is) = kind_of_extent (get sub.inodes key.objectid) key bytes k ∙ ap (λ o. is_extent_for o (extent_of key bytes)) there ∙ extent_is_for inode key bytes is

  key_right : (key : Key) (bytes : List ℕ) → Contains items (key, bytes) → HasRightKey sub key bytes
  key_right key bytes there =
      let asked = are.only key bytes there in
      record { type = asked_kind sub blocks key bytes asked; content = has_its_key sub blocks key bytes asked; kind = for_kind key bytes asked }

  -- ---- numbers

  go_together : (dir : ℕ) → GoTogether items sub.names dir
  go_together dir = record {
    there = λ p c. let name = index_name dir p c in (name.0, name.1, name.2, name.3, sym (ap (λ (x : EntryValue). x.name) name.4));
    back = λ name c d.
        let entry = name_index name c in
        (entry.0, subst (λ (n : ℕ). Contains (entries_at items dir_index n) (name.index, entry.0)) d entry.1, ap (λ (x : EntryValue). x.name) entry.2);
    once = λ one two c d e f same. whole.no_name_twice one two c d (e ∙ sym f) same;
  }

  size_right : (ino : ℕ) (inode : InodeRecord) → size_of sub ino inode ≡ size_by items ino inode
  size_right ino (FileInode file) = refl
  size_right ino (DirInode dir) = ap (λ n. 2 * n) (sym (same_lengths items rise spelled sub.names ino whole.in_order (go_together ino)))
  size_right ino (LinkInode link) = refl

  numbers_right : (ino : ℕ) (bytes : List ℕ) (value : InodeValue) (inode : InodeRecord) → Contains items (make_key ino inode_item 0, bytes) → inode_of bytes ≡ Ok value → get sub.inodes ino ≡ Some inode → HasRightNumbers items sub ino inode value
  numbers_right ino bytes value inode has read there =
      let key = make_key ino inode_item 0 in
      let asked = asked_inode sub blocks key bytes refl (are.only key bytes has) in
      let both : Ok asked.3.value ≡ Ok value = sym (inode_of-Ok bytes asked.3.value asked.3.spelled) ∙ read in
      let same : asked.3.value ≡ value = cc in
      let record_is = some_same asked.0 inode (sym asked.2 ∙ there) in
      let is = subst (λ (r : InodeRecord). IsInodeOf sub ino r bytes) record_is asked.3 in
      let values : Ok is.value ≡ Ok value = sym (inode_of-Ok bytes is.value is.spelled) ∙ read in
      let value_is : is.value ≡ value = cc in
      record {
        nlink = sym (ap (λ (v : InodeValue). v.nlink) value_is) ∙ is.nlink;
        size = sym (ap (λ (v : InodeValue). v.size) value_is) ∙ is.size ∙ size_right ino inode;
        nbytes = sym (ap (λ (v : InodeValue). v.nbytes) value_is) ∙ is.nbytes;
      }

  -- ---- entries and refs

  indexed_right : (dir index : ℕ) (entry : EntryValue) → Contains (entries_at items dir_index dir) (index, entry) → IsRightIndexed items sub dir index entry
  indexed_right dir index entry c =
      let name = index_name dir (index, entry) c in
      let said = tells name.0 entry (sym name.4) in
      let fellow = name_hash name.0 name.1 in
      let told = tells name.0 fellow.0 fellow.2 in
      record {
        hashed = (
          fellow.0,
          subst (λ (b : List ℕ). Contains (entries_at items dir_item dir) (name_hash_of b, fellow.0)) (sym said.bytes) (subst (λ (n : ℕ). Contains (entries_at items dir_item n) (name_hash_of name.0.bytes, fellow.0)) name.2 fellow.1),
          told.bytes ∙ sym said.bytes,
          told.ino ∙ sym said.ino,
        );
        ref = (name.0, name.1, name.2, name.3, said);
        type = type_is name.0 entry (sym name.4);
      }

  hashed_right : (dir hash : ℕ) (entry : EntryValue) → Contains (entries_at items dir_item dir) (hash, entry) → IsRightHashed items sub dir entry
  hashed_right dir hash entry c =
      let name = hash_name dir (hash, entry) c in
      let said = tells name.0 entry (sym name.4) in
      let fellow = name_index name.0 name.1 in
      let told = tells name.0 fellow.0 fellow.2 in
      record {
        indexed = (name.0.index, fellow.0, subst (λ (n : ℕ). Contains (entries_at items dir_index n) (name.0.index, fellow.0)) name.2 fellow.1, told.bytes ∙ sym said.bytes, told.ino ∙ sym said.ino);
        type = type_is name.0 entry (sym name.4);
      }

  ref_right : (name : FlatName) → Contains sub.names name → IsRightRef items sub name
  ref_right name c =
      let one = name_hash name c in
      let two = name_index name c in
      record { hashed = (one.0, one.1, tells name one.0 one.2); indexed = (two.0, two.1, tells name two.0 two.2); parent = whole.stands_in_dir name c }

  -- ---- its own rules

  refs_once : (key : Key) (bytes : List ℕ) → Contains items (key, bytes) → HasRefsOnce key bytes
  refs_once key bytes there = record {
    near = λ k.
        subst (λ (n : ℕ). StandOnce (read_list (refs_of (make_key key.objectid n key.offset) bytes))) (sym k)
        (once_permuted (refs_asked sub key.objectid key.offset) _ (near_once sub whole.in_order whole.root_has_no_name key.objectid key.offset) (refs_read items blocks sub are key.objectid key.offset bytes (Rattle.image_faults.proofs.Readings.as_made items key bytes inode_ref k there)));
    far = λ k.
        once_permuted (extrefs_asked sub key.objectid key.offset) _ (far_once sub whole.in_order key.objectid key.offset) (extrefs_read items blocks sub are key.objectid key.offset bytes (Rattle.image_faults.proofs.Readings.as_made items key bytes inode_extref k there));
  }

  rules_kept : (ino : ℕ) → KeepsRules items sub ino
  rules_kept ino = record {
    root_is_dir = λ root. whole.root_is_dir;
    root_has_no_name = λ root. whole.root_has_no_name;
    refs_once = λ key bytes there same. refs_once key bytes there;
    names_once = λ one two c d is is' dir bytes. whole.no_name_twice one two c d dir bytes;
    link_count = λ inode there other. whole.link_counts ino inode there other;
    slots = λ one two c d same.
        let n = index_name ino one c in
        let m = index_name ino two d in
        let bytes : n.0.bytes ≡ m.0.bytes = ap (λ (x : EntryValue). x.name) n.4 ∙ same ∙ sym (ap (λ (x : EntryValue). x.name) m.4) in
        let name = whole.no_name_twice n.0 m.0 n.1 m.1 (n.2 ∙ sym m.2) bytes in
        sym n.3 ∙ ap (λ (x : FlatName). x.index) name ∙ m.3;
    indexes = λ entry c. let n = index_name ino entry c in subst Rattle.flat_model.specs.Coherent.IsIndexNumber n.3 (whole.index_numbers n.0 n.1);
    way_up = λ is_dir. whole.ends_at_root ino is_dir;
    limits = λ inode there. whole.limits ino inode there;
  }

  own_ref_there : HasOwnRef items
  own_ref_there =
      let item = are.refs 256 256 (not_empty own_ref (refs_asked sub 256 256) (own_asked sub)) in
      record {
        bytes = item.0;
        there = item.1;
        dots = Contains-permutation (refs_asked sub 256 256) _ own_ref (IsPermutation-sym _ (refs_asked sub 256 256) (refs_read items blocks sub are 256 256 item.0 item.1)) (own_asked sub);
      }

  inode_right : (ino : ℕ) → IsRightInode items sub ino
  inode_right ino = record {
    number = λ has. let is = there_is ino has in whole.ino_numbers ino is.0 is.1;
    inode = λ has. let is = there_is ino has in are.inodes ino is.0 is.1;
    root = λ root. are.inodes 256 root_there.0 root_there.1;
    own_ref = λ root. own_ref_there;
    keys = λ key bytes there same. key_right key bytes there;
    numbers = numbers_right ino;
    indexed = indexed_right ino;
    hashed = hashed_right ino;
    refs = λ name c same. ref_right name c;
    own = rules_kept ino;
  }

  pub is_said : said_sub items blocks ≡ sub
  is_said =
      let inodes = inodes_are_said items blocks sub rise are in
      let names = names_are_said items blocks sub are whole in
      λ i. record { inodes = inodes i; names = names i }

  pub no_fault_of : (ino : ℕ) → HasNoFault items blocks ino
  no_fault_of ino = subst (λ (s : Subvolume). IsRightInode items s ino) (sym is_said) (inode_right ino)
