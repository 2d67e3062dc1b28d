-- Where no inode is faulty the items are those of the said subvolume, which is coherent.
use Rattle.std.proofs.Common.{◌≡◌, ◌≢◌, ◌≤◌, ◌*◌, ◌⊎◌, ◌&&◌, ℕ, Bool, true, not, nat_eq, List, [], ◌∷◌, filter, sum_by, Contains, Option, Some, refl, sym, ap, subst, ◌∙◌, arith, inl, inr}
use Rattle.std.proofs.lemmas.Bool.{or_cases, and_parts, eqb-true, eq-eqb, cases_eq}
use Rattle.std.specs.FinMap.{get, entries}
use Rattle.blk_base.specs.declared.key.Key.{Key}
use Rattle.blk_base.specs.Crc.{name_hash_of, extref_hash_of}
use Rattle.blk_base.specs.Keys.{inode_item, inode_ref, inode_extref, xattr_item, dir_item, dir_index, extent_data}
use Rattle.blk_base.specs.Leaf.{Item}
use Rattle.blk_base.specs.Items.{InodeValue, file_mode, dir_mode, link_mode}
use Rattle.blk_base.specs.ItemFaults.{is_subvolume_kind}
use Rattle.flat_model.specs.Records.{InodeRecord, LinkRecord, FileInode, DirInode, LinkInode, attributes_of}
use Rattle.flat_model.specs.Lengths.{most_item_bytes, ref_length, extref_length, entry_length, attribute_length, ref_item_length, extref_item_length, dir_item_length, xattr_item_length, link_extent_length}
use Rattle.flat_model.specs.Volume.{Subvolume}
use Rattle.flat_model.specs.Coherent.{IsCoherent}
use Rattle.volume_image.specs.Subvolume.{Data, AreItemsOf, IsAsked, InodeAsked, RefsAsked, ExtRefsAsked, AttributesAsked, HashedAsked, IndexedAsked, ExtentAsked, IsInodeOf, make_key, refs_asked, extrefs_asked, attributes_asked, attributes_there, attribute_entry, hashed_asked, indexed_asked, mode_of, size_of, ref_of, extref_of}
use Rattle.volume_image.proofs.Reaches.{head_in}
use Rattle.volume_image.proofs.Members.{in_filter, has_some, not_empty}
use Rattle.volume_image.proofs.ItemLengths.{ref_item_has_length, extref_item_has_length, dir_item_has_length, xattr_item_has_length}
use Rattle.image_faults.specs.Said.{said_record, said_sub}
use Rattle.image_faults.specs.Faulty.{AreReadable, HasData, size_by, HasNoFault}
use Rattle.image_faults.proofs.Readings.{said_in_order, entry_from, inode_from}
use Rattle.image_faults.proofs.Entries.{same_lengths}
use Rattle.image_faults.proofs.Asking.{at_index, with_hash, asked_near, asked_far, asked_hash, asked_attribute}
use Rattle.image_faults.proofs.OfInodes.{record_of_file, record_of_dir, record_of_link}
use Rattle.image_faults.proofs.OfLines.{attributes_of_some}
use Rattle.image_faults.proofs.FromNames.{spelled, inode_at, is_there, name_owner, root_has_no_name, ref_at, no_name_twice, no_index_twice, index_numbers, go_together, name_limits, hashed_is, indexed_is}
use Rattle.image_faults.proofs.FromItems.{refs_are, refs_there, extrefs_are, extrefs_there, attributes_are, attributes_there_too}
use Rattle.image_faults.proofs.FromExtents.{extent_is, block_is_covered, target_is_there}

some_same : {X : Type 0} (x y : X) → Some x ≡ Some y → x ≡ y
some_same x y e = cc

-- the mode of what an inode item says
said_mode : (items : List Item) (blocks : Data) (ino : ℕ) (value : InodeValue) → (value.mode ≡ file_mode) ⊎ (value.mode ≡ dir_mode) ⊎ (value.mode ≡ link_mode) → value.mode ≡ mode_of (said_record items blocks ino value)
said_mode items blocks ino value (inl file) = file ∙ sym (ap mode_of (record_of_file items blocks ino value file))
said_mode items blocks ino value (inr (inl dir)) = dir ∙ sym (ap mode_of (record_of_dir items blocks ino value dir))
said_mode items blocks ino value (inr (inr link)) = link ∙ sym (ap mode_of (record_of_link items blocks ino value link))

-- a sum over what passes is within a bound, if it is where something passes
within_by : {X : Type 0} (f : X → ℕ) (p : X → Bool) (xs : List X) (most : ℕ) → ((x : X) → Contains xs x → p x ≡ true → sum_by f (filter p xs) ≤ most) → sum_by f (filter p xs) ≤ most
within_by {X} f p xs most each = go (filter p xs) refl
  where
    go : (kept : List X) → filter p xs ≡ kept → sum_by f (filter p xs) ≤ most
    go [] none = let nothing = ap (sum_by f) none in omega (arith, nothing)
    go (x ∷ kept) some = let member = in_filter p xs x (subst (λ (l : List X). Contains l x) (sym some) (head_in x kept)) in each x member.0 member.1

module _ (items : List Item) (blocks : Data) (ok : AreReadable items) (held : HasData items blocks) (right : (ino : ℕ) → HasNoFault items blocks ino) where
  abbrev s : Subvolume
  s = said_sub items blocks

  -- ---- each item is asked for

  size_is : (ino : ℕ) (inode : InodeRecord) → size_by items ino inode ≡ size_of s ino inode
  size_is ino (FileInode file) = refl
  size_is ino (DirInode dir) = ap (λ n. 2 * n) (same_lengths items ok.rise (spelled items blocks ok right) s.names ino (said_in_order items) (go_together items blocks ok right ino))
  size_is ino (LinkInode link) = refl

  inode_is : (ino : ℕ) (bytes : List ℕ) → Contains items (make_key ino inode_item 0, bytes) → IsAsked s blocks (make_key ino inode_item 0) bytes
  inode_is ino bytes there =
      let key = make_key ino inode_item 0 in
      let at = inode_at items blocks ok right ino ((key, bytes), there, refl) in
      let same = Rattle.image_faults.proofs.Rising.key_once items key at.bytes bytes ok.rise at.there there in
      let inode = said_record items blocks ino at.value in
      let numbers = (right ino).numbers at.bytes at.value inode at.there at.read at.said in
      InodeAsked inode refl refl at.said (subst (λ (b : List ℕ). IsInodeOf s ino inode b) same (record {
        value = at.value;
        spelled = at.is;
        mode = said_mode items blocks ino at.value at.is.mode;
        size = numbers.size ∙ size_is ino inode;
        nbytes = numbers.nbytes;
        nlink = numbers.nlink;
      }))

  -- by the type of the key
  typed : (ino kind offset : ℕ) (bytes : List ℕ) → Contains items (make_key ino kind offset, bytes) → is_subvolume_kind kind ≡ true → IsAsked s blocks (make_key ino kind offset) bytes
  typed ino kind offset bytes there type = elim (or_cases _ _ type) [
    | inl front ↦ elim (or_cases _ _ front) [
      | inl more ↦ elim (or_cases _ _ more) [
        | inl some ↦ elim (or_cases _ _ some) [
          | inl inode ↦ of_inode (eqb-true kind inode_item inode)
          | inr ref ↦ of_ref (eqb-true kind inode_ref ref)
        ]
        | inr extref ↦ of_extref (eqb-true kind inode_extref extref)
      ]
      | inr entries ↦ elim (or_cases _ _ entries) [
        | inl named ↦ elim (or_cases _ _ named) [
          | inl hashed ↦ of_hashed (eqb-true kind dir_item hashed)
          | inr indexed ↦ of_indexed (eqb-true kind dir_index indexed)
        ]
        | inr attribute ↦ of_attribute (eqb-true kind xattr_item attribute)
      ]
    ]
    | inr extent ↦ of_extent (eqb-true kind extent_data extent)
  ]
    where
      here : (type : ℕ) → kind ≡ type → Contains items (make_key ino type offset, bytes)
      here type k = subst (λ (n : ℕ). Contains items (make_key ino n offset, bytes)) k there

      as_typed : (type : ℕ) → kind ≡ type → IsAsked s blocks (make_key ino type offset) bytes → IsAsked s blocks (make_key ino kind offset) bytes
      as_typed type k asked = subst (λ (n : ℕ). IsAsked s blocks (make_key ino n offset) bytes) (sym k) asked

      of_inode : kind ≡ inode_item → IsAsked s blocks (make_key ino kind offset) bytes
      of_inode k =
          let zero : offset ≡ 0 = ((right ino).keys (make_key ino inode_item offset) bytes (here inode_item k) refl).content.inode refl in
          as_typed inode_item k (subst (λ (n : ℕ). IsAsked s blocks (make_key ino inode_item n) bytes) (sym zero) (inode_is ino bytes (subst (λ (n : ℕ). Contains items (make_key ino inode_item n, bytes)) zero (here inode_item k))))

      of_ref : kind ≡ inode_ref → IsAsked s blocks (make_key ino kind offset) bytes
      of_ref k = let is = refs_are items blocks ok right ino offset bytes (here inode_ref k) in as_typed inode_ref k (RefsAsked is.0 refl is.1 is.2)

      of_extref : kind ≡ inode_extref → IsAsked s blocks (make_key ino kind offset) bytes
      of_extref k = let is = extrefs_are items blocks ok right ino offset bytes (here inode_extref k) in as_typed inode_extref k (ExtRefsAsked is.0 refl is.1 is.2)

      of_hashed : kind ≡ dir_item → IsAsked s blocks (make_key ino kind offset) bytes
      of_hashed k = as_typed dir_item k (HashedAsked refl (hashed_is items blocks ok right ino offset bytes (here dir_item k)))

      of_indexed : kind ≡ dir_index → IsAsked s blocks (make_key ino kind offset) bytes
      of_indexed k = as_typed dir_index k (IndexedAsked refl (indexed_is items blocks ok right ino offset bytes (here dir_index k)))

      of_attribute : kind ≡ xattr_item → IsAsked s blocks (make_key ino kind offset) bytes
      of_attribute k =
          let at = inode_at items blocks ok right ino ((make_key ino kind offset, bytes), there, refl) in
          as_typed xattr_item k (AttributesAsked refl (attributes_are items blocks ok right ino (said_record items blocks ino at.value) at.said offset bytes (here xattr_item k)))

      of_extent : kind ≡ extent_data → IsAsked s blocks (make_key ino kind offset) bytes
      of_extent k =
          let at = inode_at items blocks ok right ino ((make_key ino kind offset, bytes), there, refl) in
          let inode = said_record items blocks ino at.value in
          as_typed extent_data k (ExtentAsked inode refl at.said (extent_is items blocks ok right ino inode at.said held offset bytes (here extent_data k)))

  -- ---- all that is asked for is there

  pub are_items : AreItemsOf items blocks s
  are_items = record {
    only = λ key bytes there. typed key.objectid key.kind key.offset bytes there ((right key.objectid).keys key bytes there refl).type;
    inodes = λ ino inode there. let item = inode_from items blocks ino inode there in (item.bytes, item.there);
    refs = λ ino parent some. let r = has_some (refs_asked s ino parent) some in refs_there items blocks ok right ino parent r.0 r.1;
    extrefs = λ ino hash some. let r = has_some (extrefs_asked s ino hash) some in extrefs_there items blocks ok right ino hash r.0 r.1;
    attributes = λ ino hash some.
        let a = has_some (attributes_asked s ino hash) some in
        let pair = Rattle.image_faults.proofs.Asking.with_attribute s ino hash a.0 a.1 in
        let inode = attributes_of_some (get s.inodes ino) pair.0 pair.1 in
        attributes_there_too items blocks ok right ino inode.0 inode.1 hash a.0 a.1;
    hashed = λ dir hash some.
        let a = has_some (hashed_asked s dir hash) some in
        let name = with_hash s dir hash a.0 a.1 in
        let e = (ref_at items blocks ok right name.0 name.1).hashed in
        let item = entry_from items dir_item name.0.dir (name_hash_of name.0.bytes, e.0) e.1 in
        (item.bytes, subst (λ (k : Key). Contains items (k, item.bytes)) (λ i. record { objectid = name.2 i; kind = dir_item; offset = name.3 i }) item.there);
    indexed = λ dir index some.
        let a = has_some (indexed_asked s dir index) some in
        let name = at_index s dir index a.0 a.1 in
        let e = (ref_at items blocks ok right name.0 name.1).indexed in
        let item = entry_from items dir_index name.0.dir (name.0.index, e.0) e.1 in
        (item.bytes, subst (λ (k : Key). Contains items (k, item.bytes)) (λ i. record { objectid = name.2 i; kind = dir_index; offset = name.3 i }) item.there);
    file_blocks = λ ino file number block there has. block_is_covered items blocks ok right ino (FileInode file) there file refl number block has;
    targets = λ ino link there. let limits = ((right ino).own.limits (LinkInode link) there).kind in target_is_there items blocks ok right ino (LinkInode link) there link refl limits.at_least_one;
    apart = ok.apart;
  }

  -- ---- the subvolume is coherent

  refs_fit : (ino dir : ℕ) → ref_item_length s.names ino dir ≤ most_item_bytes
  unfolding ref_item_length
  refs_fit ino dir = within_by ref_length (λ name. name.near && (nat_eq name.ino ino && nat_eq name.dir dir)) s.names most_item_bytes (λ name c passes.
      let near = and_parts name.near _ passes in
      let places = and_parts (nat_eq name.ino ino) _ near.1 in
      let is_ino = eqb-true name.ino ino places.0 in
      let is_dir = eqb-true name.dir dir places.1 in
      let other : ino ≢ 256 = λ e. root_has_no_name items blocks ok right name c (is_ino ∙ e) in
      let asked = subst (λ (d : ℕ). Contains (refs_asked s ino d) (ref_of name)) is_dir (subst (λ (n : ℕ). Contains (refs_asked s n name.dir) (ref_of name)) is_ino (asked_near s name c near.0)) in
      let item = refs_there items blocks ok right ino dir (ref_of name) asked in
      let long = ref_item_has_length s blocks items are_items ino dir item.0 other item.1 in
      subst (λ (n : ℕ). n ≤ most_item_bytes) long (ok.short (make_key ino inode_ref dir) item.0 item.1))

  extrefs_fit : (ino hash : ℕ) → extref_item_length s.names ino hash ≤ most_item_bytes
  unfolding extref_item_length
  extrefs_fit ino hash = within_by extref_length (λ name. not name.near && (nat_eq name.ino ino && nat_eq (extref_hash_of name.dir name.bytes) hash)) s.names most_item_bytes (λ name c passes.
      let far = and_parts _ _ passes in
      let places = and_parts (nat_eq name.ino ino) _ far.1 in
      let is_ino = eqb-true name.ino ino places.0 in
      let is_hash = eqb-true (extref_hash_of name.dir name.bytes) hash places.1 in
      let asked = subst (λ (h : ℕ). Contains (extrefs_asked s ino h) (extref_of name)) is_hash
      (subst (λ (n : ℕ). Contains (extrefs_asked s n (extref_hash_of name.dir name.bytes)) (extref_of name)) is_ino (asked_far s name c (Rattle.std.proofs.lemmas.Bool.not-true _ far.0))) in
      let item = extrefs_there items blocks ok right ino hash (extref_of name) asked in
      let long = extref_item_has_length s blocks items are_items ino hash item.0 item.1 in
      subst (λ (n : ℕ). n ≤ most_item_bytes) long (ok.short (make_key ino inode_extref hash) item.0 item.1))

  entries_fit : (dir hash : ℕ) → dir_item_length s.names dir hash ≤ most_item_bytes
  unfolding dir_item_length
  entries_fit dir hash = within_by entry_length (λ name. nat_eq name.dir dir && nat_eq (name_hash_of name.bytes) hash) s.names most_item_bytes (λ name c passes.
      let places = and_parts (nat_eq name.dir dir) _ passes in
      let is_dir = eqb-true name.dir dir places.0 in
      let is_hash = eqb-true (name_hash_of name.bytes) hash places.1 in
      let asked = subst (λ (h : ℕ). hashed_asked s dir h ≢ []) is_hash (subst (λ (d : ℕ). hashed_asked s d (name_hash_of name.bytes) ≢ []) is_dir (not_empty _ (hashed_asked s name.dir (name_hash_of name.bytes)) (asked_hash s name c))) in
      let item = are_items.hashed dir hash asked in
      let long = dir_item_has_length s blocks items are_items dir hash item.0 item.1 in
      subst (λ (n : ℕ). n ≤ most_item_bytes) long (ok.short (make_key dir dir_item hash) item.0 item.1))

  attributes_fit : (ino : ℕ) (inode : InodeRecord) → get s.inodes ino ≡ Some inode → (hash : ℕ) → xattr_item_length (attributes_of inode) hash ≤ most_item_bytes
  unfolding xattr_item_length
  attributes_fit ino inode there hash = within_by attribute_length (λ attribute. nat_eq (name_hash_of attribute.0) hash) (entries (attributes_of inode)) most_item_bytes (λ pair c passes.
      let is_hash = eqb-true (name_hash_of pair.0) hash passes in
      let asked = subst (λ (h : ℕ). Contains (attributes_asked s ino h) (attribute_entry pair)) is_hash (asked_attribute s ino pair (subst (λ (o : Option InodeRecord). Contains (attributes_there o) pair) (sym there) c)) in
      let item = are_items.attributes ino hash (not_empty (attribute_entry pair) (attributes_asked s ino hash) asked) in
      let long = xattr_item_has_length s blocks items are_items ino hash inode item.0 there item.1 in
      subst (λ (n : ℕ). n ≤ most_item_bytes) long (ok.short (make_key ino xattr_item hash) item.0 item.1))

  targets_fit : (ino : ℕ) (link : LinkRecord) → get s.inodes ino ≡ Some (LinkInode link) → link_extent_length link ≤ most_item_bytes
  targets_fit ino link there = let limits = ((right ino).own.limits (LinkInode link) there).kind in let most = limits.at_most_1023 in omega arith

  pub are_coherent : IsCoherent s
  are_coherent = record {
    in_order = said_in_order items;
    root_is_dir = (right 256).own.root_is_dir refl;
    root_has_no_name = root_has_no_name items blocks ok right;
    no_name_twice = no_name_twice items blocks ok right;
    no_index_twice = no_index_twice items blocks ok right;
    leads_to_inode = λ name c. let owner = name_owner items blocks ok right name c in (said_record items blocks name.ino owner.value, owner.said);
    stands_in_dir = λ name c. (ref_at items blocks ok right name c).parent;
    link_counts = λ ino inode there other. (right ino).own.link_count inode there other;
    ends_at_root = λ dir is_dir. (right dir).own.way_up is_dir;
    limits = λ ino inode there. (right ino).own.limits inode there;
    name_limits = name_limits items blocks ok right;
    items_fit = record { refs = refs_fit; extrefs = extrefs_fit; entries = entries_fit; attributes = attributes_fit; targets = targets_fit };
    ino_numbers = λ ino inode there. (right ino).number (is_there items blocks ok right ino inode there);
    index_numbers = index_numbers items blocks ok right;
  }
