-- Where no inode is faulty: the names that the refs say, and the entries of directories, go together.
use Rattle.std.proofs.Common.{◌≡◌, ◌≢◌, ◌<◌, ◌⊎◌, ◌++◌, ℕ, Bool, true, List, [], ◌∷◌, length, filter, map, Contains, Some, Ok, refl, sym, ap, subst, ◌∙◌, arith, inl, inr}
use Rattle.std.proofs.lemmas.List.Elements.{All-from_recursion, All-contains, All-from_get_or, Contains-append_right}
use Rattle.std.specs.List.{AllByRecursion}
use Rattle.std.specs.FinMap.{get}
use Rattle.blk_base.specs.Bytes.{IsBytes, number_bytes}
use Rattle.blk_base.specs.Crc.{name_hash_of}
use Rattle.blk_base.specs.Keys.{inode_item, inode_ref, inode_extref, dir_item, dir_index}
use Rattle.blk_base.specs.Leaf.{Item}
use Rattle.blk_base.specs.Name.{IsName}
use Rattle.blk_base.specs.Items.{InodeValue, IsInode, inode_of}
use Rattle.blk_base.specs.Entries.{RefValue, ExtRefValue, EntryValue, IsEntries, IsEntryKind, refs_of, extrefs_of, entries_of, ref_bytes, extref_bytes}
use Rattle.blk_base.specs.ItemFaults.{LeadsToInode}
use Rattle.item_laws.specs.Refs.{refs_to}
use Rattle.item_laws.specs.ExtRefs.{extrefs_to}
use Rattle.item_laws.proofs.FaultLaws.{item_spelled}
use Rattle.format_laws.specs.Items.{inode_of-Ok}
use Rattle.flat_model.specs.Names.{FlatName}
use Rattle.flat_model.specs.Records.{InodeRecord}
use Rattle.flat_model.specs.Volume.{Subvolume}
use Rattle.flat_model.specs.Coherent.{AreBytes, IsNameBytes, IsIndexNumber}
use Rattle.volume_image.specs.Subvolume.{Data, HasEntries, make_key, hashed_asked, indexed_asked, entry_of, entry_kind_of, without_transid, ref_of, extref_of}
use Rattle.volume_image.proofs.Reaches.{head_in, tail_in}
use Rattle.volume_image.proofs.Members.{in_filter, in_map, map_in, flat_map_in}
use Rattle.image_faults.specs.Said.{read_list, entries_at, said_record, said_sub}
use Rattle.image_faults.specs.Faulty.{AreReadable, StandOnce, IsThere, IsEntryOf, IsRightRef, HasNoFault}
use Rattle.image_faults.specs.Lists.{permuted, once_map, once_filter, once_names, once_entries}
use Rattle.image_faults.proofs.Rising.{key_once}
use Rattle.image_faults.proofs.Readings.{said_from, said_in_order, entry_in, entry_from, inode_from, inode_said}
use Rattle.image_faults.proofs.Entries.{AreSpelled, GoTogether, entries_read, index_one}
use Rattle.image_faults.proofs.Asking.{is_indexed_at, is_hashed_at, at_index, asked_index, with_hash, asked_hash}

-- ---- lists

pub all_at : {X : Type 0} (P : X → Type 0) (xs : List X) (x : X) → AllByRecursion P xs → Contains xs x → P x
all_at P xs x all c = All-contains P xs x (All-from_recursion P xs all) c

all_in : {X : Type 0} (P : X → Type 0) (xs : List X) → ((x : X) → Contains xs x → P x) → AllByRecursion P xs
all_in P [] h = tt
all_in P (x ∷ xs) h = (h x (head_in x xs), all_in P xs (λ y c. h y (tail_in x y xs c)))

-- bytes among bytes
bytes_among : (part whole : List ℕ) → IsBytes whole → ((byte : ℕ) → Contains part byte → Contains whole byte) → AreBytes part
bytes_among part whole are inside =
    All-from_recursion (λ byte. byte < 256) part
    (all_in (λ byte. byte < 256) part (λ byte c. All-contains (λ b. b < 256) whole byte (All-from_get_or (λ b. b < 256) whole 0 (λ i below. are i)) (inside byte c)))

entry_value_none : (kind : ℕ) (e : EntryValue) → (kind ≡ dir_item) ⊎ (kind ≡ dir_index) → IsEntryKind kind e → e.value ≡ []
entry_value_none kind e is (inl attribute) = let k = attribute.0 in elim is [ inl hashed ↦ absurd (omega arith) | inr indexed ↦ absurd (omega arith) ]
entry_value_none kind e is (inr named) = named.2

module _ (items : List Item) (blocks : Data) (ok : AreReadable items) (right : (ino : ℕ) → HasNoFault items blocks ino) where
  abbrev s : Subvolume
  s = said_sub items blocks

  pub spelled : AreSpelled items
  spelled key bytes there = item_spelled key bytes (ok.bytes key bytes there) (ok.faultless key bytes there)

  -- ---- inodes that are there

  -- what has items has an inode item, and its record is among the inodes
  pub record Inode (ino : ℕ) : Type 0 where
    pub bytes : List ℕ
    pub value : InodeValue
    pub there : Contains items (make_key ino inode_item 0, bytes)
    pub is : IsInode bytes value
    pub read : inode_of bytes ≡ Ok value
    pub said : get (said_sub items blocks).inodes ino ≡ Some (said_record items blocks ino value)

  pub inode_at : (ino : ℕ) → IsThere items ino → Inode ino
  inode_at ino has =
      let item = (right ino).inode has in
      let is = (spelled (make_key ino inode_item 0) item.0 item.1).inode refl in
      let read = inode_of-Ok item.0 is.0 is.1 in
      record { bytes = item.0; value = is.0; there = item.1; is = is.1; read = read; said = inode_said items blocks ino item.0 is.0 ok.rise item.1 read }

  pub is_there : (ino : ℕ) (inode : InodeRecord) → get s.inodes ino ≡ Some inode → IsThere items ino
  is_there ino inode h = let item = inode_from items blocks ino inode h in ((make_key ino inode_item 0, item.bytes), item.there, refl)

  pub name_owner : (name : FlatName) → Contains s.names name → Inode name.ino
  name_owner name c = inode_at name.ino (elim (said_from items name c) [
    | inl item ↦ ((make_key name.ino inode_ref name.dir, item.bytes), item.there, refl)
    | inr item ↦ ((make_key name.ino inode_extref item.hash, item.bytes), item.there, refl)
  ])

  pub root_has_no_name : (name : FlatName) → Contains s.names name → name.ino ≢ 256
  root_has_no_name = (right 256).own.root_has_no_name refl

  pub ref_at : (name : FlatName) → Contains s.names name → IsRightRef items s name
  ref_at name c = (right name.ino).refs name c refl

  -- ---- names

  pub no_name_twice : (one two : FlatName) → Contains s.names one → Contains s.names two → one.dir ≡ two.dir → one.bytes ≡ two.bytes → one ≡ two
  no_name_twice one two c d dir bytes =
      let a = (ref_at one c).indexed in
      let b = (ref_at two d).indexed in
      let here : Contains (entries_at items dir_index one.dir) (two.index, b.0) = subst (λ (n : ℕ). Contains (entries_at items dir_index n) (two.index, b.0)) (sym dir) b.1 in
      let index : one.index ≡ two.index = (right one.dir).own.slots (one.index, a.0) (two.index, b.0) a.1 here (a.2.bytes ∙ bytes ∙ sym b.2.bytes) in
      let entry = index_one items ok.rise spelled one.dir two.index a.0 b.0 (subst (λ (n : ℕ). Contains (entries_at items dir_index one.dir) (n, a.0)) index a.1) here in
      let ino : one.ino ≡ two.ino = sym a.2.ino ∙ ap (λ (e : EntryValue). e.target.objectid) entry ∙ b.2.ino in
      (right two.ino).own.names_once one two c d ino refl dir bytes

  pub no_index_twice : (one two : FlatName) → Contains s.names one → Contains s.names two → one.dir ≡ two.dir → one.index ≡ two.index → one ≡ two
  no_index_twice one two c d dir index =
      let a = (ref_at one c).indexed in
      let b = (ref_at two d).indexed in
      let here : Contains (entries_at items dir_index one.dir) (two.index, b.0) = subst (λ (n : ℕ). Contains (entries_at items dir_index n) (two.index, b.0)) (sym dir) b.1 in
      let entry = index_one items ok.rise spelled one.dir two.index a.0 b.0 (subst (λ (n : ℕ). Contains (entries_at items dir_index one.dir) (n, a.0)) index a.1) here in
      no_name_twice one two c d dir (sym a.2.bytes ∙ ap (λ (e : EntryValue). e.name) entry ∙ b.2.bytes)

  pub index_numbers : (name : FlatName) → Contains s.names name → IsIndexNumber name.index
  index_numbers name c = let e = (ref_at name c).indexed in (right name.dir).own.indexes (name.index, e.0) e.1

  pub go_together : (dir : ℕ) → GoTogether items s.names dir
  go_together dir = record {
    there = λ p c. let ref = ((right dir).indexed p.0 p.1 c).ref in (ref.0, ref.1, ref.2, ref.3, ref.4.bytes);
    back = λ name c d. let e = (ref_at name c).indexed in (e.0, subst (λ (n : ℕ). Contains (entries_at items dir_index n) (name.index, e.0)) d e.1, e.2.bytes);
    once = λ one two c d e f same. no_name_twice one two c d (e ∙ sym f) same;
  }

  -- the bytes of a name are bytes, and a name's
  pub name_limits : (name : FlatName) → Contains s.names name → IsNameBytes name.bytes
  name_limits name c = elim (said_from items name c) [
    | inl item ↦
        let key = make_key name.ino inode_ref name.dir in
        let refs = (spelled key item.bytes item.there).refs refl in
        let has : Contains refs.0 (ref_of name) = subst (λ (r : List RefValue). Contains r (ref_of name)) (ap read_list (refs_to key item.bytes refs.0 refs.1)) item.ref in (
          elim (all_at (λ (r : RefValue). Rattle.blk_base.specs.Entries.IsRefName key r.name) refs.0 (ref_of name) refs.1.names has) [ inl is ↦ is | inr own ↦ absurd (root_has_no_name name c own.0.0) ],
          bytes_among name.bytes item.bytes (ok.bytes key item.bytes item.there)
              (λ byte d. subst (λ (b : List ℕ). Contains b byte) (sym refs.1.spelled)
              (flat_map_in ref_bytes refs.0 (ref_of name) byte has (Contains-append_right (number_bytes 8 name.index) (number_bytes 2 (length name.bytes) ++ name.bytes) byte (Contains-append_right (number_bytes 2 (length name.bytes)) name.bytes byte d)))),
        )
    | inr item ↦
        let key = make_key name.ino inode_extref item.hash in
        let refs = (spelled key item.bytes item.there).extrefs refl in
        let has : Contains refs.0 (extref_of name) = subst (λ (r : List ExtRefValue). Contains r (extref_of name)) (ap read_list (extrefs_to item.bytes refs.0 refs.1)) item.ref in (
          all_at (λ (r : ExtRefValue). IsName r.name) refs.0 (extref_of name) refs.1.names has,
          bytes_among name.bytes item.bytes (ok.bytes key item.bytes item.there)
              (λ byte d. subst (λ (b : List ℕ). Contains b byte) (sym refs.1.spelled)
              (flat_map_in extref_bytes refs.0 (extref_of name) byte has
              (Contains-append_right (number_bytes 8 name.dir) (number_bytes 8 name.index ++ (number_bytes 2 (length name.bytes) ++ name.bytes)) byte
              (Contains-append_right (number_bytes 8 name.index) (number_bytes 2 (length name.bytes) ++ name.bytes) byte (Contains-append_right (number_bytes 2 (length name.bytes)) name.bytes byte d))))),
        )
  ]

  -- ---- entries

  -- an entry that is placed stands in the item of its place
  pub placed_in : (kind ino offset : ℕ) (bytes : List ℕ) (e : EntryValue) → Contains (entries_at items kind ino) (offset, e) → Contains items (make_key ino kind offset, bytes) → Contains (read_list (entries_of kind bytes)) e
  placed_in kind ino offset bytes e c there =
      let item = entry_from items kind ino (offset, e) c in
      subst (λ (b : List ℕ). Contains (read_list (entries_of kind b)) e) (key_once items (make_key ino kind offset) item.bytes bytes ok.rise item.there there) item.entry

  -- an entry of a name is the one that is asked for
  entry_says : (name : FlatName) (e : EntryValue) → Contains s.names name → IsEntryOf name e → LeadsToInode e → ((inode : InodeRecord) → get s.inodes e.target.objectid ≡ Some inode → e.kind ≡ entry_kind_of (Some inode)) → e.value ≡ []
      → without_transid e ≡ entry_of s name
  entry_says name e c of leads type value =
      let owner = name_owner name c in
      let kind : e.kind ≡ entry_kind_of (get s.inodes name.ino) = type (said_record items blocks name.ino owner.value) (ap (get s.inodes) of.ino ∙ owner.said) ∙ ap entry_kind_of (sym owner.said) in
      λ i. record { target = record { objectid = of.ino i; kind = leads.kind i; offset = leads.offset i }; transid = 0; kind = kind i; name = of.bytes i; value = value i }

  -- a DIR_ITEM entry and its name
  hashed_says : (dir hash : ℕ) (bytes : List ℕ) (name : FlatName) (e : EntryValue) → Contains items (make_key dir dir_item hash, bytes) → Contains (entries_at items dir_item dir) (hash, e) → Contains s.names name → IsEntryOf name e
      → (name_hash_of e.name ≡ hash) × (without_transid e ≡ entry_of s name)
  hashed_says dir hash bytes name e there c has of =
      let key = make_key dir dir_item hash in
      let found = entries_read items ok.rise spelled dir_item dir hash bytes (inl refl) there in
      let inside = subst (λ (es : List EntryValue). Contains es e) found.2 (placed_in dir_item dir hash bytes e c there) in
      let content = all_at (λ (x : EntryValue). (name_hash_of x.name ≡ hash) × LeadsToInode x) found.0 e (((right dir).keys key bytes there refl).content.hashed refl found.0 found.1) inside in
      let value = entry_value_none dir_item e (inl refl) (all_at (IsEntryKind dir_item) found.0 e found.1.kinds inside) in
      (content.0, entry_says name e has of content.1 ((right dir).hashed hash e c).type value)

  -- a DIR_INDEX entry and its name
  indexed_says : (dir index : ℕ) (bytes : List ℕ) (name : FlatName) (e : EntryValue) → Contains items (make_key dir dir_index index, bytes) → Contains (entries_at items dir_index dir) (index, e) → Contains s.names name → IsEntryOf name e
      → without_transid e ≡ entry_of s name
  indexed_says dir index bytes name e there c has of =
      let key = make_key dir dir_index index in
      let found = entries_read items ok.rise spelled dir_index dir index bytes (inr (inl refl)) there in
      let inside = subst (λ (es : List EntryValue). Contains es e) found.2 (placed_in dir_index dir index bytes e c there) in
      let content = all_at LeadsToInode found.0 e (((right dir).keys key bytes there refl).content.indexed refl found.0 found.1) inside in
      let value = entry_value_none dir_index e (inr refl) (all_at (IsEntryKind dir_index) found.0 e found.1.kinds inside) in
      entry_says name e has of content ((right dir).indexed index e c).type value

  -- entries that are asked for differ as the names do
  entries_once : (dir : ℕ) (p : FlatName → Bool) → ((name : FlatName) → p name ≡ true → name.dir ≡ dir) → StandOnce (map (entry_of s) (filter p s.names))
  entries_once dir p in_dir = once_map (entry_of s) (filter p s.names)
      (λ n m c d e.
      let kn = in_filter p s.names n c in
      let km = in_filter p s.names m d in
      no_name_twice n m kn.0 km.0 (in_dir n kn.1 ∙ sym (in_dir m km.1)) (ap (λ (x : EntryValue). x.name) e))
      (once_filter p s.names (once_names s.names (said_in_order items)))

  pub hashed_is : (dir hash : ℕ) (bytes : List ℕ) → Contains items (make_key dir dir_item hash, bytes) → HasEntries dir_item bytes (hashed_asked s dir hash)
  hashed_is dir hash bytes there =
      let found = entries_read items ok.rise spelled dir_item dir hash bytes (inl refl) there in
      record {
        found = found.0;
        spelled = found.1;
        same = permuted (map without_transid found.0) (hashed_asked s dir hash) (once_entries found.0 found.1.once)
            (entries_once dir (is_hashed_at dir hash) (λ n e. Rattle.std.proofs.lemmas.Bool.eqb-true n.dir dir (Rattle.std.proofs.lemmas.Bool.and_parts _ _ e).0))
            (λ a c.
            let e = in_map without_transid found.0 a c in
            let placed = entry_in items dir_item dir hash bytes e.0 there (subst (λ (es : List EntryValue). Contains es e.0) (sym found.2) e.1) in
            let fellow = ((right dir).hashed hash e.0 placed).indexed in
            let ref = ((right dir).indexed fellow.0 fellow.1 fellow.2).ref in
            let of : IsEntryOf ref.0 e.0 = record { bytes = sym fellow.3 ∙ ref.4.bytes; ino = sym fellow.4 ∙ ref.4.ino } in
            let says = hashed_says dir hash bytes ref.0 e.0 there placed ref.1 of in
            subst (λ (x : EntryValue). Contains (hashed_asked s dir hash) x) (sym says.1 ∙ e.2)
            (subst (λ (h : ℕ). Contains (hashed_asked s dir h) (entry_of s ref.0)) (ap name_hash_of (sym of.bytes) ∙ says.0)
            (subst (λ (d : ℕ). Contains (hashed_asked s d (name_hash_of ref.0.bytes)) (entry_of s ref.0)) ref.2 (asked_hash s ref.0 ref.1))))
            (λ a c.
            let name = with_hash s dir hash a c in
            let e = (ref_at name.0 name.1).hashed in
            let placed = subst (λ (h : ℕ). Contains (entries_at items dir_item dir) (h, e.0)) name.3 (subst (λ (d : ℕ). Contains (entries_at items dir_item d) (name_hash_of name.0.bytes, e.0)) name.2 e.1) in
            let inside = subst (λ (es : List EntryValue). Contains es e.0) found.2 (placed_in dir_item dir hash bytes e.0 placed there) in
            let says = hashed_says dir hash bytes name.0 e.0 there placed name.1 e.2 in
            subst (λ (x : EntryValue). Contains (map without_transid found.0) x) (says.1 ∙ name.4) (map_in without_transid found.0 e.0 inside));
      }

  pub indexed_is : (dir index : ℕ) (bytes : List ℕ) → Contains items (make_key dir dir_index index, bytes) → HasEntries dir_index bytes (indexed_asked s dir index)
  indexed_is dir index bytes there =
      let found = entries_read items ok.rise spelled dir_index dir index bytes (inr (inl refl)) there in
      record {
        found = found.0;
        spelled = found.1;
        same = permuted (map without_transid found.0) (indexed_asked s dir index) (once_entries found.0 found.1.once)
            (entries_once dir (is_indexed_at dir index) (λ n e. Rattle.std.proofs.lemmas.Bool.eqb-true n.dir dir (Rattle.std.proofs.lemmas.Bool.and_parts _ _ e).0))
            (λ a c.
            let e = in_map without_transid found.0 a c in
            let placed = entry_in items dir_index dir index bytes e.0 there (subst (λ (es : List EntryValue). Contains es e.0) (sym found.2) e.1) in
            let ref = ((right dir).indexed index e.0 placed).ref in
            let says = indexed_says dir index bytes ref.0 e.0 there placed ref.1 ref.4 in
            subst (λ (x : EntryValue). Contains (indexed_asked s dir index) x) (sym says ∙ e.2)
            (subst (λ (h : ℕ). Contains (indexed_asked s dir h) (entry_of s ref.0)) ref.3
            (subst (λ (d : ℕ). Contains (indexed_asked s d ref.0.index) (entry_of s ref.0)) ref.2 (asked_index s ref.0 ref.1))))
            (λ a c.
            let name = at_index s dir index a c in
            let e = (ref_at name.0 name.1).indexed in
            let placed = subst (λ (h : ℕ). Contains (entries_at items dir_index dir) (h, e.0)) name.3 (subst (λ (d : ℕ). Contains (entries_at items dir_index d) (name.0.index, e.0)) name.2 e.1) in
            let inside = subst (λ (es : List EntryValue). Contains es e.0) found.2 (placed_in dir_index dir index bytes e.0 placed there) in
            let says = indexed_says dir index bytes name.0 e.0 there placed name.1 e.2 in
            subst (λ (x : EntryValue). Contains (map without_transid found.0) x) (says ∙ name.4) (map_in without_transid found.0 e.0 inside));
      }
