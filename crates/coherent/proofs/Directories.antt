-- Entries of directories, by the slots of all right names.
use Rattle.std.proofs.Common.{◌≡◌, ℕ, Bool, true, List, [], ◌∷◌, Contains, Option, Some, None, refl, sym, ap, subst, ◌∙◌, inl, inr}
use Rattle.std.proofs.lemmas.Bool.{and_from, and_parts, eq-eqb, eqb-true}
use Rattle.std.specs.List.{list_all}
use Rattle.std.specs.Option.{is_some, option_map}
use Rattle.std.specs.FinMap.{get}
use Rattle.std.specs.Prelude.{IsSome, IsTrue}
use Rattle.blk_base.specs.Crc.{name_hash_of}
use Rattle.blk_base.specs.Entries.{EntryValue}
use Rattle.blk_base.specs.ItemFaults.{LeadsToInode}
use Rattle.blk_base.specs.Keys.{dir_index, dir_item}
use Rattle.blk_base.specs.Leaf.{Item}
use Rattle.flat_model.specs.Coherent.{IsIndexNumber, greatest_number}
use Rattle.flat_model.specs.Names.{FlatName}
use Rattle.flat_model.specs.Records.{DirInode, FileInode, InodeRecord, LinkInode, kind_of}
use Rattle.flat_model.specs.Volume.{Subvolume, is_dir_at}
use Rattle.volume_image.specs.Subvolume.{Data, entry_kind_of, make_key}
use Rattle.volume_image.proofs.Lists.{in_nothing}
use Rattle.volume_image.proofs.Reaches.{head_in, tail_in}
use Rattle.image_faults.specs.Faulty.{AreReadable, HasNoFault, HasRightKey, IsEntryOf, IsRightHashed, IsRightIndexed, IsRightRef}
use Rattle.image_faults.specs.Said.{entries_at, said_sub}
use Rattle.image_faults.proofs.Entries.{entries_read, index_one}
use Rattle.image_faults.proofs.FromNames.{all_at}
use Rattle.image_faults.proofs.Readings.{entry_from}
use Rattle.inode_lines.specs.Kinds.{said_kind}
use Rattle.coherent_items.specs.Entries.{is_index, is_index_number, is_right_hashed, is_right_indexed, is_right_type}
use Rattle.coherent_names.specs.Names.{all_names}
use Rattle.coherent_slots.specs.Slots.{AreSlots, index_at}
use Rattle.coherent_slots.specs.declared.slots.Slots.{Slots}
use Rattle.coherent.proofs.Lists.{between_from, between_to, clash}
use Rattle.coherent.proofs.Names.{all_said, entry_one, said_all, spelled}

-- ---- tests

-- each of a list passes
pub passes_at : {X : Type 0} (p : X → Bool) (xs : List X) (x : X) → list_all p xs ≡ true → Contains xs x → p x ≡ true
passes_at p [] x all c = absurd (in_nothing x c)
passes_at p (y ∷ xs) x all c =
    let parts = and_parts (p y) (list_all p xs) all in
    elim (Rattle.volume_image.proofs.Lists.in_cons y x xs c) [ inl here ↦ sym (ap p here) ∙ parts.0 | inr there ↦ passes_at p xs x parts.1 there ]

pub all_pass : {X : Type 0} (p : X → Bool) (xs : List X) → ((x : X) → Contains xs x → p x ≡ true) → list_all p xs ≡ true
all_pass p [] each = refl
all_pass p (x ∷ xs) each = and_from (p x) (list_all p xs) (each x (head_in x xs)) (all_pass p xs (λ y c. each y (tail_in x y xs c)))

type_to : (inode : InodeRecord) (type : ℕ) → is_right_type (Some (kind_of inode)) type ≡ true → type ≡ entry_kind_of (Some inode)
type_to (FileInode file) type e = eqb-true type _ e
type_to (DirInode dir) type e = eqb-true type _ e
type_to (LinkInode link) type e = eqb-true type _ e

type_from : (o : Option InodeRecord) (type : ℕ) → ((inode : InodeRecord) → o ≡ Some inode → type ≡ entry_kind_of (Some inode)) → is_right_type (option_map kind_of o) type ≡ true
type_from None type is = refl
type_from (Some (FileInode file)) type is = eq-eqb type _ (is (FileInode file) refl)
type_from (Some (DirInode dir)) type is = eq-eqb type _ (is (DirInode dir) refl)
type_from (Some (LinkInode link)) type is = eq-eqb type _ (is (LinkInode link) refl)

index_some : (index : ℕ) (o : Option ℕ) → is_index index o ≡ true → o ≡ Some index
index_some index None e = clash (sym e)
index_some index (Some found) e = ap Some (eqb-true found index e)

index_is : (index : ℕ) (o : Option ℕ) → o ≡ Some index → is_index index o ≡ true
index_is index o e = ap (is_index index) e ∙ eq-eqb index index refl

some_index : (o : Option ℕ) → is_some o ≡ true → (index : ℕ) × (o ≡ Some index)
some_index None e = clash (sym e)
some_index (Some index) e = (index, refl)

is_some_of : (o : Option ℕ) → IsSome o → (index : ℕ) × (o ≡ Some index)
is_some_of None h = absurd cc
is_some_of (Some index) h = (index, refl)

pub number_to : (index : ℕ) → is_index_number index ≡ true → IsIndexNumber index
number_to index e = between_to index 2 greatest_number e

pub number_from : (index : ℕ) → IsIndexNumber index → is_index_number index ≡ true
number_from index is = between_from index 2 greatest_number is.0 is.1

module _ (items : List Item) (blocks : Data) (slots : Slots) (ok : AreReadable items) (are : AreSlots items (said_sub items blocks) (all_names items) slots) (dir : ℕ) where
  abbrev s : Subvolume
  s = said_sub items blocks

  pub types_to : (e : EntryValue) → is_right_type (said_kind items blocks e.target.objectid) e.kind ≡ true → (inode : InodeRecord) → get s.inodes e.target.objectid ≡ Some inode → e.kind ≡ entry_kind_of (Some inode)
  types_to e is inode there = type_to inode e.kind (sym (ap (λ (o : Option InodeRecord). is_right_type (option_map kind_of o) e.kind) there) ∙ is)

  types_from : (e : EntryValue) → ((inode : InodeRecord) → get s.inodes e.target.objectid ≡ Some inode → e.kind ≡ entry_kind_of (Some inode)) → is_right_type (said_kind items blocks e.target.objectid) e.kind ≡ true
  types_from e is = type_from (get s.inodes e.target.objectid) e.kind is

  -- ---- from the tests

  pub index_of : (index : ℕ) (e : EntryValue) → is_right_indexed (said_kind items blocks) slots dir index e ≡ true → index_at slots dir e.name ≡ Some index
  index_of index e test = index_some index (index_at slots dir e.name) (and_parts _ _ test).1

  -- the right name in the slot of an entry at an index
  pub indexed_name : (index : ℕ) (e : EntryValue) → index_at slots dir e.name ≡ Some index → Contains (entries_at items dir_index dir) (index, e)
      → (name : FlatName) × Contains s.names name × IsRightRef items s name × (name.dir ≡ dir) × (name.index ≡ index) × IsEntryOf name e
  indexed_name index e at c =
      let slot = are.sound dir index e.name at in
      let other = slot.right.indexed in
      let there : Contains (entries_at items dir_index dir) (index, other.0) =
      subst (λ (n : ℕ). Contains (entries_at items dir_index dir) (n, other.0)) slot.index_is (subst (λ (d : ℕ). Contains (entries_at items dir_index d) (slot.name.index, other.0)) slot.dir_is other.1) in
      let same = index_one items ok.rise (spelled items ok) dir index other.0 e there c in (
        slot.name,
        all_said items slot.name slot.there,
        slot.right,
        slot.dir_is,
        slot.index_is,
        record { bytes = sym slot.bytes_is; ino = sym (ap (λ (x : EntryValue). x.target.objectid) same) ∙ other.2.ino },
      )

  pub indexed_right : (index : ℕ) (e : EntryValue) → is_right_indexed (said_kind items blocks) slots dir index e ≡ true → Contains (entries_at items dir_index dir) (index, e) → IsRightIndexed items s dir index e
  indexed_right index e test c =
      let parts = and_parts _ _ test in
      let found = indexed_name index e (index_some index (index_at slots dir e.name) parts.1) c in
      let name = found.0 in
      let other = found.2.hashed in
      let there : Contains (entries_at items dir_item dir) (name_hash_of e.name, other.0) =
      subst (λ (b : List ℕ). Contains (entries_at items dir_item dir) (name_hash_of b, other.0)) (sym found.5.bytes) (subst (λ (d : ℕ). Contains (entries_at items dir_item d) (name_hash_of name.bytes, other.0)) found.3 other.1) in
      record {
        hashed = (other.0, there, other.2.bytes ∙ sym found.5.bytes, other.2.ino ∙ sym found.5.ino);
        ref = (name, found.1, found.3, found.4, found.5);
        type = types_to e parts.0;
      }

  -- the hash of an entry in a directory's item is that of its name
  pub hash_is : ((key : Rattle.blk_base.specs.declared.key.Key.Key) (bytes : List ℕ) → Contains items (key, bytes) → key.objectid ≡ dir → HasRightKey s key bytes) → (hash : ℕ) (e : EntryValue)
      → Contains (entries_at items dir_item dir) (hash, e) → name_hash_of e.name ≡ hash
  hash_is keys hash e c =
      let item = entry_from items dir_item dir (hash, e) c in
      let found = entries_read items ok.rise (spelled items ok) dir_item dir hash item.bytes (inl refl) item.there in
      let content = (keys (make_key dir dir_item hash) item.bytes item.there refl).content.hashed refl found.0 found.1 in
      (all_at (λ (x : EntryValue). (name_hash_of x.name ≡ hash) × LeadsToInode x) found.0 e content (subst (λ (es : List EntryValue). Contains es e) found.2 item.entry)).0

  pub hashed_right : ((key : Rattle.blk_base.specs.declared.key.Key.Key) (bytes : List ℕ) → Contains items (key, bytes) → key.objectid ≡ dir → HasRightKey s key bytes) → (hash : ℕ) (e : EntryValue)
      → is_right_hashed (said_kind items blocks) slots dir e ≡ true → Contains (entries_at items dir_item dir) (hash, e) → IsRightHashed items s dir e
  hashed_right keys hash e test c =
      let parts = and_parts _ _ test in
      let index = some_index (index_at slots dir e.name) parts.1 in
      let slot = are.sound dir index.0 e.name index.1 in
      let other = slot.right.hashed in
      let place : name_hash_of slot.name.bytes ≡ hash = ap name_hash_of slot.bytes_is ∙ hash_is keys hash e c in
      let there : Contains (entries_at items dir_item dir) (hash, other.0) =
      subst (λ (h : ℕ). Contains (entries_at items dir_item dir) (h, other.0)) place (subst (λ (d : ℕ). Contains (entries_at items dir_item d) (name_hash_of slot.name.bytes, other.0)) slot.dir_is other.1) in
      let same = entry_one items ok dir_item (inl refl) dir hash other.0 e there c (other.2.bytes ∙ slot.bytes_is) in
      let ino : e.target.objectid ≡ slot.name.ino = sym (ap (λ (x : EntryValue). x.target.objectid) same) ∙ other.2.ino in
      let fellow = slot.right.indexed in
      let at : Contains (entries_at items dir_index dir) (index.0, fellow.0) =
      subst (λ (n : ℕ). Contains (entries_at items dir_index dir) (n, fellow.0)) slot.index_is (subst (λ (d : ℕ). Contains (entries_at items dir_index d) (slot.name.index, fellow.0)) slot.dir_is fellow.1) in
      record { indexed = (index.0, fellow.0, at, fellow.2.bytes ∙ slot.bytes_is, fellow.2.ino ∙ sym ino); type = types_to e parts.0 }

  -- ---- from a directory without a fault

  module _ (whole : HasNoFault items blocks dir) where
    -- the name of an entry at an index is right
    ref_right : (index : ℕ) (e : EntryValue) → IsTrue (is_dir_at s dir) → Contains (entries_at items dir_index dir) (index, e)
        → (name : FlatName) × Contains s.names name × IsRightRef items s name × (name.dir ≡ dir) × (name.index ≡ index) × IsEntryOf name e
    ref_right index e is_dir c =
        let right = whole.indexed index e c in
        let ref = right.ref in
        let name = ref.0 in
        let fellow = right.hashed in
        let hashed : Contains (entries_at items dir_item name.dir) (name_hash_of name.bytes, fellow.0) =
        subst (λ (b : List ℕ). Contains (entries_at items dir_item name.dir) (name_hash_of b, fellow.0)) ref.4.bytes (subst (λ (d : ℕ). Contains (entries_at items dir_item d) (name_hash_of e.name, fellow.0)) (sym ref.2) fellow.1) in
        let indexed : Contains (entries_at items dir_index name.dir) (name.index, e) =
        subst (λ (n : ℕ). Contains (entries_at items dir_index name.dir) (n, e)) (sym ref.3) (subst (λ (d : ℕ). Contains (entries_at items dir_index d) (index, e)) (sym ref.2) c) in (
          name,
          ref.1,
          record {
            hashed = (fellow.0, hashed, record { bytes = fellow.2 ∙ ref.4.bytes; ino = fellow.3 ∙ ref.4.ino });
            indexed = (e, indexed, ref.4);
            parent = subst (λ (d : ℕ). IsTrue (is_dir_at s d)) (sym ref.2) is_dir;
          },
          ref.2,
          ref.3,
          ref.4,
        )

    -- the slot of its name has the entry's index
    slot_is : (index : ℕ) (e : EntryValue) → IsTrue (is_dir_at s dir) → Contains (entries_at items dir_index dir) (index, e) → index_at slots dir e.name ≡ Some index
    slot_is index e is_dir c =
        let found = ref_right index e is_dir c in
        let name = found.0 in
        let some = are.complete name (said_all items name found.1) found.2 in
        let here : IsSome (index_at slots dir e.name) = subst (λ (d : ℕ). IsSome (index_at slots d e.name)) found.3 (subst (λ (b : List ℕ). IsSome (index_at slots name.dir b)) (sym found.5.bytes) some) in
        let at = is_some_of (index_at slots dir e.name) here in
        let other = indexed_at at.0 e.name at.1 in
        at.1 ∙ ap Some (whole.own.slots (at.0, other.0) (index, e) other.1 c other.2)
      where
        -- what stands in the slot has an entry at its index
        indexed_at : (index : ℕ) (bytes : List ℕ) → index_at slots dir bytes ≡ Some index → (e : EntryValue) × Contains (entries_at items dir_index dir) (index, e) × (e.name ≡ bytes)
        indexed_at index bytes at =
            let slot = are.sound dir index bytes at in
            let entry = slot.right.indexed in
            (entry.0, subst (λ (n : ℕ). Contains (entries_at items dir_index dir) (n, entry.0)) slot.index_is (subst (λ (d : ℕ). Contains (entries_at items dir_index d) (slot.name.index, entry.0)) slot.dir_is entry.1), entry.2.bytes ∙ slot.bytes_is)

    pub indexed_passes : (index : ℕ) (e : EntryValue) → IsTrue (is_dir_at s dir) → Contains (entries_at items dir_index dir) (index, e) → is_right_indexed (said_kind items blocks) slots dir index e ≡ true
    indexed_passes index e is_dir c = and_from _ _ (types_from e (whole.indexed index e c).type) (index_is index (index_at slots dir e.name) (slot_is index e is_dir c))

    pub hashed_passes : (hash : ℕ) (e : EntryValue) → IsTrue (is_dir_at s dir) → Contains (entries_at items dir_item dir) (hash, e) → is_right_hashed (said_kind items blocks) slots dir e ≡ true
    hashed_passes hash e is_dir c =
        let right = whole.hashed hash e c in
        let fellow = right.indexed in
        let at : index_at slots dir e.name ≡ Some fellow.0 = ap (index_at slots dir) (sym fellow.3) ∙ slot_is fellow.0 fellow.1 is_dir fellow.2 in
        and_from _ _ (types_from e right.type) (ap is_some at)
