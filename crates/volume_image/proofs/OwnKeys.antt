-- Each item that a subvolume asks for is spelled by the grammar of its type and has the key that the format gives for its content.
use Rattle.std.proofs.Common.{◌≡◌, ◌&&◌, ◌||◌, ◌==◌, ℕ, Bool, true, not, nat_eq, List, [], ◌∷◌, Contains, map, filter, refl, sym, ap, subst, ◌∙◌, inl, inr}
use Rattle.std.specs.List.{AllByRecursion}
use Rattle.std.proofs.lemmas.Bool.{and_parts, eqb-true, or_left, or_right, eq-eqb}
use Rattle.std.proofs.lemmas.List.Sorted.{Contains-permutation}
use Rattle.blk_base.specs.declared.key.Key.{Key}
use Rattle.blk_base.specs.Crc.{name_hash_of, extref_hash_of}
use Rattle.blk_base.specs.Keys.{inode_item, inode_ref, inode_extref, xattr_item, dir_item, dir_index, extent_data, dir_log_index}
use Rattle.blk_base.specs.Entries.{ExtRefValue, EntryValue, IsExtRefs, IsEntries}
use Rattle.blk_base.specs.Extents.{ExtentValue, Inline, Regular, IsExtent}
use Rattle.blk_base.specs.ItemFaults.{IsSpelled, IsEntriesKind, HasItsKey, LeadsToInode, LeadsNowhere, is_subvolume_kind}
use Rattle.blk_base.specs.Leaf.{Item}
use Rattle.flat_model.specs.Names.{FlatName}
use Rattle.flat_model.specs.Records.{InodeRecord, FileInode, DirInode, LinkInode}
use Rattle.flat_model.specs.Volume.{Subvolume}
use Rattle.volume_image.specs.Subvolume.{Data, IsAsked, InodeAsked, RefsAsked, ExtRefsAsked, AttributesAsked, HashedAsked, IndexedAsked, ExtentAsked, HasEntries, IsExtentOf, extref_of, extrefs_asked, entry_of, hashed_asked, indexed_asked, attribute_entry, attributes_asked, attributes_there, without_transid}
use Rattle.volume_image.proofs.Asked.{asked_inode, asked_refs, asked_extrefs, asked_attributes, asked_hashed, asked_indexed, asked_extent}
use Rattle.volume_image.proofs.Members.{in_filter, in_map, map_in}
use Rattle.volume_image.proofs.Reaches.{head_in, tail_in}
use Rattle.volume_image.proofs.Spellings.{extrefs_are_one, entries_are_one}

-- what holds of all that stands in a list
all_in : {X : Type 0} (P : X → Type 0) (xs : List X) → ((x : X) → Contains xs x → P x) → AllByRecursion P xs
all_in P [] h = tt
all_in P (x ∷ xs) h = (h x (head_in x xs), all_in P xs (λ y c. h y (tail_in x y xs c)))

-- ---- hashes and targets

extrefs_hash : (sub : Subvolume) (ino hash : ℕ) (ref : ExtRefValue) → Contains (extrefs_asked sub ino hash) ref → extref_hash_of ref.parent ref.name ≡ hash
extrefs_hash sub ino hash ref c =
    let found = in_map extref_of _ ref c in
    let kept = in_filter (λ name. not name.near && (nat_eq name.ino ino && nat_eq (extref_hash_of name.dir name.bytes) hash)) sub.names found.0 found.1 in
    subst (λ (r : ExtRefValue). extref_hash_of r.parent r.name ≡ hash) found.2 (eqb-true _ _ (and_parts _ _ (and_parts _ _ kept.1).1).1)

-- an entry that is found is asked for, apart from its transid
is_asked_for : (kind : ℕ) (bytes : List ℕ) (asked entries : List EntryValue) (e : EntryValue) → HasEntries kind bytes asked → IsEntries kind bytes entries → Contains entries e → Contains asked (without_transid e)
is_asked_for kind bytes asked entries e has is c =
    Contains-permutation (map without_transid has.found) asked (without_transid e) has.same
    (map_in without_transid has.found e (subst (λ (es : List EntryValue). Contains es e) (entries_are_one kind bytes entries has.found is has.spelled) c))

leads : (sub : Subvolume) (name : FlatName) (e : EntryValue) → entry_of sub name ≡ without_transid e → LeadsToInode e
leads sub name e same = record { kind = ap (λ (x : EntryValue). x.target.kind) (sym same); offset = ap (λ (x : EntryValue). x.target.offset) (sym same) }

hashed_key : (sub : Subvolume) (dir hash : ℕ) (e : EntryValue) → Contains (hashed_asked sub dir hash) (without_transid e) → (name_hash_of e.name ≡ hash) × LeadsToInode e
hashed_key sub dir hash e c =
    let found = in_map (entry_of sub) _ (without_transid e) c in
    let kept = in_filter (λ name. nat_eq name.dir dir && nat_eq (name_hash_of name.bytes) hash) sub.names found.0 found.1 in
    (ap (λ (x : EntryValue). name_hash_of x.name) (sym found.2) ∙ eqb-true _ _ (and_parts _ _ kept.1).1, leads sub found.0 e found.2)

indexed_key : (sub : Subvolume) (dir index : ℕ) (e : EntryValue) → Contains (indexed_asked sub dir index) (without_transid e) → LeadsToInode e
indexed_key sub dir index e c = let found = in_map (entry_of sub) _ (without_transid e) c in leads sub found.0 e found.2

attribute_key : (sub : Subvolume) (ino hash : ℕ) (e : EntryValue) → Contains (attributes_asked sub ino hash) (without_transid e) → (name_hash_of e.name ≡ hash) × LeadsNowhere e
attribute_key sub ino hash e c =
    let found = in_map attribute_entry _ (without_transid e) c in
    let kept = in_filter (λ attribute. nat_eq (name_hash_of attribute.0) hash) _ found.0 found.1 in
    let back = sym found.2 in (
      ap (λ (x : EntryValue). name_hash_of x.name) back ∙ eqb-true _ _ kept.1,
      record { objectid = ap (λ (x : EntryValue). x.target.objectid) back; kind = ap (λ (x : EntryValue). x.target.kind) back; offset = ap (λ (x : EntryValue). x.target.offset) back },
    )

pub has_its_key : (sub : Subvolume) (blocks : Data) (key : Key) (bytes : List ℕ) → IsAsked sub blocks key bytes → HasItsKey key bytes
has_its_key sub blocks key bytes asked = record {
  inode = λ k. (asked_inode sub blocks key bytes k asked).1;
  extrefs = λ k refs is. all_in (λ (ref : ExtRefValue). extref_hash_of ref.parent ref.name ≡ key.offset) refs (λ ref c.
      let a = asked_extrefs sub blocks key bytes k asked in
      extrefs_hash sub key.objectid key.offset ref
      (Contains-permutation a.0 (extrefs_asked sub key.objectid key.offset) ref a.2 (subst (λ (rs : List ExtRefValue). Contains rs ref) (extrefs_are_one bytes refs a.0 is a.1) c)));
  hashed = λ k entries is. all_in (λ (e : EntryValue). (name_hash_of e.name ≡ key.offset) × LeadsToInode e) entries
      (λ e c. hashed_key sub key.objectid key.offset e (is_asked_for dir_item bytes (hashed_asked sub key.objectid key.offset) entries e (asked_hashed sub blocks key bytes k asked) is c));
  indexed = λ k entries is. all_in LeadsToInode entries
      (λ e c. indexed_key sub key.objectid key.offset e (is_asked_for dir_index bytes (indexed_asked sub key.objectid key.offset) entries e (asked_indexed sub blocks key bytes k asked) is c));
  attributes = λ k entries is. all_in (λ (e : EntryValue). (name_hash_of e.name ≡ key.offset) × LeadsNowhere e) entries
      (λ e c. attribute_key sub key.objectid key.offset e (is_asked_for xattr_item bytes (attributes_asked sub key.objectid key.offset) entries e (asked_attributes sub blocks key bytes k asked) is c));
}

-- ---- the grammar

extent_spelled : (blocks : Data) (inode : InodeRecord) (key : Key) (bytes : List ℕ) → IsExtentOf blocks inode key bytes → (value : ExtentValue) × IsExtent key bytes value
extent_spelled blocks (FileInode file) key bytes is = (Regular is.0 0 is.1, is.2)
extent_spelled blocks (DirInode dir) key bytes is = absurd is
extent_spelled blocks (LinkInode link) key bytes is = (Inline link.target, is)

kind_asked : (sub : Subvolume) (blocks : Data) (key : Key) (bytes : List ℕ) → IsAsked sub blocks key bytes → is_subvolume_kind key.kind ≡ true
kind_asked sub blocks key bytes (InodeAsked inode k zero there is) = rw k refl
kind_asked sub blocks key bytes (RefsAsked found k is same) = rw k refl
kind_asked sub blocks key bytes (ExtRefsAsked found k is same) = rw k refl
kind_asked sub blocks key bytes (AttributesAsked k is) = rw k refl
kind_asked sub blocks key bytes (HashedAsked k is) = rw k refl
kind_asked sub blocks key bytes (IndexedAsked k is) = rw k refl
kind_asked sub blocks key bytes (ExtentAsked inode k there is) = rw k refl

no_range : (kind : ℕ) → is_subvolume_kind kind ≡ true → kind ≡ dir_log_index → ⊥
no_range kind h k = let range : is_subvolume_kind dir_log_index ≡ true = subst (λ (n : ℕ). is_subvolume_kind n ≡ true) k h in absurd cc

pub asked_is_spelled : (sub : Subvolume) (blocks : Data) (key : Key) (bytes : List ℕ) → IsAsked sub blocks key bytes → IsSpelled key bytes
asked_is_spelled sub blocks key bytes asked = record {
  inode = λ k. let is = (asked_inode sub blocks key bytes k asked).3 in (is.value, is.spelled);
  refs = λ k. let a = asked_refs sub blocks key bytes k asked in (a.0, a.1);
  extrefs = λ k. let a = asked_extrefs sub blocks key bytes k asked in (a.0, a.1);
  entries = of_entries;
  extent = λ k. let a = asked_extent sub blocks key bytes k asked in extent_spelled blocks a.0 key bytes a.2;
  range = λ k. absurd (no_range key.kind (kind_asked sub blocks key bytes asked) k);
}
  where
    spelled_as : (kind : ℕ) (wanted : List EntryValue) → key.kind ≡ kind → HasEntries kind bytes wanted → (entries : List EntryValue) × IsEntries key.kind bytes entries
    spelled_as kind wanted k has = (has.found, subst (λ (n : ℕ). IsEntries n bytes has.found) (sym k) has.spelled)

    of_entries : IsEntriesKind key.kind → (entries : List EntryValue) × IsEntries key.kind bytes entries
    of_entries (inl k) = spelled_as dir_item _ k (asked_hashed sub blocks key bytes k asked)
    of_entries (inr (inl k)) = spelled_as dir_index _ k (asked_indexed sub blocks key bytes k asked)
    of_entries (inr (inr k)) = spelled_as xattr_item _ k (asked_attributes sub blocks key bytes k asked)

pub asked_kind : (sub : Subvolume) (blocks : Data) (key : Key) (bytes : List ℕ) → IsAsked sub blocks key bytes → is_subvolume_kind key.kind ≡ true
asked_kind sub blocks key bytes asked = kind_asked sub blocks key bytes asked
