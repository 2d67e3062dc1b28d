-- Which items an inode without names has, and how great the offset of a key is.
use Rattle.std.proofs.Common.{◌≡◌, ◌≢◌, ◌<◌, ◌+◌, ◌/◌, ◌^◌, ◌⊎◌, ◌&&◌, ℕ, Bool, true, not, List, [], ◌∷◌, ◌++◌, Contains, Option, Some, None, IsPermutation, filter, length, map, nat_eq, refl, sym, ap, subst, ◌∙◌, arith, inl, inr}
use Rattle.std.specs.FinMap.{entries, get, nat_cmp-IsAntisymmetric, slice_cmp-IsAntisymmetric}
use Rattle.std.specs.Cmp.Lexicographic.{nat_list_cmp_total}
use Rattle.std.proofs.lemmas.Bool.{and_parts, cases_Bool, eqb-true, ne_eqb}
use Rattle.std.proofs.lemmas.List.Sorted.{length_permutation}
use Rattle.blk_base.specs.declared.key.Key.{Key}
use Rattle.blk_base.specs.Crc.{extref_hash_of, name_hash_of}
use Rattle.blk_base.specs.Entries.{EntryValue, RefValue}
use Rattle.blk_base.specs.Keys.{extent_data, inode_item, xattr_item}
use Rattle.blk_base.proofs.CrcLemmas.{extref_hash_of-fits, name_hash_of-fits}
use Rattle.flat_model.specs.Names.{FlatName}
use Rattle.flat_model.specs.Records.{DirInode, FileInode, InodeRecord, LinkInode, attributes_of}
use Rattle.flat_model.specs.Volume.{Subvolume}
use Rattle.volume_image.specs.Subvolume.{AttributesAsked, Data, ExtRefsAsked, ExtentAsked, HashedAsked, IndexedAsked, InodeAsked, IsAsked, IsExtentOf, RefsAsked, attribute_entry, attributes_asked, attributes_there, entry_of, extref_of, own_refs, ref_of, without_transid}
use Rattle.volume_image.proofs.Lists.{no_length}
use Rattle.volume_image.proofs.Members.{has_some, in_filter, in_get, in_map}
use Rattle.volume_image.proofs.Reaches.{head_in}
use Rattle.inode_removal.specs.Removal.{MayRemoveInode}

-- a list without members
no_members : {X : Type 0} (xs : List X) → ((x : X) → Contains xs x → ⊥) → xs ≡ []
no_members [] none = refl
no_members (x ∷ xs) none = absurd (none x (head_in x xs))

-- what is asked for where something is found
asked_some : {X : Type 0} (found asked : List X) → found ≢ [] → IsPermutation found asked → asked ≢ []
asked_some found asked some same none =
    some (no_length found (sym (length_permutation found asked same) ∙ ap length none))

pub entries_some : (found asked : List EntryValue) → found ≢ [] → IsPermutation (map without_transid found) asked → asked ≢ []
entries_some found asked some same none =
    empties found some (sym (length_permutation (map without_transid found) asked same) ∙ ap length none)
  where
    empties : (found : List EntryValue) → found ≢ [] → length (map without_transid found) ≡ 0 → ⊥
    empties [] some size = some refl
    empties (e ∷ found) some size = omega arith

-- a member of what is kept and mapped comes from one that is kept
from_kept : {X Y : Type 0} (f : X → Y) (p : X → Bool) (xs : List X) → map f (filter p xs) ≢ [] → (x : X) × Contains xs x × (p x ≡ true)
from_kept f p xs some =
    let there = has_some (map f (filter p xs)) some in
    let from = in_map f (filter p xs) there.0 there.1 in
    let kept = in_filter p xs from.0 from.1 in
    (from.0, kept.0, kept.1)

-- an attribute whose name has the hash of an item
pub record HasHash (sub : Subvolume) (other hash : ℕ) : Type 0 where
  pub inode : InodeRecord
  pub there : get sub.inodes other ≡ Some inode
  pub attribute : List ℕ × List ℕ
  pub has : Contains (entries (attributes_of inode)) attribute
  pub hashed : name_hash_of attribute.0 ≡ hash

pub has_hash : (sub : Subvolume) (other hash : ℕ) → attributes_asked sub other hash ≢ [] → HasHash sub other hash
has_hash sub other hash some = go (get sub.inodes other) refl some
  where
    go : (o : Option InodeRecord) → get sub.inodes other ≡ o → map attribute_entry (filter (λ attribute. nat_eq (name_hash_of attribute.0) hash) (attributes_there o)) ≢ [] → HasHash sub other hash
    go None is some = absurd (some refl)
    go (Some inode) is some =
        let from = from_kept attribute_entry (λ attribute. nat_eq (name_hash_of attribute.0) hash) (entries (attributes_of inode)) some in
        record { inode = inode; there = is; attribute = from.0; has = from.1; hashed = eqb-true (name_hash_of from.0.0) hash from.2 }

module _ (sub : Subvolume) (blocks : Data) (ino : ℕ) (may : MayRemoveInode sub ino) where
  -- ---- the kinds

  no_kept : {Y : Type 0} (f : FlatName → Y) (p : FlatName → Bool) → ((name : FlatName) → p name ≡ true → (name.ino ≡ ino) ⊎ (name.dir ≡ ino)) → map f (filter p sub.names) ≡ []
  no_kept f p tells =
      let none : filter p sub.names ≡ [] = no_members (filter p sub.names) (λ name c.
      let kept = in_filter p sub.names name c in
      elim (tells name kept.1) [ inl leads ↦ may.unnamed name kept.0 leads | inr stands ↦ may.without_names name kept.0 stands ]) in
      ap (λ (l : List FlatName). map f l) none

  no_refs : (parent : ℕ) → own_refs ino parent ≡ []
  no_refs parent = rw (ne_eqb ino 256 may.not_root) refl

  pub kind_of_item : (key : Key) (bytes : List ℕ) → key.objectid ≡ ino → IsAsked sub blocks key bytes → (key.kind ≡ inode_item) ⊎ ((key.kind ≡ xattr_item) ⊎ (key.kind ≡ extent_data))
  kind_of_item key bytes is (InodeAsked inode kind zero there says) = inl kind
  kind_of_item key bytes is (RefsAsked found kind spelled same) =
      absurd (asked_some found _ spelled.some same
      (ap (λ (l : List RefValue). l ++ map ref_of (filter (λ name. name.near && (nat_eq name.ino key.objectid && nat_eq name.dir key.offset)) sub.names)) (ap (λ (i : ℕ). own_refs i key.offset) is ∙ no_refs key.offset)
      ∙ no_kept ref_of (λ name. name.near && (nat_eq name.ino key.objectid && nat_eq name.dir key.offset)) (λ name kept. inl (eqb-true name.ino key.objectid (and_parts _ _ (and_parts _ _ kept).1).0 ∙ is))))
  kind_of_item key bytes is (ExtRefsAsked found kind spelled same) =
      absurd (asked_some found _ spelled.some same
      (no_kept extref_of (λ name. not name.near && (nat_eq name.ino key.objectid && nat_eq (extref_hash_of name.dir name.bytes) key.offset)) (λ name kept. inl (eqb-true name.ino key.objectid (and_parts _ _ (and_parts _ _ kept).1).0 ∙ is))))
  kind_of_item key bytes is (AttributesAsked kind has) = inr (inl kind)
  kind_of_item key bytes is (HashedAsked kind has) =
      absurd (entries_some has.found _ has.spelled.some has.same
      (no_kept (entry_of sub) (λ name. nat_eq name.dir key.objectid && nat_eq (name_hash_of name.bytes) key.offset) (λ name kept. inr (eqb-true name.dir key.objectid (and_parts _ _ kept).0 ∙ is))))
  kind_of_item key bytes is (IndexedAsked kind has) =
      absurd (entries_some has.found _ has.spelled.some has.same
      (no_kept (entry_of sub) (λ name. nat_eq name.dir key.objectid && nat_eq name.index key.offset) (λ name kept. inr (eqb-true name.dir key.objectid (and_parts _ _ kept).0 ∙ is))))
  kind_of_item key bytes is (ExtentAsked inode kind there says) = inr (inr kind)

  -- ---- the offsets

  hash_is_small : (other hash : ℕ) → HasHash sub other hash → hash < 2 ^ 32
  hash_is_small other hash has =
      let value = in_get nat_list_cmp_total (slice_cmp-IsAntisymmetric nat_cmp-IsAntisymmetric) (attributes_of has.inode) has.attribute.0 has.attribute.1 has.has in
      let limits = (may.limits other has.inode has.there).attributes has.attribute.0 has.attribute.1 value in
      subst (λ (h : ℕ). h < 2 ^ 32) has.hashed (name_hash_of-fits has.attribute.0 limits.0.1)

  extent_is_low : (key : Key) (bytes : List ℕ) (inode : InodeRecord) → get sub.inodes key.objectid ≡ Some inode → IsExtentOf blocks inode key bytes → key.offset + 1 < 2 ^ 64
  extent_is_low key bytes (FileInode file) there (at, len, is, holds) =
      let run = is.9 in
      let some : 0 < len / 4096 = omega (arith, run.0, run.1) in
      let block = holds 0 some in
      let limits = (may.limits key.objectid (FileInode file) there).kind in
      let below = (limits.blocks (key.offset / 4096 + 0) block.0 block.2).begins_below_size in
      let size = limits.size in
      omega (arith, below, size)
  extent_is_low key bytes (DirInode dir) there is = absurd is
  extent_is_low key bytes (LinkInode link) there is = let zero = is.5 in omega (arith, zero)

  pub small_offset : (key : Key) (bytes : List ℕ) → IsAsked sub blocks key bytes → key.offset + 1 < 2 ^ 64
  small_offset key bytes (InodeAsked inode kind zero there says) = omega (arith, zero)
  small_offset key bytes (RefsAsked found kind spelled same) = elim (cases_Bool (nat_eq key.objectid 256 && nat_eq key.offset 256)) [
    | inl root ↦ let is : key.offset ≡ 256 = eqb-true key.offset 256 (and_parts _ _ root).1 in omega (arith, is)
    | inr other ↦
        let some = asked_some found _ spelled.some same in
        let name = from_kept ref_of (λ (name : FlatName). name.near && (nat_eq name.ino key.objectid && nat_eq name.dir key.offset)) sub.names (λ none.
        some (rw other none)) in
        let dir : name.0.dir ≡ key.offset = eqb-true name.0.dir key.offset (and_parts _ _ (and_parts _ _ name.2).1).1 in
        let most = may.directories name.0 name.1 in
        omega (arith, dir, most)
  ]
  small_offset key bytes (ExtRefsAsked found kind spelled same) =
      let name = from_kept extref_of (λ (name : FlatName). not name.near && (nat_eq name.ino key.objectid && nat_eq (extref_hash_of name.dir name.bytes) key.offset)) sub.names (asked_some found _ spelled.some same) in
      let is : extref_hash_of name.0.dir name.0.bytes ≡ key.offset = eqb-true (extref_hash_of name.0.dir name.0.bytes) key.offset (and_parts _ _ (and_parts _ _ name.2).1).1 in
      let most = extref_hash_of-fits name.0.dir name.0.bytes (may.names name.0 name.1).1 in
      omega (arith, is, most)
  small_offset key bytes (AttributesAsked kind has) =
      let most = hash_is_small key.objectid key.offset (has_hash sub key.objectid key.offset (entries_some has.found _ has.spelled.some has.same)) in
      omega (arith, most)
  small_offset key bytes (HashedAsked kind has) =
      let name = from_kept (entry_of sub) (λ (name : FlatName). nat_eq name.dir key.objectid && nat_eq (name_hash_of name.bytes) key.offset) sub.names (entries_some has.found _ has.spelled.some has.same) in
      let is : name_hash_of name.0.bytes ≡ key.offset = eqb-true (name_hash_of name.0.bytes) key.offset (and_parts _ _ name.2).1 in
      let most = name_hash_of-fits name.0.bytes (may.names name.0 name.1).1 in
      omega (arith, is, most)
  small_offset key bytes (IndexedAsked kind has) =
      let name = from_kept (entry_of sub) (λ (name : FlatName). nat_eq name.dir key.objectid && nat_eq name.index key.offset) sub.names (entries_some has.found _ has.spelled.some has.same) in
      let is : name.0.index ≡ key.offset = eqb-true name.0.index key.offset (and_parts _ _ name.2).1 in
      let most = may.indexes name.0 name.1 in
      omega (arith, is, most)
  small_offset key bytes (ExtentAsked inode kind there says) = extent_is_low key bytes inode there says
