-- The key of each item that a subvolume asks for is among those that were counted.
use Rattle.std.proofs.Common.{◌≡◌, ◌≢◌, ◌<◌, ◌≤◌, ◌+◌, ◌*◌, ◌/◌, ◌++◌, ◌&&◌, ℕ, Bool, true, false, not, List, [], ◌∷◌, length, map, filter, Contains, Some, nat_eq, refl, sym, subst, inl, inr, arith}
use Rattle.std.specs.Cmp.{nat_cmp_total}
use Rattle.std.specs.FinMap.{entries, get, keys, nat_cmp-IsAntisymmetric}
use Rattle.std.proofs.lemmas.Bool.{and_parts, eqb-true}
use Rattle.std.proofs.lemmas.List.Elements.{Contains-append_cases, Contains-append_left, Contains-append_right}
use Rattle.std.proofs.lemmas.List.Sorted.{Contains-permutation}
use Rattle.blk_base.specs.declared.key.Key.{Key}
use Rattle.blk_base.specs.Crc.{name_hash_of, extref_hash_of}
use Rattle.blk_base.specs.Keys.{inode_item, inode_ref, inode_extref, xattr_item, dir_item, dir_index, extent_data}
use Rattle.blk_base.specs.Entries.{RefValue}
use Rattle.blk_base.specs.Leaf.{Item}
use Rattle.blk_base.specs.Trees.{ItemsRise}
use Rattle.flat_model.specs.Records.{InodeRecord, FileInode, DirInode, LinkInode, attributes_of}
use Rattle.flat_model.specs.Names.{FlatName}
use Rattle.flat_model.specs.Needs.{attribute_hashes}
use Rattle.flat_model.specs.Volume.{Subvolume}
use Rattle.logged_volume.proofs.Counts.{length_within}
use Rattle.volume_image.specs.Subvolume.{AreItemsOf, Data, IsAsked, InodeAsked, RefsAsked, ExtRefsAsked, AttributesAsked, HashedAsked, IndexedAsked, ExtentAsked, IsExtentOf, make_key, own_refs, ref_of, extref_of, entry_of, refs_asked, extrefs_asked, attributes_asked}
use Rattle.volume_image.proofs.Members.{not_empty, get_in, has_some, in_map, map_in, filter_in, flat_map_in}
use Rattle.volume_image.proofs.Reaches.{head_in, tail_in}
use Rattle.inode_removal.proofs.OwnItems.{has_hash, entries_some}
use Rattle.commit_room.specs.Items.{items_of}
use Rattle.tree_counts.proofs.Lists.{from_kept, keys_differ, length_map, pair_in, number_in, each_pair, each_number}
use Rattle.tree_counts.proofs.Wanted.{pair_key, ref_pairs, extref_pairs, entry_pairs, inode_keys, dots_key, ref_keys, extref_keys, entry_keys, index_keys, extent_keys, attribute_keys, own_keys, all_own, keys_wanted, wanted_length}

key_is : (key : Key) (objectid kind offset : ℕ) → objectid ≡ key.objectid → key.kind ≡ kind → offset ≡ key.offset → make_key objectid kind offset ≡ key
key_is key objectid kind offset o k f = λ i. record { objectid = o i; kind = sym k i; offset = f i }

-- ---- which part of all keys

module _ (sub : Subvolume) where
  past_refs : (key : Key) → Contains (ref_keys sub ++ (extref_keys sub ++ (entry_keys sub ++ (index_keys sub ++ all_own sub)))) key → Contains (keys_wanted sub) key
  past_refs key c =
      Contains-append_right (inode_keys sub) (dots_key ∷ (ref_keys sub ++ (extref_keys sub ++ (entry_keys sub ++ (index_keys sub ++ all_own sub))))) key
      (tail_in dots_key key (ref_keys sub ++ (extref_keys sub ++ (entry_keys sub ++ (index_keys sub ++ all_own sub)))) c)

  past_extrefs : (key : Key) → Contains (extref_keys sub ++ (entry_keys sub ++ (index_keys sub ++ all_own sub))) key → Contains (keys_wanted sub) key
  past_extrefs key c = past_refs key (Contains-append_right (ref_keys sub) (extref_keys sub ++ (entry_keys sub ++ (index_keys sub ++ all_own sub))) key c)

  past_entries : (key : Key) → Contains (entry_keys sub ++ (index_keys sub ++ all_own sub)) key → Contains (keys_wanted sub) key
  past_entries key c = past_extrefs key (Contains-append_right (extref_keys sub) (entry_keys sub ++ (index_keys sub ++ all_own sub)) key c)

  past_indexes : (key : Key) → Contains (index_keys sub ++ all_own sub) key → Contains (keys_wanted sub) key
  past_indexes key c = past_entries key (Contains-append_right (entry_keys sub) (index_keys sub ++ all_own sub) key c)

  in_inodes : (key : Key) → Contains (inode_keys sub) key → Contains (keys_wanted sub) key
  in_inodes key c = Contains-append_left (inode_keys sub) (dots_key ∷ (ref_keys sub ++ (extref_keys sub ++ (entry_keys sub ++ (index_keys sub ++ all_own sub))))) key c

  in_dots : Contains (keys_wanted sub) dots_key
  in_dots =
      Contains-append_right (inode_keys sub) (dots_key ∷ (ref_keys sub ++ (extref_keys sub ++ (entry_keys sub ++ (index_keys sub ++ all_own sub))))) dots_key
      (head_in dots_key (ref_keys sub ++ (extref_keys sub ++ (entry_keys sub ++ (index_keys sub ++ all_own sub)))))

  in_refs : (key : Key) → Contains (ref_keys sub) key → Contains (keys_wanted sub) key
  in_refs key c = past_refs key (Contains-append_left (ref_keys sub) (extref_keys sub ++ (entry_keys sub ++ (index_keys sub ++ all_own sub))) key c)

  in_extrefs : (key : Key) → Contains (extref_keys sub) key → Contains (keys_wanted sub) key
  in_extrefs key c = past_extrefs key (Contains-append_left (extref_keys sub) (entry_keys sub ++ (index_keys sub ++ all_own sub)) key c)

  in_entries : (key : Key) → Contains (entry_keys sub) key → Contains (keys_wanted sub) key
  in_entries key c = past_entries key (Contains-append_left (entry_keys sub) (index_keys sub ++ all_own sub) key c)

  in_indexes : (key : Key) → Contains (index_keys sub) key → Contains (keys_wanted sub) key
  in_indexes key c = past_indexes key (Contains-append_left (index_keys sub) (all_own sub) key c)

  in_own : (key : Key) (ino : ℕ) (inode : InodeRecord) → get sub.inodes ino ≡ Some inode → Contains (own_keys (ino, inode)) key → Contains (keys_wanted sub) key
  in_own key ino inode there c =
      past_indexes key (Contains-append_right (index_keys sub) (all_own sub) key
      (flat_map_in own_keys (entries sub.inodes) (ino, inode) key (get_in nat_cmp_total nat_cmp-IsAntisymmetric sub.inodes ino inode there) c))

  -- ---- each kind

  -- a pair of the list is counted under its key
  paired : (kind : ℕ) (pairs : List (ℕ × ℕ)) (pair : ℕ × ℕ) (key : Key) → Contains pairs pair → pair.0 ≡ key.objectid → key.kind ≡ kind → pair.1 ≡ key.offset → Contains (map (pair_key kind) (each_pair pairs)) key
  paired kind pairs pair key c o k f =
      subst (λ (x : Key). Contains (map (pair_key kind) (each_pair pairs)) x) (key_is key pair.0 kind pair.1 o k f)
      (map_in (pair_key kind) (each_pair pairs) pair (pair_in pairs pair c))

  inode_wanted : (key : Key) (inode : InodeRecord) → key.kind ≡ inode_item → key.offset ≡ 0 → get sub.inodes key.objectid ≡ Some inode → Contains (keys_wanted sub) key
  inode_wanted key inode kind zero there =
      in_inodes key (subst (λ (x : Key). Contains (inode_keys sub) x) (key_is key key.objectid inode_item 0 refl kind (sym zero))
      (map_in (λ (ino : ℕ). make_key ino inode_item 0) (keys sub.inodes) key.objectid
      (map_in (λ (e : ℕ × InodeRecord). e.0) (entries sub.inodes) (key.objectid, inode) (get_in nat_cmp_total nat_cmp-IsAntisymmetric sub.inodes key.objectid inode there))))

  near_wanted : (key : Key) → key.kind ≡ inode_ref → map ref_of (filter (λ name. name.near && (nat_eq name.ino key.objectid && nat_eq name.dir key.offset)) sub.names) ≢ [] → Contains (keys_wanted sub) key
  near_wanted key kind some =
      let name = from_kept ref_of (λ (name : FlatName). name.near && (nat_eq name.ino key.objectid && nat_eq name.dir key.offset)) sub.names some in
      let parts = and_parts _ _ name.3 in
      let both = and_parts _ _ parts.1 in
      in_refs key (paired inode_ref (ref_pairs sub.names) (name.0.ino, name.0.dir) key
      (map_in (λ (n : FlatName). (n.ino, n.dir)) (filter (λ (n : FlatName). n.near) sub.names) name.0 (filter_in (λ (n : FlatName). n.near) sub.names name.0 name.2 parts.0))
      (eqb-true name.0.ino key.objectid both.0) kind (eqb-true name.0.dir key.offset both.1))

  dots_wanted : (key : Key) → key.kind ≡ inode_ref → own_refs key.objectid key.offset ≢ [] → Contains (keys_wanted sub) key
  dots_wanted key kind some = go (nat_eq key.objectid 256 && nat_eq key.offset 256) refl
    where
      go : (b : Bool) → nat_eq key.objectid 256 && nat_eq key.offset 256 ≡ b → Contains (keys_wanted sub) key
      go true e =
          let both = and_parts _ _ e in
          subst (λ (x : Key). Contains (keys_wanted sub) x)
          (key_is key 256 inode_ref 256 (sym (eqb-true key.objectid 256 both.0)) kind (sym (eqb-true key.offset 256 both.1))) in_dots
      go false e = absurd (some (rw e refl))

  refs_wanted : (key : Key) → key.kind ≡ inode_ref → (ref : RefValue) → Contains (refs_asked sub key.objectid key.offset) ref → Contains (keys_wanted sub) key
  refs_wanted key kind ref c =
      elim (Contains-append_cases (own_refs key.objectid key.offset) (map ref_of (filter (λ name. name.near && (nat_eq name.ino key.objectid && nat_eq name.dir key.offset)) sub.names)) ref c) [
        | inl own ↦ dots_wanted key kind (not_empty ref (own_refs key.objectid key.offset) own)
        | inr near ↦ near_wanted key kind (not_empty ref _ near)
      ]

  far_wanted : (key : Key) → key.kind ≡ inode_extref → extrefs_asked sub key.objectid key.offset ≢ [] → Contains (keys_wanted sub) key
  far_wanted key kind some =
      let name = from_kept extref_of (λ (name : FlatName). not name.near && (nat_eq name.ino key.objectid && nat_eq (extref_hash_of name.dir name.bytes) key.offset)) sub.names some in
      let parts = and_parts _ _ name.3 in
      let both = and_parts _ _ parts.1 in
      in_extrefs key (paired inode_extref (extref_pairs sub.names) (name.0.ino, extref_hash_of name.0.dir name.0.bytes) key
      (map_in (λ (n : FlatName). (n.ino, extref_hash_of n.dir n.bytes)) (filter (λ (n : FlatName). not n.near) sub.names) name.0 (filter_in (λ (n : FlatName). not n.near) sub.names name.0 name.2 parts.0))
      (eqb-true name.0.ino key.objectid both.0) kind (eqb-true (extref_hash_of name.0.dir name.0.bytes) key.offset both.1))

  hashed_wanted : (key : Key) → key.kind ≡ dir_item → map (entry_of sub) (filter (λ name. nat_eq name.dir key.objectid && nat_eq (name_hash_of name.bytes) key.offset) sub.names) ≢ [] → Contains (keys_wanted sub) key
  hashed_wanted key kind some =
      let name = from_kept (entry_of sub) (λ (name : FlatName). nat_eq name.dir key.objectid && nat_eq (name_hash_of name.bytes) key.offset) sub.names some in
      let both = and_parts _ _ name.3 in
      in_entries key (paired dir_item (entry_pairs sub.names) (name.0.dir, name_hash_of name.0.bytes) key
      (map_in (λ (n : FlatName). (n.dir, name_hash_of n.bytes)) sub.names name.0 name.2)
      (eqb-true name.0.dir key.objectid both.0) kind (eqb-true (name_hash_of name.0.bytes) key.offset both.1))

  indexed_wanted : (key : Key) → key.kind ≡ dir_index → map (entry_of sub) (filter (λ name. nat_eq name.dir key.objectid && nat_eq name.index key.offset) sub.names) ≢ [] → Contains (keys_wanted sub) key
  indexed_wanted key kind some =
      let name = from_kept (entry_of sub) (λ (name : FlatName). nat_eq name.dir key.objectid && nat_eq name.index key.offset) sub.names some in
      let both = and_parts _ _ name.3 in
      in_indexes key (subst (λ (x : Key). Contains (index_keys sub) x)
      (key_is key name.0.dir dir_index name.0.index (eqb-true name.0.dir key.objectid both.0) kind (eqb-true name.0.index key.offset both.1))
      (map_in (λ (n : FlatName). make_key n.dir dir_index n.index) sub.names name.0 name.2))

  attribute_wanted : (key : Key) → key.kind ≡ xattr_item → attributes_asked sub key.objectid key.offset ≢ [] → Contains (keys_wanted sub) key
  attribute_wanted key kind some =
      let found = has_hash sub key.objectid key.offset some in
      let hashes = attribute_hashes (attributes_of found.inode) in
      let hash = map_in name_hash_of (keys (attributes_of found.inode)) found.attribute.0
      (map_in (λ (e : List ℕ × List ℕ). e.0) (entries (attributes_of found.inode)) found.attribute found.has) in
      let number = map_in (make_key key.objectid xattr_item) (each_number hashes) (name_hash_of found.attribute.0) (number_in hashes (name_hash_of found.attribute.0) hash) in
      let there = subst (λ (x : Key). Contains (attribute_keys key.objectid found.inode) x) (key_is key key.objectid xattr_item (name_hash_of found.attribute.0) refl kind found.hashed) number in
      in_own key key.objectid found.inode found.there (Contains-append_right (extent_keys key.objectid found.inode) (attribute_keys key.objectid found.inode) key there)

  extent_key_in : (blocks : Data) (key : Key) (bytes : List ℕ) (inode : InodeRecord) → key.kind ≡ extent_data → IsExtentOf blocks inode key bytes → Contains (extent_keys key.objectid inode) key
  extent_key_in blocks key bytes (FileInode file) kind says =
      let run = says.2.9 in
      let whole = says.2.10 in
      let some : 0 < says.1 / 4096 = omega (arith, run.0, run.1) in
      let block = says.3 0 some in
      let among = map_in (λ (e : ℕ × List ℕ). e.0) (entries file.blocks) (key.offset / 4096 + 0, block.0) (get_in nat_cmp_total nat_cmp-IsAntisymmetric file.blocks (key.offset / 4096 + 0) block.0 block.2) in
      let same : 4096 * (key.offset / 4096 + 0) ≡ key.offset = omega (arith, whole) in
      subst (λ (x : Key). Contains (extent_keys key.objectid (FileInode file)) x) (key_is key key.objectid extent_data (4096 * (key.offset / 4096 + 0)) refl kind same)
      (map_in (λ (number : ℕ). make_key key.objectid extent_data (4096 * number)) (keys file.blocks) (key.offset / 4096 + 0) among)
  extent_key_in blocks key bytes (DirInode dir) kind says = absurd says
  extent_key_in blocks key bytes (LinkInode link) kind says =
      subst (λ (x : Key). Contains (extent_keys key.objectid (LinkInode link)) x) (key_is key key.objectid extent_data 0 refl kind (sym says.5)) (head_in (make_key key.objectid extent_data 0) [])

  extent_wanted : (blocks : Data) (key : Key) (bytes : List ℕ) (inode : InodeRecord) → key.kind ≡ extent_data → get sub.inodes key.objectid ≡ Some inode → IsExtentOf blocks inode key bytes → Contains (keys_wanted sub) key
  extent_wanted blocks key bytes inode kind there says =
      in_own key key.objectid inode there (Contains-append_left (extent_keys key.objectid inode) (attribute_keys key.objectid inode) key (extent_key_in blocks key bytes inode kind says))

  key_wanted : (blocks : Data) (key : Key) (bytes : List ℕ) → IsAsked sub blocks key bytes → Contains (keys_wanted sub) key
  key_wanted blocks key bytes (InodeAsked inode kind zero there is) = inode_wanted key inode kind zero there
  key_wanted blocks key bytes (RefsAsked found kind spelled same) =
      let ref = has_some found spelled.some in
      refs_wanted key kind ref.0 (Contains-permutation found (refs_asked sub key.objectid key.offset) ref.0 same ref.1)
  key_wanted blocks key bytes (ExtRefsAsked found kind spelled same) =
      let ref = has_some found spelled.some in
      far_wanted key kind (not_empty ref.0 (extrefs_asked sub key.objectid key.offset) (Contains-permutation found (extrefs_asked sub key.objectid key.offset) ref.0 same ref.1))
  key_wanted blocks key bytes (AttributesAsked kind has) = attribute_wanted key kind (entries_some has.found _ has.spelled.some has.same)
  key_wanted blocks key bytes (HashedAsked kind has) = hashed_wanted key kind (entries_some has.found _ has.spelled.some has.same)
  key_wanted blocks key bytes (IndexedAsked kind has) = indexed_wanted key kind (entries_some has.found _ has.spelled.some has.same)
  key_wanted blocks key bytes (ExtentAsked inode kind there is) = extent_wanted blocks key bytes inode kind there is

-- ---- all items

pub few_items : (items : List Item) (blocks : Data) (sub : Subvolume) → ItemsRise items → AreItemsOf items blocks sub → length items ≤ items_of sub
few_items items blocks sub rise are =
    let long = length_map (λ (item : Item). item.0) items in
    let within = length_within (map (λ (item : Item). item.0) items) (keys_wanted sub) (keys_differ items rise)
    (λ key c.
    let item = in_map (λ (item : Item). item.0) items key c in
    subst (λ (x : Key). Contains (keys_wanted sub) x) item.2 (key_wanted sub blocks item.0.0 item.0.1 (are.only item.0.0 item.0.1 item.1))) in
    omega (arith, long, within, wanted_length sub)
