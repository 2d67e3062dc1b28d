-- Which names a subvolume asks for under a key, and the root directory's name for itself.
use Rattle.std.proofs.Common.{◌≡◌, ◌&&◌, ◌⊎◌, Bool, true, false, not, cond, ℕ, nat_eq, List, [], ◌∷◌, filter, map, Contains, refl, sym, inl, inr}
use Rattle.std.proofs.lemmas.List.Elements.{Contains-append_left, Contains-append_right, Contains-append_cases}
use Rattle.std.proofs.lemmas.Bool.{not-true, not_from_false, and_parts, and_from, eqb-true, eq-eqb}
use Rattle.std.specs.FinMap.{get}
use Rattle.blk_base.specs.Crc.{name_hash_of, extref_hash_of}
use Rattle.blk_base.specs.Keys.{inode_ref}
use Rattle.blk_base.specs.Entries.{RefValue, ExtRefValue, EntryValue, dots}
use Rattle.flat_model.specs.Names.{FlatName}
use Rattle.flat_model.specs.Volume.{Subvolume}
use Rattle.flat_model.proofs.Ways.{same_bytes_eq}
use Rattle.volume_image.specs.Subvolume.{make_key, own_refs, refs_asked, extrefs_asked, indexed_asked, hashed_asked, attributes_asked, attributes_there, attribute_entry, ref_of, extref_of, entry_of}
use Rattle.volume_image.proofs.Lists.{in_nothing, in_cons}
use Rattle.volume_image.proofs.Reaches.{head_in}
use Rattle.volume_image.proofs.Members.{in_filter, filter_in, in_map, map_in}
use Rattle.image_faults.specs.Said.{is_own_ref}

-- the tests by which names are asked for
abbrev pub is_near_at : ℕ → ℕ → FlatName → Bool
is_near_at ino parent name = name.near && (nat_eq name.ino ino && nat_eq name.dir parent)

abbrev pub is_far_at : ℕ → ℕ → FlatName → Bool
is_far_at ino hash name = not name.near && (nat_eq name.ino ino && nat_eq (extref_hash_of name.dir name.bytes) hash)

abbrev pub is_indexed_at : ℕ → ℕ → FlatName → Bool
is_indexed_at dir index name = nat_eq name.dir dir && nat_eq name.index index

abbrev pub is_hashed_at : ℕ → ℕ → FlatName → Bool
is_hashed_at dir hash name = nat_eq name.dir dir && nat_eq (name_hash_of name.bytes) hash

-- the root directory's one name for itself
abbrev pub own_ref : RefValue
own_ref = record { index = 0; name = dots }

pub own_ref_is : (ino dir : ℕ) (r : RefValue) → ino ≡ 256 → dir ≡ 256 → r ≡ own_ref → is_own_ref (make_key ino inode_ref dir) r ≡ true
own_ref_is ino dir r i d e = rw (i, d, e) refl

pub own_ref_parts : (ino dir : ℕ) (r : RefValue) → is_own_ref (make_key ino inode_ref dir) r ≡ true → (ino ≡ 256) × (dir ≡ 256) × (r ≡ own_ref)
own_ref_parts ino dir r e =
    let parts = and_parts _ _ e in
    let place = and_parts _ _ parts.0 in
    let inner = and_parts _ _ place.0 in
    let said = and_parts _ _ parts.1 in
    let index : r.index ≡ 0 = eqb-true r.index 0 said.0 in
    let name : r.name ≡ dots = same_bytes_eq r.name dots said.1 in
    (eqb-true ino 256 inner.0, eqb-true dir 256 place.1, λ i. record { index = index i; name = name i })

-- what the root directory's own name is asked for with
pub in_own : (b : Bool) (r : RefValue) → Contains (cond b (own_ref ∷ []) []) r → (b ≡ true) × (r ≡ own_ref)
in_own true r c = elim (in_cons own_ref r [] c) [ inl same ↦ (refl, sym same) | inr none ↦ absurd (in_nothing r none) ]
in_own false r c = absurd (in_nothing r c)

pub own_asked : (sub : Subvolume) → Contains (refs_asked sub 256 256) own_ref
own_asked sub = Contains-append_left (own_ref ∷ []) (map ref_of (filter (is_near_at 256 256) sub.names)) own_ref (head_in own_ref [])

-- ---- which names are asked for

module _ (sub : Subvolume) where
  -- a ref that is asked for is the root directory's own, or a near name
  pub ref_asked : (ino dir : ℕ) (r : RefValue) → Contains (refs_asked sub ino dir) r
      → (is_own_ref (make_key ino inode_ref dir) r ≡ true) ⊎ ((name : FlatName) × Contains sub.names name × (name.near ≡ true) × (name.ino ≡ ino) × (name.dir ≡ dir) × (ref_of name ≡ r))
  ref_asked ino dir r c = elim (Contains-append_cases (own_refs ino dir) (map ref_of (filter (is_near_at ino dir) sub.names)) r c) [
    | inl own ↦
        let is = in_own (nat_eq ino 256 && nat_eq dir 256) r own in
        let parts = and_parts _ _ is.0 in
        inl (own_ref_is ino dir r (eqb-true ino 256 parts.0) (eqb-true dir 256 parts.1) is.1)
    | inr named ↦
        let found = in_map ref_of (filter (is_near_at ino dir) sub.names) r named in
        let kept = in_filter (is_near_at ino dir) sub.names found.0 found.1 in
        let parts = and_parts found.0.near _ kept.1 in
        let places = and_parts (nat_eq found.0.ino ino) _ parts.1 in
        inr (found.0, kept.0, parts.0, eqb-true found.0.ino ino places.0, eqb-true found.0.dir dir places.1, found.2)
  ]

  pub asked_near : (name : FlatName) → Contains sub.names name → name.near ≡ true → Contains (refs_asked sub name.ino name.dir) (ref_of name)
  asked_near name has near = Contains-append_right (own_refs name.ino name.dir) _ (ref_of name)
      (map_in ref_of _ name (filter_in (is_near_at name.ino name.dir) sub.names name has (and_from _ _ near (and_from _ _ (eq-eqb name.ino name.ino refl) (eq-eqb name.dir name.dir refl)))))

  pub far_asked : (ino hash : ℕ) (r : ExtRefValue) → Contains (extrefs_asked sub ino hash) r
      → (name : FlatName) × Contains sub.names name × (name.near ≡ false) × (name.ino ≡ ino) × (extref_hash_of name.dir name.bytes ≡ hash) × (extref_of name ≡ r)
  far_asked ino hash r c =
      let found = in_map extref_of (filter (is_far_at ino hash) sub.names) r c in
      let kept = in_filter (is_far_at ino hash) sub.names found.0 found.1 in
      let parts = and_parts (not found.0.near) _ kept.1 in
      let places = and_parts (nat_eq found.0.ino ino) _ parts.1 in
      (found.0, kept.0, not-true _ parts.0, eqb-true found.0.ino ino places.0, eqb-true _ hash places.1, found.2)

  pub asked_far : (name : FlatName) → Contains sub.names name → name.near ≡ false → Contains (extrefs_asked sub name.ino (extref_hash_of name.dir name.bytes)) (extref_of name)
  asked_far name has far =
      let hash = extref_hash_of name.dir name.bytes in
      map_in extref_of _ name (filter_in (is_far_at name.ino hash) sub.names name has
      (and_from _ _ (not_from_false name.near far) (and_from _ _ (eq-eqb name.ino name.ino refl) (eq-eqb hash hash refl))))

  pub at_index : (dir index : ℕ) (e : EntryValue) → Contains (indexed_asked sub dir index) e → (name : FlatName) × Contains sub.names name × (name.dir ≡ dir) × (name.index ≡ index) × (entry_of sub name ≡ e)
  at_index dir index e c =
      let found = in_map (entry_of sub) (filter (is_indexed_at dir index) sub.names) e c in
      let kept = in_filter (is_indexed_at dir index) sub.names found.0 found.1 in
      let places = and_parts (nat_eq found.0.dir dir) _ kept.1 in
      (found.0, kept.0, eqb-true found.0.dir dir places.0, eqb-true found.0.index index places.1, found.2)

  pub asked_index : (name : FlatName) → Contains sub.names name → Contains (indexed_asked sub name.dir name.index) (entry_of sub name)
  asked_index name has = map_in (entry_of sub) _ name (filter_in (is_indexed_at name.dir name.index) sub.names name has (and_from _ _ (eq-eqb name.dir name.dir refl) (eq-eqb name.index name.index refl)))

  pub with_hash : (dir hash : ℕ) (e : EntryValue) → Contains (hashed_asked sub dir hash) e → (name : FlatName) × Contains sub.names name × (name.dir ≡ dir) × (name_hash_of name.bytes ≡ hash) × (entry_of sub name ≡ e)
  with_hash dir hash e c =
      let found = in_map (entry_of sub) (filter (is_hashed_at dir hash) sub.names) e c in
      let kept = in_filter (is_hashed_at dir hash) sub.names found.0 found.1 in
      let places = and_parts (nat_eq found.0.dir dir) _ kept.1 in
      (found.0, kept.0, eqb-true found.0.dir dir places.0, eqb-true _ hash places.1, found.2)

  pub asked_hash : (name : FlatName) → Contains sub.names name → Contains (hashed_asked sub name.dir (name_hash_of name.bytes)) (entry_of sub name)
  asked_hash name has =
      let hash = name_hash_of name.bytes in
      map_in (entry_of sub) _ name (filter_in (is_hashed_at name.dir hash) sub.names name has (and_from _ _ (eq-eqb name.dir name.dir refl) (eq-eqb hash hash refl)))

  pub with_attribute : (ino hash : ℕ) (e : EntryValue) → Contains (attributes_asked sub ino hash) e
      → (pair : List ℕ × List ℕ) × Contains (attributes_there (get sub.inodes ino)) pair × (name_hash_of pair.0 ≡ hash) × (attribute_entry pair ≡ e)
  with_attribute ino hash e c =
      let found = in_map attribute_entry (filter (λ attribute. nat_eq (name_hash_of attribute.0) hash) (attributes_there (get sub.inodes ino))) e c in
      let kept = in_filter (λ attribute. nat_eq (name_hash_of attribute.0) hash) (attributes_there (get sub.inodes ino)) found.0 found.1 in
      (found.0, kept.0, eqb-true _ hash kept.1, found.2)

  pub asked_attribute : (ino : ℕ) (pair : List ℕ × List ℕ) → Contains (attributes_there (get sub.inodes ino)) pair → Contains (attributes_asked sub ino (name_hash_of pair.0)) (attribute_entry pair)
  asked_attribute ino pair c =
      map_in attribute_entry (filter (λ attribute. nat_eq (name_hash_of attribute.0) (name_hash_of pair.0)) (attributes_there (get sub.inodes ino))) pair
      (filter_in (λ attribute. nat_eq (name_hash_of attribute.0) (name_hash_of pair.0)) (attributes_there (get sub.inodes ino)) pair c (eq-eqb (name_hash_of pair.0) (name_hash_of pair.0) refl))
