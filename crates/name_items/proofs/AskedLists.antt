-- What is asked for under the keys of a name, with the name and without it.
use Rattle.std.proofs.Common.{◌≡◌, ◌&&◌, Bool, true, false, not, List, ◌∷◌, ◌++◌, map, nat_eq, refl}
use Rattle.std.specs.Prelude.{Contains, filter}
use Rattle.std.specs.List.Sorted.{IsPermutation}
use Rattle.std.proofs.lemmas.Bool.{eq-eqb}
use Rattle.std.proofs.lemmas.List.Sorted.{IsPermutation-append_right, IsPermutation-map, IsPermutation-middle, IsPermutation-sym, IsPermutation-trans}
use Rattle.blk_base.specs.Crc.{extref_hash_of, name_hash_of}
use Rattle.flat_model.specs.Names.{FlatName, add_name, is_name_set, remove_name}
use Rattle.flat_model.specs.Volume.{Subvolume}
use Rattle.volume_image.specs.Subvolume.{entry_of, extref_of, extrefs_asked, hashed_asked, indexed_asked, own_refs, ref_of, refs_asked}
use Rattle.name_items.proofs.NameLists.{added_passing, removed_passing}

-- the subvolume with a name and without one
abbrev pub with_name : Subvolume → FlatName → Subvolume
with_name sub name = record sub { names = add_name name sub.names }

abbrev pub without_name : Subvolume → FlatName → Subvolume
without_name sub name = record sub { names = remove_name name sub.names }

-- ---- the tests that a name passes under its own keys

pub near_passes : (name : FlatName) → name.near ≡ true → (name.near && (nat_eq name.ino name.ino && nat_eq name.dir name.dir)) ≡ true
near_passes name near = rw (near, eq-eqb name.ino name.ino refl, eq-eqb name.dir name.dir refl) refl

pub far_passes : (name : FlatName) → name.near ≡ false → (not name.near && (nat_eq name.ino name.ino && nat_eq (extref_hash_of name.dir name.bytes) (extref_hash_of name.dir name.bytes))) ≡ true
far_passes name far =
    rw (far, eq-eqb name.ino name.ino refl, eq-eqb (extref_hash_of name.dir name.bytes) (extref_hash_of name.dir name.bytes) refl) refl

pub hashed_passes : (name : FlatName) → (nat_eq name.dir name.dir && nat_eq (name_hash_of name.bytes) (name_hash_of name.bytes)) ≡ true
hashed_passes name =
    rw (eq-eqb name.dir name.dir refl, eq-eqb (name_hash_of name.bytes) (name_hash_of name.bytes) refl) refl

pub indexed_passes : (name : FlatName) → (nat_eq name.dir name.dir && nat_eq name.index name.index) ≡ true
indexed_passes name = rw (eq-eqb name.dir name.dir refl, eq-eqb name.index name.index refl) refl

-- ---- a list behind another, with one element more

behind_more : {X : Type 0} (own : List X) (x : X) (xs ys : List X) → IsPermutation (x ∷ xs) ys → IsPermutation (x ∷ (own ++ xs)) (own ++ ys)
behind_more own x xs ys same =
    IsPermutation-trans (x ∷ (own ++ xs)) (own ++ (x ∷ xs)) (own ++ ys) (IsPermutation-sym (own ++ (x ∷ xs)) (x ∷ (own ++ xs)) (IsPermutation-middle own x xs)) (IsPermutation-append_right own (x ∷ xs) ys same)

behind_less : {X : Type 0} (own : List X) (x : X) (xs ys : List X) → IsPermutation xs (x ∷ ys) → IsPermutation (own ++ xs) (x ∷ (own ++ ys))
behind_less own x xs ys same =
    IsPermutation-trans (own ++ xs) (own ++ (x ∷ ys)) (x ∷ (own ++ ys)) (IsPermutation-append_right own xs (x ∷ ys) same) (IsPermutation-middle own x ys)

module _ (sub : Subvolume) (name : FlatName) (set : is_name_set sub.names ≡ true) where
  -- ---- with the name

  module _ (absent : Contains sub.names name → ⊥) where
    pub refs_more : name.near ≡ true → IsPermutation (ref_of name ∷ refs_asked sub name.ino name.dir) (refs_asked (with_name sub name) name.ino name.dir)
    refs_more near =
        let p : FlatName → Bool = λ n. n.near && (nat_eq n.ino name.ino && nat_eq n.dir name.dir) in
        behind_more (own_refs name.ino name.dir) (ref_of name) (map ref_of (filter p sub.names)) (map ref_of (filter p (add_name name sub.names)))
        (IsPermutation-map ref_of (name ∷ filter p sub.names) (filter p (add_name name sub.names)) (added_passing p name sub.names set (near_passes name near) absent))

    pub extrefs_more : name.near ≡ false → IsPermutation (extref_of name ∷ extrefs_asked sub name.ino (extref_hash_of name.dir name.bytes)) (extrefs_asked (with_name sub name) name.ino (extref_hash_of name.dir name.bytes))
    extrefs_more far =
        let p : FlatName → Bool = λ n. not n.near && (nat_eq n.ino name.ino && nat_eq (extref_hash_of n.dir n.bytes) (extref_hash_of name.dir name.bytes)) in
        IsPermutation-map extref_of (name ∷ filter p sub.names) (filter p (add_name name sub.names)) (added_passing p name sub.names set (far_passes name far) absent)

    pub hashed_more : IsPermutation (entry_of sub name ∷ hashed_asked sub name.dir (name_hash_of name.bytes)) (hashed_asked (with_name sub name) name.dir (name_hash_of name.bytes))
    hashed_more =
        let p : FlatName → Bool = λ n. nat_eq n.dir name.dir && nat_eq (name_hash_of n.bytes) (name_hash_of name.bytes) in
        IsPermutation-map (entry_of sub) (name ∷ filter p sub.names) (filter p (add_name name sub.names)) (added_passing p name sub.names set (hashed_passes name) absent)

    pub indexed_more : IsPermutation (entry_of sub name ∷ indexed_asked sub name.dir name.index) (indexed_asked (with_name sub name) name.dir name.index)
    indexed_more =
        let p : FlatName → Bool = λ n. nat_eq n.dir name.dir && nat_eq n.index name.index in
        IsPermutation-map (entry_of sub) (name ∷ filter p sub.names) (filter p (add_name name sub.names)) (added_passing p name sub.names set (indexed_passes name) absent)

  -- ---- without it

  module _ (there : Contains sub.names name) where
    pub refs_less : name.near ≡ true → IsPermutation (refs_asked sub name.ino name.dir) (ref_of name ∷ refs_asked (without_name sub name) name.ino name.dir)
    refs_less near =
        let p : FlatName → Bool = λ n. n.near && (nat_eq n.ino name.ino && nat_eq n.dir name.dir) in
        behind_less (own_refs name.ino name.dir) (ref_of name) (map ref_of (filter p sub.names)) (map ref_of (filter p (remove_name name sub.names)))
        (IsPermutation-map ref_of (filter p sub.names) (name ∷ filter p (remove_name name sub.names)) (removed_passing p name sub.names set (near_passes name near) there))

    pub extrefs_less : name.near ≡ false → IsPermutation (extrefs_asked sub name.ino (extref_hash_of name.dir name.bytes)) (extref_of name ∷ extrefs_asked (without_name sub name) name.ino (extref_hash_of name.dir name.bytes))
    extrefs_less far =
        let p : FlatName → Bool = λ n. not n.near && (nat_eq n.ino name.ino && nat_eq (extref_hash_of n.dir n.bytes) (extref_hash_of name.dir name.bytes)) in
        IsPermutation-map extref_of (filter p sub.names) (name ∷ filter p (remove_name name sub.names)) (removed_passing p name sub.names set (far_passes name far) there)

    pub hashed_less : IsPermutation (hashed_asked sub name.dir (name_hash_of name.bytes)) (entry_of sub name ∷ hashed_asked (without_name sub name) name.dir (name_hash_of name.bytes))
    hashed_less =
        let p : FlatName → Bool = λ n. nat_eq n.dir name.dir && nat_eq (name_hash_of n.bytes) (name_hash_of name.bytes) in
        IsPermutation-map (entry_of sub) (filter p sub.names) (name ∷ filter p (remove_name name sub.names)) (removed_passing p name sub.names set (hashed_passes name) there)

    pub indexed_less : IsPermutation (indexed_asked sub name.dir name.index) (entry_of sub name ∷ indexed_asked (without_name sub name) name.dir name.index)
    indexed_less =
        let p : FlatName → Bool = λ n. nat_eq n.dir name.dir && nat_eq n.index name.index in
        IsPermutation-map (entry_of sub) (filter p sub.names) (name ∷ filter p (remove_name name sub.names)) (removed_passing p name sub.names set (indexed_passes name) there)
