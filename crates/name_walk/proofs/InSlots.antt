-- The name in a slot, by the items that tell of it.
use Rattle.std.proofs.Common.{◌≡◌, ◌≢◌, ℕ, Bool, true, false, not, ◌&&◌, List, [], ◌++◌, Contains, Option, Some, None, filter, map, IsPermutation, bytes_eq, nat_eq, refl, sym, ap, subst, ◌∙◌}
use Rattle.std.specs.Prelude.{MatchOption}
use Rattle.std.specs.List.{find}
use Rattle.std.specs.Option.{option_map}
use Rattle.std.specs.FinMap.{get}
use Rattle.std.proofs.lemmas.Bool.{true≢false, and_parts, and_from, eqb-true, eq-eqb, ne_eqb, not_from_false}
use Rattle.std.proofs.lemmas.List.Elements.{Contains-append_right}
use Rattle.std.proofs.lemmas.List.Sorted.{IsPermutation-sym, Contains-permutation}
use Rattle.std.proofs.lemmas.Slice.Eq.{bytes_eq-Decides}
use Rattle.blk_base.specs.Crc.{name_hash_of, extref_hash_of}
use Rattle.blk_base.specs.Entries.{EntryValue, ExtRefValue, RefValue, dir_entry}
use Rattle.flat_model.specs.Coherent.{IsCoherent}
use Rattle.flat_model.specs.Names.{FlatName, is_in_slot, name_in_slot}
use Rattle.flat_model.specs.Records.{InodeRecord, FileInode, DirInode, LinkInode}
use Rattle.flat_model.specs.Volume.{Subvolume, is_dir_at, is_dir_there}
use Rattle.volume_image.specs.Subvolume.{entry_kind_of, entry_of, extref_of, extrefs_asked, hashed_asked, own_refs, ref_of, refs_asked, without_transid}
use Rattle.volume_image.proofs.Members.{filter_in, in_filter, in_map, map_in}
use Rattle.name_walk.specs.Leads.{IsLead, LeadsTo, is_far_of}
use Rattle.flat_model.proofs.Ways.{find_some, find_none}
use Rattle.name_walk.proofs.Finding.{find_one, find_nothing}

-- bytes that are the same
pub same_bytes : (a b : List ℕ) → bytes_eq a b ≡ true → a ≡ b
same_bytes a b is = (bytes_eq-Decides a b).0 is

pub bytes_same : (a b : List ℕ) → a ≡ b → bytes_eq a b ≡ true
bytes_same a b is = (bytes_eq-Decides a b).1 is

-- ---- slots

pub in_slot : (dir : ℕ) (bytes : List ℕ) (n : FlatName) → n.dir ≡ dir → n.bytes ≡ bytes → is_in_slot dir bytes n ≡ true
in_slot dir bytes n d b = and_from _ _ (eq-eqb n.dir dir d) (bytes_same n.bytes bytes b)

pub slot_parts : (dir : ℕ) (bytes : List ℕ) (n : FlatName) → is_in_slot dir bytes n ≡ true → (n.dir ≡ dir) × (n.bytes ≡ bytes)
slot_parts dir bytes n is = let parts = and_parts _ _ is in (eqb-true n.dir dir parts.0, same_bytes n.bytes bytes parts.1)

pub name_is_in_slot : (sub : Subvolume) → IsCoherent sub → (dir : ℕ) (bytes : List ℕ) (n : FlatName) → Contains sub.names n → n.dir ≡ dir → n.bytes ≡ bytes → name_in_slot sub.names dir bytes ≡ Some n
name_is_in_slot sub coherent dir bytes n has d b =
    find_one (is_in_slot dir bytes) sub.names n has (in_slot dir bytes n d b)
    (λ m other is. let parts = slot_parts dir bytes m is in coherent.no_name_twice m n other has (parts.0 ∙ sym d) (parts.1 ∙ sym b))

pub slot_has : (sub : Subvolume) (dir : ℕ) (bytes : List ℕ) (n : FlatName) → name_in_slot sub.names dir bytes ≡ Some n → Contains sub.names n × (n.dir ≡ dir) × (n.bytes ≡ bytes)
slot_has sub dir bytes n is =
    let found = find_some (is_in_slot dir bytes) sub.names n is in
    let parts = slot_parts dir bytes n found.1 in
    (found.0, parts.0, parts.1)

-- ---- entries

-- an entry that is asked for is a name's
pub entry_asked : (sub : Subvolume) (dir hash : ℕ) (e : EntryValue) → Contains (hashed_asked sub dir hash) e → (n : FlatName) × Contains sub.names n × (n.dir ≡ dir) × (entry_of sub n ≡ e)
entry_asked sub dir hash e c =
    let from = in_map (entry_of sub) (filter (λ name. nat_eq name.dir dir && nat_eq (name_hash_of name.bytes) hash) sub.names) e c in
    let kept = in_filter (λ name. nat_eq name.dir dir && nat_eq (name_hash_of name.bytes) hash) sub.names from.0 from.1 in
    (from.0, kept.0, eqb-true from.0.dir dir (and_parts _ _ kept.1).0, from.2)

pub asked_entry : (sub : Subvolume) (n : FlatName) → Contains sub.names n → Contains (hashed_asked sub n.dir (name_hash_of n.bytes)) (entry_of sub n)
asked_entry sub n has =
    map_in (entry_of sub) (filter (λ name. nat_eq name.dir n.dir && nat_eq (name_hash_of name.bytes) (name_hash_of n.bytes)) sub.names) n
    (filter_in (λ name. nat_eq name.dir n.dir && nat_eq (name_hash_of name.bytes) (name_hash_of n.bytes)) sub.names n has
    (and_from _ _ (eq-eqb n.dir n.dir refl) (eq-eqb (name_hash_of n.bytes) (name_hash_of n.bytes) refl)))

-- an entry's name stands in the slot
pub entry_found : (sub : Subvolume) → IsCoherent sub → (dir hash : ℕ) (found : List EntryValue) → IsPermutation (map without_transid found) (hashed_asked sub dir hash) → (e : EntryValue) → Contains found e
    → (n : FlatName) × (name_in_slot sub.names dir e.name ≡ Some n) × (entry_of sub n ≡ without_transid e)
entry_found sub coherent dir hash found same e has =
    let asked = Contains-permutation (map without_transid found) (hashed_asked sub dir hash) (without_transid e) same (map_in without_transid found e has) in
    let name = entry_asked sub dir hash (without_transid e) asked in
    (name.0, name_is_in_slot sub coherent dir e.name name.0 name.1 name.2 (ap (λ (x : EntryValue). x.name) name.3), name.3)

-- where no entry has these bytes, the slot is free
pub entry_missed : (sub : Subvolume) (dir : ℕ) (bytes : List ℕ) (found : List EntryValue) → IsPermutation (map without_transid found) (hashed_asked sub dir (name_hash_of bytes))
    → find (λ e. bytes_eq e.name bytes) found ≡ None → name_in_slot sub.names dir bytes ≡ None
entry_missed sub dir bytes found same none = find_nothing (is_in_slot dir bytes) sub.names (λ n has is.
    let parts = slot_parts dir bytes n is in
    let asked : Contains (hashed_asked sub dir (name_hash_of bytes)) (entry_of sub n) =
    subst (λ (d : ℕ). Contains (hashed_asked sub d (name_hash_of bytes)) (entry_of sub n)) parts.0
    (subst (λ (b : List ℕ). Contains (hashed_asked sub n.dir (name_hash_of b)) (entry_of sub n)) parts.1 (asked_entry sub n has)) in
    let back = Contains-permutation (hashed_asked sub dir (name_hash_of bytes)) (map without_transid found) (entry_of sub n) (IsPermutation-sym _ _ same) asked in
    let from = in_map without_transid found (entry_of sub n) back in
    let named : from.0.name ≡ bytes = ap (λ (x : EntryValue). x.name) from.2 ∙ parts.1 in
    true≢false (sym (bytes_same from.0.name bytes named) ∙ find_none (λ (e : EntryValue). bytes_eq e.name bytes) found none from.0 from.1))

-- the kind of an entry tells whether its inode is a directory
pub entry_is_dir : (o : Option InodeRecord) → nat_eq (entry_kind_of o) dir_entry ≡ is_dir_there o
entry_is_dir None = refl
entry_is_dir (Some (FileInode file)) = refl
entry_is_dir (Some (DirInode dir)) = refl
entry_is_dir (Some (LinkInode link)) = refl

-- ---- near names

no_own : (ino dir : ℕ) → ino ≢ 256 → own_refs ino dir ≡ []
no_own ino dir other = rw (ne_eqb ino 256 other) refl

module _ (sub : Subvolume) (coherent : IsCoherent sub) (dir : ℕ) (bytes : List ℕ) (ino : ℕ) (n : FlatName) (leads : LeadsTo sub dir bytes ino n) where
  here : Contains sub.names n × (n.dir ≡ dir) × (n.bytes ≡ bytes)
  here = slot_has sub dir bytes n leads.there

  not_root : ino ≢ 256
  not_root e = coherent.root_has_no_name n here.0 (leads.leads ∙ e)

  -- a name of the directory with these bytes is this one
  this_one : (m : FlatName) → Contains sub.names m → m.dir ≡ dir → m.bytes ≡ bytes → m ≡ n
  this_one m has d b = coherent.no_name_twice m n has here.0 (d ∙ sym here.1) (b ∙ sym here.2)

  near_test : FlatName → Bool
  near_test name = name.near && (nat_eq name.ino ino && nat_eq name.dir dir)

  pub near_found : (found : List RefValue) → IsPermutation found (refs_asked sub ino dir) → (r : RefValue) → find (λ (r : RefValue). bytes_eq r.name bytes) found ≡ Some r → (n.near ≡ true) × (n.index ≡ r.index)
  unfolding near_test
  near_found found same r is =
      let has = find_some (λ (r : RefValue). bytes_eq r.name bytes) found r is in
      let asked = Contains-permutation found (refs_asked sub ino dir) r same has.0 in
      let alone : Contains (map ref_of (filter near_test sub.names)) r = subst (λ (own : List RefValue). Contains (own ++ map ref_of (filter near_test sub.names)) r) (no_own ino dir not_root) asked in
      let from = in_map ref_of (filter near_test sub.names) r alone in
      let kept = in_filter near_test sub.names from.0 from.1 in
      let parts = and_parts _ _ kept.1 in
      let one = this_one from.0 kept.0 (eqb-true _ _ (and_parts _ _ parts.1).1) (ap (λ (x : RefValue). x.name) from.2 ∙ same_bytes r.name bytes has.1) in
      (ap (λ (x : FlatName). x.near) (sym one) ∙ parts.0, ap (λ (x : FlatName). x.index) (sym one) ∙ ap (λ (x : RefValue). x.index) from.2)

  pub near_missed : (found : List RefValue) → IsPermutation found (refs_asked sub ino dir) → find (λ (r : RefValue). bytes_eq r.name bytes) found ≡ None → n.near ≡ false
  unfolding near_test
  near_missed found same none = go n.near refl
    where
      go : (b : Bool) → n.near ≡ b → n.near ≡ false
      go false is = is
      go true is =
          let asked : Contains (refs_asked sub ino dir) (ref_of n) =
          Contains-append_right (own_refs ino dir) (map ref_of (filter near_test sub.names)) (ref_of n)
          (map_in ref_of (filter near_test sub.names) n (filter_in near_test sub.names n here.0 (and_from _ _ is (and_from _ _ (eq-eqb n.ino ino leads.leads) (eq-eqb n.dir dir here.1))))) in
          let back = Contains-permutation (refs_asked sub ino dir) found (ref_of n) (IsPermutation-sym _ _ same) asked in
          absurd (true≢false (sym (bytes_same n.bytes bytes here.2) ∙ find_none (λ (r : RefValue). bytes_eq r.name bytes) found none (ref_of n) back))

  -- ---- far names

  far_test : FlatName → Bool
  far_test name = not name.near && (nat_eq name.ino ino && nat_eq (extref_hash_of name.dir name.bytes) (extref_hash_of dir bytes))

  far_asked : n.near ≡ false → Contains (extrefs_asked sub ino (extref_hash_of dir bytes)) (extref_of n)
  unfolding far_test
  far_asked far =
      map_in extref_of (filter far_test sub.names) n
      (filter_in far_test sub.names n here.0 (and_from _ _ (not_from_false n.near far) (and_from _ _ (eq-eqb n.ino ino leads.leads)
      (eq-eqb _ _ (ap (λ (d : ℕ). extref_hash_of d n.bytes) here.1 ∙ ap (extref_hash_of dir) here.2)))))

  pub far_found : n.near ≡ false → (found : List ExtRefValue) → IsPermutation found (extrefs_asked sub ino (extref_hash_of dir bytes)) → option_map (λ (r : ExtRefValue). r.index) (find (is_far_of dir bytes) found) ≡ Some n.index
  unfolding far_test
  far_found far found same =
      ap (option_map (λ (r : ExtRefValue). r.index))
      (find_one (is_far_of dir bytes) found (extref_of n)
      (Contains-permutation (extrefs_asked sub ino (extref_hash_of dir bytes)) found (extref_of n) (IsPermutation-sym _ _ same) (far_asked far))
      (and_from _ _ (eq-eqb n.dir dir here.1) (bytes_same n.bytes bytes here.2))
      (λ r has is.
      let asked = Contains-permutation found (extrefs_asked sub ino (extref_hash_of dir bytes)) r same has in
      let from = in_map extref_of (filter far_test sub.names) r asked in
      let kept = in_filter far_test sub.names from.0 from.1 in
      let parts = and_parts _ _ is in
      let one = this_one from.0 kept.0 (ap (λ (x : ExtRefValue). x.parent) from.2 ∙ eqb-true _ _ parts.0) (ap (λ (x : ExtRefValue). x.name) from.2 ∙ same_bytes r.name bytes parts.1) in
      sym from.2 ∙ ap extref_of one))

-- ---- what is found in a slot

module _ (sub : Subvolume) (dir hash : ℕ) (bytes : List ℕ) (is_hash : hash ≡ name_hash_of bytes) (found : List EntryValue) (same : IsPermutation (map without_transid found) (hashed_asked sub dir hash)) where
  pub lead_missed : find (λ (e : EntryValue). bytes_eq e.name bytes) found ≡ None → name_in_slot sub.names dir bytes ≡ None
  lead_missed none = entry_missed sub dir bytes found (subst (λ (h : ℕ). IsPermutation (map without_transid found) (hashed_asked sub dir h)) is_hash same) none

  pub lead_found : IsCoherent sub → (e : EntryValue) → find (λ (e : EntryValue). bytes_eq e.name bytes) found ≡ Some e → IsLead sub dir bytes (record { ino = e.target.objectid; is_dir = nat_eq e.kind dir_entry })
  lead_found coherent e is =
      let has = find_some (λ (e : EntryValue). bytes_eq e.name bytes) found e is in
      let name = entry_found sub coherent dir hash found same e has.0 in
      let ino = ap (λ (x : EntryValue). x.target.objectid) name.2 in
      let kind = ap (λ (x : EntryValue). x.kind) name.2 in
      record {
        name = name.0;
        is = record { there = subst (λ (b : List ℕ). name_in_slot sub.names dir b ≡ Some name.0) (same_bytes e.name bytes has.1) name.1; leads = ino };
        is_dir = ap (λ (k : ℕ). nat_eq k dir_entry) (sym kind) ∙ entry_is_dir (get sub.inodes name.0.ino) ∙ ap (λ (i : ℕ). is_dir_at sub i) ino;
      }

-- ---- what its ref says

-- what the ref of a name says of it, where near refs have it or don't
pub near_read : (sub : Subvolume) → IsCoherent sub → (dir : ℕ) (bytes : List ℕ) (ino : ℕ) (n : FlatName) → LeadsTo sub dir bytes ino n → (found : List RefValue) → IsPermutation found (refs_asked sub ino dir)
    → (read : Option ℕ) → read ≡ option_map (λ (r : RefValue). r.index) (find (λ (r : RefValue). bytes_eq r.name bytes) found) → MatchOption read (n.near ≡ false) (λ index. (n.near ≡ true) × (n.index ≡ index))
near_read sub coherent dir bytes ino n leads found same read is = go (find (λ (r : RefValue). bytes_eq r.name bytes) found) refl
  where
    go : (o : Option RefValue) → find (λ (r : RefValue). bytes_eq r.name bytes) found ≡ o → MatchOption read (n.near ≡ false) (λ index. (n.near ≡ true) × (n.index ≡ index))
    go None e = rw (is ∙ ap (option_map (λ (r : RefValue). r.index)) e) (near_missed sub coherent dir bytes ino n leads found same e)
    go (Some r) e = rw (is ∙ ap (option_map (λ (r : RefValue). r.index)) e) (near_found sub coherent dir bytes ino n leads found same r e)
