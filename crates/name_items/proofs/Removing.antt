-- What stands under the keys of a name, with it, and once it is gone.
use Rattle.std.proofs.Common.{◌≡◌, ◌∙◌, ◌<◌, ◌^◌, ◌&&◌, ℕ, Bool, true, false, not, List, [], ◌∷◌, ◌++◌, map, take, drop, nat_eq, Option, None, IsSome, refl, sym, ap, subst, arith}
use Rattle.std.specs.Prelude.{All, Contains, filter}
use Rattle.std.specs.List.Sorted.{IsPermutation}
use Rattle.std.specs.Option.{unwrap_or}
use Rattle.std.proofs.lemmas.Bool.{and_parts, eqb-true, false_from_ne_true, ne_eqb}
use Rattle.std.proofs.lemmas.List.{map-append}
use Rattle.std.proofs.lemmas.List.Elements.{All-contains_itself, All-weaker, Contains-append_right}
use Rattle.std.proofs.lemmas.List.Sorted.{Contains-permutation, IsPermutation-middle, IsPermutation-refl, IsPermutation-sym, IsPermutation-trans}
use Rattle.blk_base.specs.declared.key.Key.{Key}
use Rattle.blk_base.specs.Crc.{extref_hash_of, name_hash_of}
use Rattle.blk_base.specs.Entries.{EntryValue, ExtRefValue, IsEntries, IsExtRefs, IsRefName, IsRefs, RefValue, entry_bytes, extref_bytes, ref_bytes}
use Rattle.blk_base.specs.Keys.{dir_index, dir_item, inode_extref, inode_ref}
use Rattle.blk_base.specs.Name.{IsName}
use Rattle.item_laws.specs.Apart.{NamesDiffer}
use Rattle.item_laws.specs.Spelling.{all_weaker}
use Rattle.tree_range.proofs.Under.{filter_none}
use Rattle.flat_model.specs.Names.{FlatName, remove_name}
use Rattle.flat_model.specs.Volume.{Subvolume}
use Rattle.flat_model.proofs.Maps.{some_none}
use Rattle.flat_model.proofs.NameSets.{remove_name_gives}
use Rattle.volume_image.specs.Subvolume.{Data, entry_of, extref_of, extrefs_asked, hashed_asked, indexed_asked, make_key, own_refs, ref_of, refs_asked, without_transid}
use Rattle.volume_image.proofs.Members.{filter_in, in_filter, in_map, map_in, not_empty}
use Rattle.volume_image.proofs.Reaches.{head_in}
use Rattle.table_volume.specs.Keyed.{AsksIndexed, HoldsKey}
use Rattle.item_edit.specs.ItemEdit.{item_bytes}
use Rattle.name_items.specs.Names.{MayRemoveName}
use Rattle.name_items.specs.Places.{HasPlace, IsEntryNamed, IsFarNamed, IsPlaced, IsRefNamed}
use Rattle.name_items.proofs.AskedLists.{extrefs_less, far_passes, hashed_less, hashed_passes, indexed_passes, near_passes, refs_less, without_name}
use Rattle.name_items.proofs.Held.{IsHeld, held_less}
use Rattle.name_items.proofs.Perms.{CanTell, cancelled, tell_entry, tell_extref, tell_ref}
use Rattle.name_items.proofs.UnderKeys.{Before, EntriesBefore, GoodEntry, GoodExtRef, GoodRef, differ_less, extrefs_after, extrefs_before, hashed_after, hashed_before, indexed_after, is_entries, refs_after, refs_before}

-- what is left around an element, where what is asked for has that element more
less_behind : {E : Type 0} (tell : CanTell E) (found asked next lefts rights : List E) (one other : E) → found ≡ lefts ++ (one ∷ rights) → IsPermutation found asked → IsPermutation asked (other ∷ next) → one ≡ other → IsPermutation (lefts ++ rights) next
less_behind tell found asked next lefts rights one other parts same less is =
    let whole : IsPermutation (one ∷ (lefts ++ rights)) found = subst (IsPermutation (one ∷ (lefts ++ rights))) (sym parts) (IsPermutation-sym (lefts ++ (one ∷ rights)) (one ∷ (lefts ++ rights)) (IsPermutation-middle lefts one rights)) in
    let behind : IsPermutation (one ∷ (lefts ++ rights)) (other ∷ next) = IsPermutation-trans (one ∷ (lefts ++ rights)) asked (other ∷ next) (IsPermutation-trans (one ∷ (lefts ++ rights)) found asked whole same) less in
    cancelled tell one (lefts ++ rights) next (subst (λ x. IsPermutation (one ∷ (lefts ++ rights)) (x ∷ next)) (sym is) behind)

-- what lies at a place is there
placed_there : {E : Type 0} (spell : E → List ℕ) (found : List E) (entry : E) (from to : ℕ) → IsPlaced spell found entry from to → Contains found entry
placed_there spell found entry from to at =
    subst (λ l. Contains l entry) (sym at.parts) (Contains-append_right at.lefts (entry ∷ at.rights) entry (head_in entry at.rights))

module _ (sub : Subvolume) (blocks : Data) (name : FlatName) (may : MayRemoveName sub name) where
  -- ---- near, with its inode

  module _ (near : name.near ≡ true) (there : Option (List ℕ)) (holds : HoldsKey sub blocks (make_key name.ino inode_ref name.dir) there) where
    abbrev near_key : Key
    near_key = make_key name.ino inode_ref name.dir

    abbrev pub near_was : Before ref_bytes (GoodRef (make_key name.ino inode_ref name.dir)) there (refs_asked sub name.ino name.dir)
    near_was = refs_before sub blocks (make_key name.ino inode_ref name.dir) there holds refl

    near_test : FlatName → Bool
    near_test n = n.near && (nat_eq n.ino name.ino && nat_eq n.dir name.dir)

    near_among : Contains near_was.found (ref_of name)
    unfolding near_test
    near_among =
        let asked : Contains (refs_asked sub name.ino name.dir) (ref_of name) = Contains-append_right (own_refs name.ino name.dir) (map ref_of (filter near_test sub.names)) (ref_of name) (map_in ref_of (filter near_test sub.names) name (filter_in near_test sub.names name may.there (near_passes name near))) in
        Contains-permutation (refs_asked sub name.ino name.dir) near_was.found (ref_of name) (IsPermutation-sym near_was.found (refs_asked sub name.ino name.dir) near_was.same) asked

    pub near_refs : IsRefs (make_key name.ino inode_ref name.dir) (unwrap_or there []) near_was.found
    near_refs = record {
      some = not_empty (ref_of name) near_was.found near_among;
      spelled = near_was.held.spelled;
      indexes = all_weaker (GoodRef near_key) (λ (r : RefValue). r.index < 2 ^ 64) (λ r g. g.0) near_was.found near_was.held.good;
      names = all_weaker (GoodRef near_key) (λ (r : RefValue). IsRefName near_key r.name) (λ r g. g.1) near_was.found near_was.held.good;
    }

    pub near_found : (found : List RefValue) × IsRefs (make_key name.ino inode_ref name.dir) (unwrap_or there []) found × (entry : RefValue) × Contains found entry × IsRefNamed name.bytes entry
    near_found = (near_was.found, near_refs, ref_of name, near_among, refl)

    -- no other entry there has the name
    near_alone : (entry : RefValue) → Contains near_was.found entry → entry.name ≡ name.bytes → entry ≡ ref_of name
    unfolding near_test
    near_alone entry c is =
        let none : own_refs name.ino name.dir ≡ [] = rw (ne_eqb name.ino 256 may.not_root) refl in
        let asked : Contains (own_refs name.ino name.dir ++ map ref_of (filter near_test sub.names)) entry = Contains-permutation near_was.found (refs_asked sub name.ino name.dir) entry near_was.same c in
        let mapped : Contains (map ref_of (filter near_test sub.names)) entry = subst (λ (l : List RefValue). Contains (l ++ map ref_of (filter near_test sub.names)) entry) none asked in
        let from = in_map ref_of (filter near_test sub.names) entry mapped in
        let has = in_filter near_test sub.names from.0 from.1 in
        let parts = and_parts (nat_eq from.0.ino name.ino) (nat_eq from.0.dir name.dir) (and_parts from.0.near (nat_eq from.0.ino name.ino && nat_eq from.0.dir name.dir) has.1).1 in
        sym from.2 ∙ ap ref_of (may.slot_once from.0 has.0 (eqb-true from.0.dir name.dir parts.1) (ap (λ (r : RefValue). r.name) from.2 ∙ is))

    pub near_removed : (from to : ℕ) → HasPlace ref_bytes (IsRefNamed name.bytes) near_was.found from to → HoldsKey (without_name sub name) blocks (make_key name.ino inode_ref name.dir) (item_bytes (take from (unwrap_or there []) ++ drop to (unwrap_or there [])))
    near_removed from to place =
        let at : IsPlaced ref_bytes near_was.found place.entry from to = place.placed in
        let held : IsHeld ref_bytes (GoodRef near_key) (take from (unwrap_or there []) ++ drop to (unwrap_or there [])) (at.lefts ++ at.rights) = held_less ref_bytes (GoodRef near_key) (unwrap_or there []) near_was.found place.entry from to near_was.held at in
        let is : place.entry ≡ ref_of name = near_alone place.entry (placed_there ref_bytes near_was.found place.entry from to at) place.wanted in
        let same : IsPermutation (at.lefts ++ at.rights) (refs_asked (without_name sub name) name.ino name.dir) = less_behind tell_ref near_was.found (refs_asked sub name.ino name.dir) (refs_asked (without_name sub name) name.ino name.dir) at.lefts at.rights place.entry (ref_of name) at.parts near_was.same (refs_less sub name may.in_order may.there near) is in
        refs_after (without_name sub name) blocks near_key (take from (unwrap_or there []) ++ drop to (unwrap_or there [])) (at.lefts ++ at.rights) refl held same

  -- ---- far, with its inode

  module _ (far : name.near ≡ false) (there : Option (List ℕ)) (holds : HoldsKey sub blocks (make_key name.ino inode_extref (extref_hash_of name.dir name.bytes)) there) where
    abbrev far_key : Key
    far_key = make_key name.ino inode_extref (extref_hash_of name.dir name.bytes)

    abbrev pub far_was : Before extref_bytes GoodExtRef there (extrefs_asked sub name.ino (extref_hash_of name.dir name.bytes))
    far_was =
        extrefs_before sub blocks (make_key name.ino inode_extref (extref_hash_of name.dir name.bytes)) there holds refl

    far_test : FlatName → Bool
    far_test n =
        not n.near && (nat_eq n.ino name.ino && nat_eq (extref_hash_of n.dir n.bytes) (extref_hash_of name.dir name.bytes))

    far_among : Contains far_was.found (extref_of name)
    unfolding far_test
    far_among =
        let asked : Contains (extrefs_asked sub name.ino (extref_hash_of name.dir name.bytes)) (extref_of name) = map_in extref_of (filter far_test sub.names) name (filter_in far_test sub.names name may.there (far_passes name far)) in
        Contains-permutation (extrefs_asked sub name.ino (extref_hash_of name.dir name.bytes)) far_was.found (extref_of name) (IsPermutation-sym far_was.found (extrefs_asked sub name.ino (extref_hash_of name.dir name.bytes)) far_was.same) asked

    pub far_refs : IsExtRefs (unwrap_or there []) far_was.found
    far_refs = record {
      some = not_empty (extref_of name) far_was.found far_among;
      spelled = far_was.held.spelled;
      numbers = all_weaker GoodExtRef (λ (r : ExtRefValue). (r.parent < 2 ^ 64) × (r.index < 2 ^ 64)) (λ r g. g.0) far_was.found far_was.held.good;
      names = all_weaker GoodExtRef (λ (r : ExtRefValue). IsName r.name) (λ r g. g.1) far_was.found far_was.held.good;
    }

    pub far_found : (found : List ExtRefValue) × IsExtRefs (unwrap_or there []) found × (entry : ExtRefValue) × Contains found entry × IsFarNamed name.dir name.bytes entry
    far_found = (far_was.found, far_refs, extref_of name, far_among, (refl, refl))

    far_alone : (entry : ExtRefValue) → Contains far_was.found entry → IsFarNamed name.dir name.bytes entry → entry ≡ extref_of name
    unfolding far_test
    far_alone entry c is =
        let from = in_map extref_of (filter far_test sub.names) entry (Contains-permutation far_was.found (extrefs_asked sub name.ino (extref_hash_of name.dir name.bytes)) entry far_was.same c) in
        let has = in_filter far_test sub.names from.0 from.1 in
        sym from.2 ∙ ap extref_of (may.slot_once from.0 has.0 (ap (λ (r : ExtRefValue). r.parent) from.2 ∙ is.0) (ap (λ (r : ExtRefValue). r.name) from.2 ∙ is.1))

    pub far_removed : (from to : ℕ) → HasPlace extref_bytes (IsFarNamed name.dir name.bytes) far_was.found from to
        → HoldsKey (without_name sub name) blocks (make_key name.ino inode_extref (extref_hash_of name.dir name.bytes)) (item_bytes (take from (unwrap_or there []) ++ drop to (unwrap_or there [])))
    far_removed from to place =
        let hash : ℕ = extref_hash_of name.dir name.bytes in
        let at : IsPlaced extref_bytes far_was.found place.entry from to = place.placed in
        let held : IsHeld extref_bytes GoodExtRef (take from (unwrap_or there []) ++ drop to (unwrap_or there [])) (at.lefts ++ at.rights) = held_less extref_bytes GoodExtRef (unwrap_or there []) far_was.found place.entry from to far_was.held at in
        let is : place.entry ≡ extref_of name = far_alone place.entry (placed_there extref_bytes far_was.found place.entry from to at) place.wanted in
        let same : IsPermutation (at.lefts ++ at.rights) (extrefs_asked (without_name sub name) name.ino hash) = less_behind tell_extref far_was.found (extrefs_asked sub name.ino hash) (extrefs_asked (without_name sub name) name.ino hash) at.lefts at.rights place.entry (extref_of name) at.parts far_was.same (extrefs_less sub name may.in_order may.there far) is in
        extrefs_after (without_name sub name) blocks far_key (take from (unwrap_or there []) ++ drop to (unwrap_or there [])) (at.lefts ++ at.rights) refl held same

  -- ---- in its directory, by hash

  module _ (there : Option (List ℕ)) (holds : HoldsKey sub blocks (make_key name.dir dir_item (name_hash_of name.bytes)) there) where
    abbrev pub hashed_was : EntriesBefore dir_item there (hashed_asked sub name.dir (name_hash_of name.bytes))
    hashed_was = hashed_before sub blocks (make_key name.dir dir_item (name_hash_of name.bytes)) there holds refl

    hashed_test : FlatName → Bool
    hashed_test n = nat_eq n.dir name.dir && nat_eq (name_hash_of n.bytes) (name_hash_of name.bytes)

    entry_among : (entry : EntryValue) × Contains hashed_was.found entry × (without_transid entry ≡ entry_of sub name)
    unfolding hashed_test
    entry_among =
        let asked : Contains (hashed_asked sub name.dir (name_hash_of name.bytes)) (entry_of sub name) = map_in (entry_of sub) (filter hashed_test sub.names) name (filter_in hashed_test sub.names name may.there (hashed_passes name)) in
        let mapped : Contains (map without_transid hashed_was.found) (entry_of sub name) = Contains-permutation (hashed_asked sub name.dir (name_hash_of name.bytes)) (map without_transid hashed_was.found) (entry_of sub name) (IsPermutation-sym (map without_transid hashed_was.found) (hashed_asked sub name.dir (name_hash_of name.bytes)) hashed_was.same) asked in
        in_map without_transid hashed_was.found (entry_of sub name) mapped

    pub hashed_spelled : IsEntries dir_item (unwrap_or there []) hashed_was.found
    hashed_spelled =
        is_entries dir_item (unwrap_or there []) hashed_was.found (not_empty entry_among.0 hashed_was.found entry_among.1) hashed_was.held hashed_was.apart (λ no. absurd (omega (arith, no)))

    pub hashed_found : (found : List EntryValue) × IsEntries dir_item (unwrap_or there []) found × (entry : EntryValue) × Contains found entry × IsEntryNamed name.bytes entry
    hashed_found =
        (hashed_was.found, hashed_spelled, entry_among.0, entry_among.1, ap (λ (e : EntryValue). e.name) entry_among.2)

    entry_alone : (entry : EntryValue) → Contains hashed_was.found entry → entry.name ≡ name.bytes → without_transid entry ≡ entry_of sub name
    unfolding hashed_test
    entry_alone entry c is =
        let asked : Contains (hashed_asked sub name.dir (name_hash_of name.bytes)) (without_transid entry) = Contains-permutation (map without_transid hashed_was.found) (hashed_asked sub name.dir (name_hash_of name.bytes)) (without_transid entry) hashed_was.same (map_in without_transid hashed_was.found entry c) in
        let from = in_map (entry_of sub) (filter hashed_test sub.names) (without_transid entry) asked in
        let has = in_filter hashed_test sub.names from.0 from.1 in
        let parts = and_parts (nat_eq from.0.dir name.dir) (nat_eq (name_hash_of from.0.bytes) (name_hash_of name.bytes)) has.1 in
        sym from.2 ∙ ap (entry_of sub) (may.slot_once from.0 has.0 (eqb-true from.0.dir name.dir parts.0) (ap (λ (e : EntryValue). e.name) from.2 ∙ is))

    module _ (from to : ℕ) (place : HasPlace entry_bytes (IsEntryNamed name.bytes) hashed_was.found from to) where
      pub less_held : IsHeld entry_bytes (GoodEntry dir_item) (take from (unwrap_or there []) ++ drop to (unwrap_or there [])) (place.placed.lefts ++ place.placed.rights)
      less_held =
          held_less entry_bytes (GoodEntry dir_item) (unwrap_or there []) hashed_was.found place.entry from to hashed_was.held place.placed

      pub less_apart : NamesDiffer (place.placed.lefts ++ place.placed.rights)
      less_apart =
          differ_less place.placed.lefts place.placed.rights place.entry (subst NamesDiffer place.placed.parts hashed_was.apart)

      pub hashed_removed : HoldsKey (without_name sub name) blocks (make_key name.dir dir_item (name_hash_of name.bytes)) (item_bytes (take from (unwrap_or there []) ++ drop to (unwrap_or there [])))
      hashed_removed =
          let hash : ℕ = name_hash_of name.bytes in
          let lefts : List EntryValue = place.placed.lefts in
          let rights : List EntryValue = place.placed.rights in
          let is : without_transid place.entry ≡ entry_of sub name = entry_alone place.entry (placed_there entry_bytes hashed_was.found place.entry from to place.placed) place.wanted in
          let parts : map without_transid hashed_was.found ≡ map without_transid lefts ++ (without_transid place.entry ∷ map without_transid rights) = ap (map without_transid) place.placed.parts ∙ map-append without_transid lefts (place.entry ∷ rights) in
          let same : IsPermutation (map without_transid lefts ++ map without_transid rights) (hashed_asked (without_name sub name) name.dir hash) = less_behind tell_entry (map without_transid hashed_was.found) (hashed_asked sub name.dir hash) (hashed_asked (without_name sub name) name.dir hash) (map without_transid lefts) (map without_transid rights) (without_transid place.entry) (entry_of sub name) parts hashed_was.same (hashed_less sub name may.in_order may.there) is in
          hashed_after (without_name sub name) blocks (make_key name.dir dir_item hash) (take from (unwrap_or there []) ++ drop to (unwrap_or there [])) (lefts ++ rights) refl less_held less_apart
          (subst (λ (l : List EntryValue). IsPermutation l (hashed_asked (without_name sub name) name.dir hash)) (sym (map-append without_transid lefts rights)) same)

  -- ---- in its directory, by index

  pub index_there : (there : Option (List ℕ)) → HoldsKey sub blocks (make_key name.dir dir_index name.index) there → IsSome there
  index_there there holds =
      let p : FlatName → Bool = λ n. nat_eq n.dir name.dir && nat_eq n.index name.index in
      holds.all (AsksIndexed refl (not_empty (entry_of sub name) (map (entry_of sub) (filter p sub.names)) (map_in (entry_of sub) (filter p sub.names) name (filter_in p sub.names name may.there (indexed_passes name)))))

  index_gone : indexed_asked (without_name sub name) name.dir name.index ≡ []
  index_gone =
      let p : FlatName → Bool = λ n. nat_eq n.dir name.dir && nat_eq n.index name.index in
      let left : List FlatName = remove_name name sub.names in
      let fails : All (λ (n : FlatName). p n ≡ false) left = All-weaker (Contains left) (λ (n : FlatName). p n ≡ false) (λ n c. false_from_ne_true (p n) (λ is.
      let kept = remove_name_gives name sub.names n c in
      let parts = and_parts (nat_eq n.dir name.dir) (nat_eq n.index name.index) is in
      kept.1 (sym (may.index_once n kept.0 (eqb-true n.dir name.dir parts.0) (eqb-true n.index name.index parts.1))))) left (All-contains_itself left) in
      ap (map (entry_of sub)) (filter_none p left fails)

  pub indexed_removed : HoldsKey (without_name sub name) blocks (make_key name.dir dir_index name.index) None
  indexed_removed =
      indexed_after (without_name sub name) blocks (make_key name.dir dir_index name.index) [] [] refl (record { spelled = refl; good = tt }) none_apart (omega arith) (subst (λ (l : List EntryValue). IsPermutation [] l) (sym index_gone) (IsPermutation-refl []))
    where
      none_apart : NamesDiffer []
      none_apart i j a b less s t = absurd (some_none a (sym s))
