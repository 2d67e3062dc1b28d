-- What stands under the keys of a name once it is added is what the subvolume with it asks for there.
use Rattle.std.proofs.Common.{◌≡◌, ◌≢◌, ◌∙◌, ◌≤◌, ◌<◌, ◌^◌, ◌&&◌, ℕ, zero, suc, Bool, true, false, List, [], ◌∷◌, ◌++◌, length, map, nat_eq, Option, Some, None, refl, sym, ap, subst, inl, inr, arith, length-append}
use Rattle.std.specs.Prelude.{All, Contains, filter}
use Rattle.std.specs.FinMap.{get}
use Rattle.std.specs.List.Sorted.{IsPermutation}
use Rattle.std.specs.Option.{unwrap_or}
use Rattle.std.proofs.lemmas.Bool.{and_parts, eqb-true, false_from_ne_true}
use Rattle.std.proofs.lemmas.List.{append-nil, map-append}
use Rattle.std.proofs.lemmas.List.Elements.{All-contains_itself, All-weaker, Contains-append_right}
use Rattle.std.proofs.lemmas.List.Sorted.{Contains-permutation, IsPermutation-cons, IsPermutation-to_front, IsPermutation-trans}
use Rattle.blk_base.specs.declared.key.Key.{Key}
use Rattle.blk_base.specs.Crc.{extref_hash_of, name_hash_of}
use Rattle.blk_base.specs.Entries.{EntryValue, ExtRefValue, IsEntries, RefValue, entry_bytes, extref_bytes, ref_bytes}
use Rattle.blk_base.specs.Keys.{dir_index, dir_item, inode_extref, inode_ref}
use Rattle.item_laws.specs.Apart.{NamesDiffer}
use Rattle.tree_range.proofs.Under.{filter_none}
use Rattle.flat_model.specs.Names.{FlatName}
use Rattle.flat_model.specs.Records.{DirInode, FileInode, InodeRecord, LinkInode}
use Rattle.flat_model.specs.Volume.{Subvolume}
use Rattle.flat_model.proofs.Maps.{some_none}
use Rattle.volume_image.specs.Subvolume.{Data, entry_kind_of, entry_of, extref_of, extrefs_asked, hashed_asked, indexed_asked, make_key, mode_of, ref_of, refs_asked, without_transid}
use Rattle.volume_image.proofs.Members.{in_filter, in_map, map_in, not_empty}
use Rattle.volume_image.proofs.Reaches.{head_in}
use Rattle.table_volume.specs.Keyed.{HoldsKey}
use Rattle.item_edit.specs.ItemEdit.{item_bytes}
use Rattle.item_edit.proofs.Inodes.{item_bytes_some}
use Rattle.name_items.specs.Names.{MayAddName}
use Rattle.name_items.specs.Edits.{IsKindOfEntry, kind_of_mode, made_entry}
use Rattle.name_items.proofs.AskedLists.{extrefs_more, hashed_more, indexed_more, refs_more, with_name}
use Rattle.name_items.proofs.Held.{IsHeld, held_more}
use Rattle.name_items.proofs.UnderKeys.{Before, EntriesBefore, GoodEntry, GoodExtRef, GoodRef, differ_more, extref_least, extrefs_after, extrefs_before, hashed_after, is_entries, hashed_before, indexed_after, some_cons, ref_least, entry_least, refs_after, refs_before}

-- what is right behind an order with one more at its end
more_behind : {X : Type 0} (found asked next : List X) (x : X) → IsPermutation found asked → IsPermutation (x ∷ asked) next → IsPermutation (found ++ (x ∷ [])) next
more_behind found asked next x one two =
    IsPermutation-trans (found ++ (x ∷ [])) (x ∷ found) next (IsPermutation-to_front found x) (IsPermutation-trans (x ∷ found) (x ∷ asked) next (IsPermutation-cons x found asked one) two)

-- bytes with others behind them are some
some_bytes : (was entry : List ℕ) → 1 ≤ length entry → item_bytes (was ++ entry) ≡ Some (was ++ entry)
some_bytes was entry least =
    item_bytes_some (was ++ entry) (λ none. omega (arith, length-append was entry, least, none))

one_apart : (e : EntryValue) → NamesDiffer (e ∷ [])
one_apart e zero zero a b less s t = absurd (omega (arith, less))
one_apart e zero (suc j) a b less s t = absurd (some_none b (sym t))
one_apart e (suc i) j a b less s t = absurd (some_none a (sym s))

-- ---- kinds of entries

kind_cases : (o : Option InodeRecord) → IsKindOfEntry (entry_kind_of o)
kind_cases None = inl refl
kind_cases (Some (FileInode file)) = inl refl
kind_cases (Some (DirInode dir)) = inr (inl refl)
kind_cases (Some (LinkInode link)) = inr (inr refl)

mode_kind : (inode : InodeRecord) → kind_of_mode (mode_of inode) ≡ entry_kind_of (Some inode)
mode_kind (FileInode file) = refl
mode_kind (DirInode dir) = refl
mode_kind (LinkInode link) = refl

-- the type of an entry is that of its inode
pub kind_is : (sub : Subvolume) (ino : ℕ) (inode : InodeRecord) (mode : ℕ) → get sub.inodes ino ≡ Some inode → mode ≡ mode_of inode → kind_of_mode mode ≡ entry_kind_of (get sub.inodes ino)
kind_is sub ino inode mode there is =
    ap kind_of_mode is ∙ mode_kind inode ∙ ap entry_kind_of (sym there)

-- types of entries are types of entries
pub some_kind : (mode : ℕ) → IsKindOfEntry (kind_of_mode mode)
some_kind mode = grind arith

module _ (sub : Subvolume) (blocks : Data) (name : FlatName) (may : MayAddName sub name) where
  pub absent : Contains sub.names name → ⊥
  absent c = may.slot_free name c refl refl

  -- ---- with its inode

  pub near_added : name.near ≡ true → (there : Option (List ℕ)) → HoldsKey sub blocks (make_key name.ino inode_ref name.dir) there
      → HoldsKey (with_name sub name) blocks (make_key name.ino inode_ref name.dir) (Some (unwrap_or there [] ++ ref_bytes (ref_of name)))
  near_added near there holds =
      let key : Key = make_key name.ino inode_ref name.dir in
      let e : RefValue = ref_of name in
      let b : Before ref_bytes (GoodRef key) there (refs_asked sub name.ino name.dir) = refs_before sub blocks key there holds refl in
      let held : IsHeld ref_bytes (GoodRef key) (unwrap_or there [] ++ ref_bytes e) (b.found ++ (e ∷ [])) = held_more ref_bytes (GoodRef key) (unwrap_or there []) b.found e b.held (may.index, inl may.is_name) in
      let same : IsPermutation (b.found ++ (e ∷ [])) (refs_asked (with_name sub name) name.ino name.dir) = more_behind b.found (refs_asked sub name.ino name.dir) (refs_asked (with_name sub name) name.ino name.dir) e b.same (refs_more sub name may.in_order absent near) in
      subst (HoldsKey (with_name sub name) blocks key) (some_bytes (unwrap_or there []) (ref_bytes e) (ref_least e)) (refs_after (with_name sub name) blocks key (unwrap_or there [] ++ ref_bytes e) (b.found ++ (e ∷ [])) refl held same)

  pub far_added : name.near ≡ false → (there : Option (List ℕ)) → HoldsKey sub blocks (make_key name.ino inode_extref (extref_hash_of name.dir name.bytes)) there
      → HoldsKey (with_name sub name) blocks (make_key name.ino inode_extref (extref_hash_of name.dir name.bytes)) (Some (unwrap_or there [] ++ extref_bytes (extref_of name)))
  far_added far there holds =
      let hash : ℕ = extref_hash_of name.dir name.bytes in
      let key : Key = make_key name.ino inode_extref hash in
      let e : ExtRefValue = extref_of name in
      let b : Before extref_bytes GoodExtRef there (extrefs_asked sub name.ino hash) = extrefs_before sub blocks key there holds refl in
      let held : IsHeld extref_bytes GoodExtRef (unwrap_or there [] ++ extref_bytes e) (b.found ++ (e ∷ [])) = held_more extref_bytes GoodExtRef (unwrap_or there []) b.found e b.held ((may.dir_number, may.index), may.is_name) in
      let same : IsPermutation (b.found ++ (e ∷ [])) (extrefs_asked (with_name sub name) name.ino hash) = more_behind b.found (extrefs_asked sub name.ino hash) (extrefs_asked (with_name sub name) name.ino hash) e b.same (extrefs_more sub name may.in_order absent far) in
      subst (HoldsKey (with_name sub name) blocks key) (some_bytes (unwrap_or there []) (extref_bytes e) (extref_least e)) (extrefs_after (with_name sub name) blocks key (unwrap_or there [] ++ extref_bytes e) (b.found ++ (e ∷ [])) refl held same)

  -- ---- in its directory

  module _ (kind running : ℕ) (kind_same : kind ≡ entry_kind_of (get sub.inodes name.ino)) (fits : running < 2 ^ 64) where
    made_same : without_transid (made_entry name kind running) ≡ entry_of sub name
    made_same = ap (λ (k : ℕ). made_entry name k 0) kind_same

    entry_good : (type : ℕ) → (type ≡ 24 → ⊥) → GoodEntry type (made_entry name kind running)
    entry_good type plain = record {
      fits = record { target = record { objectid = may.ino_number; kind = omega arith; offset = omega arith }; transid = fits; value = omega arith };
      name = may.is_name;
      kind_is = inr (plain, subst IsKindOfEntry (sym kind_same) (kind_cases (get sub.inodes name.ino)), refl);
    }

    -- no entry of this hash has the name
    name_new : (found : List EntryValue) → IsPermutation (map without_transid found) (hashed_asked sub name.dir (name_hash_of name.bytes)) → (other : EntryValue) → Contains found other → other.name ≢ name.bytes
    name_new found same other there is =
        let asked = hashed_asked sub name.dir (name_hash_of name.bytes) in
        let p : FlatName → Bool = λ n. nat_eq n.dir name.dir && nat_eq (name_hash_of n.bytes) (name_hash_of name.bytes) in
        let among : Contains asked (without_transid other) = Contains-permutation (map without_transid found) asked (without_transid other) same (map_in without_transid found other there) in
        let from = in_map (entry_of sub) (filter p sub.names) (without_transid other) among in
        let has = in_filter p sub.names from.0 from.1 in
        let parts = and_parts (nat_eq from.0.dir name.dir) (nat_eq (name_hash_of from.0.bytes) (name_hash_of name.bytes)) has.1 in
        may.slot_free from.0 has.0 (eqb-true from.0.dir name.dir parts.0) (ap (λ (e : EntryValue). e.name) from.2 ∙ is)

    -- the entries of the hash, and this one
    module _ (there : Option (List ℕ)) (holds : HoldsKey sub blocks (make_key name.dir dir_item (name_hash_of name.bytes)) there) where
      abbrev pub was : EntriesBefore dir_item there (hashed_asked sub name.dir (name_hash_of name.bytes))
      was = hashed_before sub blocks (make_key name.dir dir_item (name_hash_of name.bytes)) there holds refl

      held_now : IsHeld entry_bytes (GoodEntry dir_item) (unwrap_or there [] ++ entry_bytes (made_entry name kind running)) (was.found ++ (made_entry name kind running ∷ []))
      held_now =
          held_more entry_bytes (GoodEntry dir_item) (unwrap_or there []) was.found (made_entry name kind running) was.held (entry_good dir_item (λ no. omega (arith, no)))

      apart_now : NamesDiffer (was.found ++ (made_entry name kind running ∷ []))
      apart_now =
          differ_more was.found (made_entry name kind running) was.apart (name_new was.found was.same)

      same_now : IsPermutation (map without_transid (was.found ++ (made_entry name kind running ∷ []))) (hashed_asked (with_name sub name) name.dir (name_hash_of name.bytes))
      same_now =
          let hash : ℕ = name_hash_of name.bytes in
          let e : EntryValue = made_entry name kind running in
          let mapped : map without_transid (was.found ++ (e ∷ [])) ≡ map without_transid was.found ++ (entry_of sub name ∷ []) = map-append without_transid was.found (e ∷ []) ∙ ap (λ (x : EntryValue). map without_transid was.found ++ (x ∷ [])) made_same in
          subst (λ (l : List EntryValue). IsPermutation l (hashed_asked (with_name sub name) name.dir hash)) (sym mapped)
          (more_behind (map without_transid was.found) (hashed_asked sub name.dir hash) (hashed_asked (with_name sub name) name.dir hash) (entry_of sub name) was.same (hashed_more sub name may.in_order absent))

      pub hashed_added : HoldsKey (with_name sub name) blocks (make_key name.dir dir_item (name_hash_of name.bytes)) (Some (unwrap_or there [] ++ entry_bytes (made_entry name kind running)))
      hashed_added =
          let key : Key = make_key name.dir dir_item (name_hash_of name.bytes) in
          let e : EntryValue = made_entry name kind running in
          subst (HoldsKey (with_name sub name) blocks key) (some_bytes (unwrap_or there []) (entry_bytes e) (entry_least e)) (hashed_after (with_name sub name) blocks key (unwrap_or there [] ++ entry_bytes e) (was.found ++ (e ∷ [])) refl held_now apart_now same_now)

      pub hashed_spelled : IsEntries dir_item (unwrap_or there [] ++ entry_bytes (made_entry name kind running)) (was.found ++ (made_entry name kind running ∷ []))
      hashed_spelled =
          let e : EntryValue = made_entry name kind running in
          is_entries dir_item (unwrap_or there [] ++ entry_bytes e) (was.found ++ (e ∷ [])) (not_empty e (was.found ++ (e ∷ [])) (Contains-append_right was.found (e ∷ []) e (head_in e []))) held_now apart_now (λ no. absurd (omega (arith, no)))

    -- no name is at the index
    index_new : indexed_asked sub name.dir name.index ≡ []
    index_new =
        let p : FlatName → Bool = λ n. nat_eq n.dir name.dir && nat_eq n.index name.index in
        let fails : All (λ (n : FlatName). p n ≡ false) sub.names = All-weaker (Contains sub.names) (λ (n : FlatName). p n ≡ false) (λ n c. false_from_ne_true (p n) (λ is. let parts = and_parts (nat_eq n.dir name.dir) (nat_eq n.index name.index) is in may.index_free n c (eqb-true n.dir name.dir parts.0) (eqb-true n.index name.index parts.1))) sub.names (All-contains_itself sub.names) in
        ap (map (entry_of sub)) (filter_none p sub.names fails)

    pub indexed_added : HoldsKey (with_name sub name) blocks (make_key name.dir dir_index name.index) (Some (entry_bytes (made_entry name kind running)))
    indexed_added =
        let key : Key = make_key name.dir dir_index name.index in
        let e : EntryValue = made_entry name kind running in
        let more : IsPermutation (entry_of sub name ∷ indexed_asked sub name.dir name.index) (indexed_asked (with_name sub name) name.dir name.index) = indexed_more sub name may.in_order absent in
        let alone : IsPermutation (entry_of sub name ∷ []) (indexed_asked (with_name sub name) name.dir name.index) = subst (λ (l : List EntryValue). IsPermutation (entry_of sub name ∷ l) (indexed_asked (with_name sub name) name.dir name.index)) index_new more in
        let same : IsPermutation (without_transid e ∷ []) (indexed_asked (with_name sub name) name.dir name.index) = subst (λ (x : EntryValue). IsPermutation (x ∷ []) (indexed_asked (with_name sub name) name.dir name.index)) (sym made_same) alone in
        let held : IsHeld entry_bytes (GoodEntry dir_index) (entry_bytes e) (e ∷ []) = record { spelled = sym (append-nil (entry_bytes e)); good = (entry_good dir_index (λ no. omega (arith, no)), tt) } in
        subst (HoldsKey (with_name sub name) blocks key) (some_bytes [] (entry_bytes e) (entry_least e)) (indexed_after (with_name sub name) blocks key (entry_bytes e) (e ∷ []) refl held (one_apart e) (omega arith) same)

    pub indexed_spelled : IsEntries dir_index (entry_bytes (made_entry name kind running)) (made_entry name kind running ∷ [])
    indexed_spelled =
        let e : EntryValue = made_entry name kind running in
        let good : GoodEntry dir_index e = entry_good dir_index (λ no. omega (arith, no)) in
        record {
          some = some_cons e [];
          spelled = sym (append-nil (entry_bytes e));
          fields = (good.fits, tt);
          names = (good.name, tt);
          kinds = (good.kind_is, tt);
          once = one_apart e;
          single = λ k. refl;
        }
