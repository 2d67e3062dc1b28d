-- The names that all refs say, of one inode: none twice, and as many as its set of names has.
use Rattle.std.proofs.Common.{◌≡◌, ◌⊎◌, ◌↔◌, ◌≤◌, ◌<◌, ◌==◌, ℕ, suc, Bool, true, false, not, cond, List, [], ◌∷◌, length, filter, map, flat_map, count_by, slice_get, Contains, Some, refl, sym, ap, subst, ◌∙◌, arith, inl, inr}
use Rattle.std.proofs.lemmas.Bool.{cases_order, eq-eqb, eqb-true}
use Rattle.blk_base.specs.declared.key.Key.{Key}
use Rattle.blk_base.specs.Entries.{EntryValue, entries_of, extrefs_of, refs_of}
use Rattle.blk_base.specs.ItemFaults.{HasItsKey, IsEntriesKind}
use Rattle.blk_base.specs.Crc.{name_hash_of}
use Rattle.blk_base.specs.Keys.{dir_item, inode_extref, inode_ref}
use Rattle.blk_base.specs.Leaf.{Item}
use Rattle.item_laws.proofs.FaultLaws.{item_spelled}
use Rattle.flat_model.specs.Coherent.{LeadsUp}
use Rattle.flat_model.specs.Names.{FlatName, leads_to, links_of}
use Rattle.flat_model.specs.Volume.{Subvolume}
use Rattle.volume_image.specs.Subvolume.{Data, make_key}
use Rattle.volume_image.proofs.Lists.{in_nothing}
use Rattle.volume_image.proofs.Members.{in_filter, filter_in, in_map, map_in}
use Rattle.image_faults.specs.Decided.{same_name}
use Rattle.image_faults.specs.Faulty.{AreReadable, HasRefsOnce, IsRightRef, StandOnce}
use Rattle.image_faults.specs.Lists.{get_at, once_filter, once_names}
use Rattle.image_faults.specs.Said.{entries_at, far_name, is_own_ref, names_in, near_name, read_list, said_names, said_sub}
use Rattle.image_faults.proofs.Entries.{AreSpelled, entries_read, entry_of_name}
use Rattle.image_faults.proofs.Readings.{entry_from, name_set_gives, name_set_has, said_in_order}
use Rattle.image_faults.proofs.RefSums.{links_are_said}
use Rattle.image_faults.proofs.Rising.{key_once}
use Rattle.coherent_names.specs.Names.{all_names, own_refs}
use Rattle.coherent_slots.specs.Slots.{HasBadName, HasGoodNames, Twice, Wrong}
use Rattle.coherent.proofs.Amounts.{said_count, said_length}
use Rattle.coherent.proofs.Lists.{apart_once, clash, once_apart, once_no_longer, once_part, once_whole}

-- ---- the set of all names

pub all_said : (items : List Item) (name : FlatName) → Contains (all_names items) name → Contains (said_names items) name
unfolding said_names
all_said items name c = name_set_has (all_names items) name c

pub said_all : (items : List Item) (name : FlatName) → Contains (said_names items) name → Contains (all_names items) name
unfolding said_names
said_all items name c = name_set_gives (all_names items) name c

pub leads_by : (some others : List FlatName) → ((name : FlatName) → Contains some name → Contains others name) → (ino : ℕ) (way : List FlatName) → LeadsUp some ino way → LeadsUp others ino way
leads_by some others inside ino [] up = up
leads_by some others inside ino (name ∷ way) up = (inside name up.0, up.1, leads_by some others inside name.dir way up.2)

-- a name leads to the inode of its item
pub name_owner : (item : Item) (name : FlatName) → Contains (names_in item) name → name.ino ≡ item.0.objectid
name_owner item name c = go (item.0.kind == inode_ref) (item.0.kind == inode_extref) c
  where
    go : (a b : Bool) → Contains (cond a (map (near_name item.0) (filter (λ ref. not (is_own_ref item.0 ref)) (read_list (refs_of item.0 item.1)))) (cond b (map (far_name item.0) (read_list (extrefs_of item.1))) [])) name → name.ino ≡ item.0.objectid
    go true b d = let found = in_map (near_name item.0) (filter (λ ref. not (is_own_ref item.0 ref)) (read_list (refs_of item.0 item.1))) name d in sym (ap (λ (n : FlatName). n.ino) found.2)
    go false true d = let found = in_map (far_name item.0) (read_list (extrefs_of item.1)) name d in sym (ap (λ (n : FlatName). n.ino) found.2)
    go false false d = absurd (in_nothing name d)

once_unmapped : {X Y : Type 0} (f : X → Y) (xs : List X) → StandOnce (map f xs) → StandOnce xs
once_unmapped f [] once = tt
once_unmapped f (x ∷ xs) once = ((λ c. once.0 (map_in f xs x c)), once_unmapped f xs once.1)

-- what passes stands once, and at most one doesn't
once_but_one : {X : Type 0} (p : X → Bool) (xs : List X) → StandOnce (filter (λ x. not (p x)) xs) → length (filter p xs) ≤ 1 → StandOnce xs
once_but_one p [] once short = tt
once_but_one {X} p (x ∷ xs) once short = go (p x) refl once short (λ o s. once_but_one p xs o s)
  where
    go : (t : Bool) → p x ≡ t → StandOnce (cond (not t) (x ∷ filter (λ y. not (p y)) xs) (filter (λ y. not (p y)) xs)) → length (cond t (x ∷ filter p xs) (filter p xs)) ≤ 1
        → (StandOnce (filter (λ y. not (p y)) xs) → length (filter p xs) ≤ 1 → StandOnce xs) → StandOnce (x ∷ xs)
    go true e o s rest = ((λ c. let d = filter_in p xs x c e in let low = d.1 in omega arith), rest o (omega arith))
    go false e o s rest = ((λ c. o.0 (filter_in (λ y. not (p y)) xs x c (ap not e))), rest o.1 s)

module _ (items : List Item) (ok : AreReadable items) where
  pub spelled : AreSpelled items
  spelled key bytes there = item_spelled key bytes (ok.bytes key bytes there) (ok.faultless key bytes there)

  -- entries under one key with one name are the same
  pub entry_one : (kind : ℕ) → IsEntriesKind kind → (ino offset : ℕ) (a b : EntryValue) → Contains (entries_at items kind ino) (offset, a) → Contains (entries_at items kind ino) (offset, b) → a.name ≡ b.name → a ≡ b
  entry_one kind is ino offset a b ca cb same =
      let one = entry_from items kind ino (offset, a) ca in
      let two = entry_from items kind ino (offset, b) cb in
      let bytes = key_once items (make_key ino kind offset) two.bytes one.bytes ok.rise two.there one.there in
      let found = entries_read items ok.rise spelled kind ino offset one.bytes is one.there in
      entry_of_name kind one.bytes found.0 a b found.1 (subst (λ (es : List EntryValue). Contains es a) found.2 one.entry)
      (subst (λ (es : List EntryValue). Contains es b) found.2 (subst (λ (z : List ℕ). Contains (read_list (entries_of kind z)) b) bytes two.entry)) same

  -- right names in one slot lead to one inode
  pub one_inode : (sub : Subvolume) (one two : FlatName) → IsRightRef items sub one → IsRightRef items sub two → one.dir ≡ two.dir → one.bytes ≡ two.bytes → one.ino ≡ two.ino
  one_inode sub one two right right_too dir bytes =
      let a = right.hashed in
      let b = right_too.hashed in
      let there : Contains (entries_at items dir_item one.dir) (name_hash_of one.bytes, b.0) =
      subst (λ (h : ℕ). Contains (entries_at items dir_item one.dir) (h, b.0)) (ap name_hash_of (sym bytes)) (subst (λ (d : ℕ). Contains (entries_at items dir_item d) (name_hash_of two.bytes, b.0)) (sym dir) b.1) in
      let same = entry_one dir_item (inl refl) one.dir (name_hash_of one.bytes) a.0 b.0 a.1 there (a.2.bytes ∙ bytes ∙ sym b.2.bytes) in
      sym a.2.ino ∙ ap (λ (e : EntryValue). e.target.objectid) same ∙ b.2.ino

module _ (items : List Item) (blocks : Data) (ok : AreReadable items) (ino : ℕ) where
  abbrev s : Subvolume
  s = said_sub items blocks

  -- ---- from names without a bad one

  module _ (good : HasGoodNames items (said_sub items blocks) (all_names items) ino) where
    pub all_once : StandOnce (filter (leads_to ino) (all_names items))
    all_once = apart_once (leads_to ino) (all_names items) (λ j k x passes below a b.
        let is = eqb-true x.ino ino passes in
        let right = good.right x (at_place (all_names items) k x b) is in
        good.once j k x x is (record { before = below; first = a; second = b; right = right; right_too = right; dir = refl; bytes = refl }))
      where
        at_place : (xs : List FlatName) (k : ℕ) (x : FlatName) → slice_get xs k ≡ Some x → Contains xs x
        at_place xs k x e = Rattle.coherent.proofs.Lists.got xs k x e

    pub item_once : (key : Key) (bytes : List ℕ) → Contains items (key, bytes) → key.objectid ≡ ino → StandOnce (names_in (key, bytes))
    item_once key bytes there mine =
        once_whole (leads_to ino) (names_in (key, bytes)) (λ name c. eq-eqb name.ino ino (name_owner (key, bytes) name c ∙ mine)) (once_part names_in (leads_to ino) items (key, bytes) there all_once)

    pub refs_once : (key : Key) (bytes : List ℕ) → Contains items (key, bytes) → key.objectid ≡ ino → (key.kind ≡ inode_ref → length (own_refs key (read_list (refs_of key bytes))) ≤ 1) → HasRefsOnce key bytes
    refs_once key bytes there mine own = record {
      near = λ kind.
          once_but_one (is_own_ref key) (read_list (refs_of key bytes))
          (once_unmapped (near_name key) (filter (λ ref. not (is_own_ref key ref)) (read_list (refs_of key bytes))) (near (key.kind == inode_ref) (eq-eqb key.kind inode_ref kind) (item_once key bytes there mine))) (own kind);
      far = λ kind. once_unmapped (far_name key) (read_list (extrefs_of bytes)) (far (key.kind == inode_ref) refl kind (key.kind == inode_extref) (eq-eqb key.kind inode_extref kind) (item_once key bytes there mine));
    }
      where
        near : (t : Bool) → t ≡ true → StandOnce (cond t (map (near_name key) (filter (λ ref. not (is_own_ref key ref)) (read_list (refs_of key bytes)))) (cond (key.kind == inode_extref) (map (far_name key) (read_list (extrefs_of bytes))) []))
            → StandOnce (map (near_name key) (filter (λ ref. not (is_own_ref key ref)) (read_list (refs_of key bytes))))
        near true e o = o
        near false e o = clash (sym e)

        far : (t : Bool) → (key.kind == inode_ref) ≡ t → key.kind ≡ inode_extref → (u : Bool) → u ≡ true
            → StandOnce (cond t (map (near_name key) (filter (λ ref. not (is_own_ref key ref)) (read_list (refs_of key bytes)))) (cond u (map (far_name key) (read_list (extrefs_of bytes))) [])) → StandOnce (map (far_name key) (read_list (extrefs_of bytes)))
        far true e kind u f o = absurd (let other = eqb-true key.kind inode_ref e in omega arith)
        far false e kind true f o = o
        far false e kind false f o = clash (sym f)

    pub names_once : (one two : FlatName) → Contains s.names one → Contains s.names two → one.ino ≡ ino → two.ino ≡ ino → one.dir ≡ two.dir → one.bytes ≡ two.bytes → one ≡ two
    names_once one two c d mine also dir bytes = go (cases_order a.0 b.0)
      where
        a : Contains (all_names items) one
        a = said_all items one c

        b : Contains (all_names items) two
        b = said_all items two d

        some_same : (x y : FlatName) → Some x ≡ Some y → x ≡ y
        some_same x y e = cc

        go : (a.0 ≡ b.0) ⊎ ((a.0 < b.0) ⊎ (b.0 < a.0)) → one ≡ two
        go (inl same) = some_same one two (sym (get_at (all_names items) one a) ∙ ap (slice_get (all_names items)) same ∙ get_at (all_names items) two b)
        go (inr (inl below)) = absurd (good.once a.0 b.0 one two also (record {
          before = below;
          first = get_at (all_names items) one a;
          second = get_at (all_names items) two b;
          right = good.right one a mine;
          right_too = good.right two b also;
          dir = dir;
          bytes = bytes;
        }))
        go (inr (inr above)) = absurd (good.once b.0 a.0 two one mine (record {
          before = above;
          first = get_at (all_names items) two b;
          second = get_at (all_names items) one a;
          right = good.right two b also;
          right_too = good.right one a mine;
          dir = sym dir;
          bytes = sym bytes;
        }))

  -- ---- from refs that stand once

  module _ (keys : (key : Key) (bytes : List ℕ) → Contains items (key, bytes) → key.objectid ≡ ino → HasItsKey key bytes)
      (once : (key : Key) (bytes : List ℕ) → Contains items (key, bytes) → key.objectid ≡ ino → HasRefsOnce key bytes) where
    -- the names are as many as those of the set
    pub count_is : count_by (leads_to ino) (all_names items) ≡ links_of s.names ino
    count_is = said_count items ino ∙ sym (links_are_said items ino ok keys once)

    stand_once : StandOnce (filter (leads_to ino) (all_names items))
    stand_once = once_no_longer same_name (filter (leads_to ino) s.names) (filter (leads_to ino) (all_names items)) (once_filter (leads_to ino) s.names (once_names s.names (said_in_order items)))
        (λ name c. let kept = in_filter (leads_to ino) s.names name c in filter_in (leads_to ino) (all_names items) name (said_all items name kept.0) kept.1)
        (let long = said_length items ino in let set : length (filter (leads_to ino) s.names) ≡ Rattle.std.proofs.Common.sum_by (Rattle.image_faults.specs.Counts.names_said ino) items = links_are_said items ino ok keys once in omega arith)

    pub no_bad_name : ((name : FlatName) → Contains s.names name → name.ino ≡ ino → IsRightRef items s name)
        → ((one two : FlatName) → Contains s.names one → Contains s.names two → one.ino ≡ ino → two.ino ≡ ino → one.dir ≡ two.dir → one.bytes ≡ two.bytes → one ≡ two)
        → HasBadName items s (all_names items) ino → ⊥
    no_bad_name refs alone (Wrong name there is wrong) = wrong (refs name (all_said items name there) is)
    no_bad_name refs alone (Twice j k one two is twice) =
        let same_ino = one_inode items ok s one two twice.right twice.right_too twice.dir twice.bytes in
        let first = Rattle.coherent.proofs.Lists.got (all_names items) j one twice.first in
        let second = Rattle.coherent.proofs.Lists.got (all_names items) k two twice.second in
        let same = alone one two (all_said items one first) (all_said items two second) (same_ino ∙ is) is twice.dir twice.bytes in
        once_apart (leads_to ino) (all_names items) j k two stand_once (eq-eqb two.ino ino is) twice.before (twice.first ∙ ap Some same) twice.second
