-- An inode has as many names as its items say, where none says one twice and each has its key.
use Rattle.std.proofs.Common.{◌≡◌, ◌==◌, ℕ, Bool, true, false, not, cond, List, [], ◌∷◌, length, filter, map, flat_map, sum_by, Contains, refl, sym, ap, subst, ◌∙◌, arith, inl, inr, length-append}
use Rattle.std.proofs.lemmas.Bool.{eqb-true, cases_eq}
use Rattle.std.proofs.lemmas.List.Sums.{sum_by-cons}
use Rattle.std.proofs.lemmas.List.Sorted.{length_permutation}
use Rattle.blk_base.specs.declared.key.Key.{Key}
use Rattle.blk_base.specs.Crc.{extref_hash_of}
use Rattle.blk_base.specs.Keys.{KeyBelow, inode_ref, inode_extref}
use Rattle.blk_base.specs.Leaf.{Item}
use Rattle.blk_base.specs.Entries.{ExtRefValue, refs_of, extrefs_of}
use Rattle.blk_base.specs.ItemFaults.{HasItsKey}
use Rattle.item_laws.specs.ExtRefs.{extrefs_to}
use Rattle.item_laws.proofs.FaultLaws.{item_spelled}
use Rattle.flat_model.specs.Names.{FlatName, leads_to, links_of}
use Rattle.volume_image.specs.Subvolume.{make_key, extref_of}
use Rattle.volume_image.proofs.Lists.{in_nothing}
use Rattle.volume_image.proofs.Reaches.{head_in}
use Rattle.volume_image.proofs.Members.{in_filter, filter_in, in_map, flat_map_in}
use Rattle.image_faults.specs.Said.{read_list, is_own_ref, near_name, far_name, names_in, said_names}
use Rattle.image_faults.specs.Faulty.{AreReadable, StandOnce, HasRefsOnce}
use Rattle.image_faults.specs.Counts.{names_said}
use Rattle.image_faults.specs.Lists.{in_flat_map, permuted, once_map, once_filter, once_names}
use Rattle.image_faults.proofs.Rising.{not_below_itself}
use Rattle.image_faults.proofs.Readings.{name_set_has, name_set_gives, said_in_order}
use Rattle.image_faults.proofs.ExtentSums.{once_rising_in}
use Rattle.image_faults.proofs.FromNames.{all_at}

once_nothing : {X : Type 0} (xs : List X) → ((x : X) → Contains xs x → ⊥) → StandOnce xs
once_nothing [] none = tt
once_nothing (x ∷ xs) none = absurd (none x (head_in x xs))

-- ---- the names of one item

-- the key of an item with a name, or its ref
pub data IsSaidBy (item : Item) (name : FlatName) : Type 0 where
  IsNear : (key : item.0 ≡ make_key name.ino inode_ref name.dir) (near : name.near ≡ true) → IsSaidBy item name
  IsFar : (kind : item.0.kind ≡ inode_extref) (ino : item.0.objectid ≡ name.ino) (far : name.near ≡ false) (ref : Contains (read_list (extrefs_of item.1)) (extref_of name)) → IsSaidBy item name

said_by : (item : Item) (name : FlatName) → Contains (names_in item) name → IsSaidBy item name
said_by item name c = go (item.0.kind == inode_ref) refl (item.0.kind == inode_extref) refl c
  where
    go : (a : Bool) → (item.0.kind == inode_ref) ≡ a → (b : Bool) → (item.0.kind == inode_extref) ≡ b
        → Contains (cond a (map (near_name item.0) (filter (λ ref. not (is_own_ref item.0 ref)) (read_list (refs_of item.0 item.1)))) (cond b (map (far_name item.0) (read_list (extrefs_of item.1))) [])) name → IsSaidBy item name
    go true e b d c =
        let found = in_map (near_name item.0) (filter (λ ref. not (is_own_ref item.0 ref)) (read_list (refs_of item.0 item.1))) name c in
        let kind : item.0.kind ≡ inode_ref = eqb-true item.0.kind inode_ref e in
        IsNear (λ i. record { objectid = ap (λ (n : FlatName). n.ino) found.2 i; kind = kind i; offset = ap (λ (n : FlatName). n.dir) found.2 i }) (sym (ap (λ (n : FlatName). n.near) found.2))
    go false e true d c =
        let found = in_map (far_name item.0) (read_list (extrefs_of item.1)) name c in
        IsFar (eqb-true item.0.kind inode_extref d) (ap (λ (n : FlatName). n.ino) found.2) (sym (ap (λ (n : FlatName). n.near) found.2))
        (subst (λ (r : ExtRefValue). Contains (read_list (extrefs_of item.1)) r) (ap extref_of found.2) found.1)
    go false e false d c = absurd (in_nothing name c)

item_names_once : (item : Item) → HasRefsOnce item.0 item.1 → StandOnce (names_in item)
item_names_once item once = go (item.0.kind == inode_ref) refl (item.0.kind == inode_extref) refl
  where
    go : (a : Bool) → (item.0.kind == inode_ref) ≡ a → (b : Bool) → (item.0.kind == inode_extref) ≡ b
        → StandOnce (cond a (map (near_name item.0) (filter (λ ref. not (is_own_ref item.0 ref)) (read_list (refs_of item.0 item.1)))) (cond b (map (far_name item.0) (read_list (extrefs_of item.1))) []))
    go true e b d =
        once_map (near_name item.0) (filter (λ ref. not (is_own_ref item.0 ref)) (read_list (refs_of item.0 item.1)))
        (λ x y c f same. (λ i. record { index = ap (λ (n : FlatName). n.index) same i; name = ap (λ (n : FlatName). n.bytes) same i }))
        (once_filter (λ ref. not (is_own_ref item.0 ref)) (read_list (refs_of item.0 item.1)) (once.near (eqb-true item.0.kind inode_ref e)))
    go false e true d =
        once_map (far_name item.0) (read_list (extrefs_of item.1))
        (λ x y c f same. (λ i. record { parent = ap (λ (n : FlatName). n.dir) same i; index = ap (λ (n : FlatName). n.index) same i; name = ap (λ (n : FlatName). n.bytes) same i }))
        (once.far (eqb-true item.0.kind inode_extref d))
    go false e false d = tt

said_ino : (item : Item) (name : FlatName) → IsSaidBy item name → item.0.objectid ≡ name.ino
said_ino item name (IsNear key near) = ap (λ (k : Key). k.objectid) key
said_ino item name (IsFar kind ino far ref) = ino

-- ---- the names of one inode

module _ (items : List Item) (ino : ℕ) (ok : AreReadable items) (keys : (key : Key) (bytes : List ℕ) → Contains items (key, bytes) → key.objectid ≡ ino → HasItsKey key bytes)
    (once : (key : Key) (bytes : List ℕ) → Contains items (key, bytes) → key.objectid ≡ ino → HasRefsOnce key bytes) where
  abbrev mine : Item → List FlatName
  mine item = filter (leads_to ino) (names_in item)

  mine_from : (item : Item) (name : FlatName) → Contains (filter (leads_to ino) (names_in item)) name → IsSaidBy item name × (item.0.objectid ≡ ino)
  mine_from item name c =
      let kept = in_filter (leads_to ino) (names_in item) name c in
      let said = said_by item name kept.0 in
      (said, said_ino item name said ∙ eqb-true name.ino ino kept.1)

  each_once : (item : Item) → Contains items item → StandOnce (filter (leads_to ino) (names_in item))
  each_once item c = elim (cases_eq item.0.objectid ino) [
    | inl same ↦ once_filter (leads_to ino) (names_in item) (item_names_once item (once item.0 item.1 c same))
    | inr other ↦ once_nothing (filter (leads_to ino) (names_in item)) (λ name d. other (mine_from item name d).1)
  ]

  -- the hash of a far name is its item's
  far_hash : (item : Item) (name : FlatName) → Contains items item → item.0.objectid ≡ ino → item.0.kind ≡ inode_extref → Contains (read_list (extrefs_of item.1)) (extref_of name) → extref_hash_of name.dir name.bytes ≡ item.0.offset
  far_hash item name c same kind has =
      let spelled = (item_spelled item.0 item.1 (ok.bytes item.0 item.1 c) (ok.faultless item.0 item.1 c)).extrefs kind in
      all_at (λ (ref : ExtRefValue). extref_hash_of ref.parent ref.name ≡ item.0.offset) spelled.0 (extref_of name) ((keys item.0 item.1 c same).extrefs kind spelled.0 spelled.1)
      (subst (λ (rs : List ExtRefValue). Contains rs (extref_of name)) (ap read_list (extrefs_to item.1 spelled.0 spelled.1)) has)

  apart : (one two : Item) (name : FlatName) → Contains items one → Contains items two → KeyBelow one.0 two.0 → Contains (filter (leads_to ino) (names_in one)) name → Contains (filter (leads_to ino) (names_in two)) name → ⊥
  apart one two name c d below e f =
      let a = mine_from one name e in
      let b = mine_from two name f in
      not_below_itself one.0 two.0 (same a.0 a.1 b.0 b.1) below
    where
      same : IsSaidBy one name → one.0.objectid ≡ ino → IsSaidBy two name → two.0.objectid ≡ ino → one.0 ≡ two.0
      same (IsNear key near) i (IsNear key' near') j = key ∙ sym key'
      same (IsNear key near) i (IsFar kind ino' far ref) j = absurd (let no : true ≡ false = sym near ∙ far in cc)
      same (IsFar kind ino' far ref) i (IsNear key near) j = absurd (let no : true ≡ false = sym near ∙ far in cc)
      same (IsFar kind ino' far ref) i (IsFar kind' ino'' far' ref') j =
          let first = far_hash one name c i kind ref in
          let second = far_hash two name d j kind' ref' in
          λ k. record { objectid = (i ∙ sym j) k; kind = (kind ∙ sym kind') k; offset = (sym first ∙ second) k }

  all_once : StandOnce (flat_map (λ item. filter (leads_to ino) (names_in item)) items)
  all_once = once_rising_in (λ item. filter (leads_to ino) (names_in item)) items ok.rise each_once apart

  total : (some : List Item) → length (flat_map (λ item. filter (leads_to ino) (names_in item)) some) ≡ sum_by (names_said ino) some
  total [] = refl
  total (item ∷ some) =
      let joined = length-append (filter (leads_to ino) (names_in item)) (flat_map (λ other. filter (leads_to ino) (names_in other)) some) in
      let rest = total some in
      let sum = sum_by-cons (names_said ino) item some in
      omega arith

  pub links_are_said : links_of (said_names items) ino ≡ sum_by (names_said ino) items
  unfolding said_names
  links_are_said =
      let listed = flat_map (λ item. filter (leads_to ino) (names_in item)) items in
      let same = permuted listed (filter (leads_to ino) (said_names items)) all_once (once_filter (leads_to ino) (said_names items) (once_names (said_names items) (said_in_order items)))
      (λ name c.
      let found = in_flat_map (λ item. filter (leads_to ino) (names_in item)) items name c in
      let kept = in_filter (leads_to ino) (names_in found.0) name found.2 in
      filter_in (leads_to ino) (said_names items) name (name_set_has (flat_map names_in items) name (flat_map_in names_in items found.0 name found.1 kept.0)) kept.1)
      (λ name c.
      let kept = in_filter (leads_to ino) (said_names items) name c in
      let found = in_flat_map names_in items name (name_set_gives (flat_map names_in items) name kept.0) in
      flat_map_in (λ item. filter (leads_to ino) (names_in item)) items found.0 name found.1 (filter_in (leads_to ino) (names_in found.0) name found.2 kept.1)) in
      length_permutation listed (filter (leads_to ino) (said_names items)) same ∙ total items
