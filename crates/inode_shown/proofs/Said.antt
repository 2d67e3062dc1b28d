-- The attributes that the items of an inode say are the inode's.
use Rattle.std.proofs.Common.{◌≡◌, ◌-◌, ◌^◌, ℕ, List, [], ◌∷◌, map, Contains, Option, Some, refl, sym, ap, subst, ◌∙◌, arith}
use Rattle.std.specs.Borrow.{Bor}
use Rattle.std.specs.BTreeMap.{insert_entry}
use Rattle.std.specs.declared.cmp.Ordering.TheVariants.{Less, Equal, Greater}
use Rattle.std.specs.Ordering.{nat_cmp, match_ordering}
use Rattle.std.specs.Cmp.Lexicographic.{slice_cmp, nat_list_cmp_total}
use Rattle.std.specs.FinMap.{entries, get}
use Rattle.std.specs.FinMap.Entries.{put, by_order}
use Rattle.std.specs.List.{flat_map}
use Rattle.blk_base.specs.declared.key.Key.{Key}
use Rattle.blk_base.specs.Crc.{name_hash_of}
use Rattle.blk_base.specs.Entries.{EntryValue, entries_of}
use Rattle.blk_base.specs.Keys.{xattr_item}
use Rattle.blk_base.specs.Leaf.{Item}
use Rattle.blk_base.proofs.CrcLemmas.{name_hash_of-fits}
use Rattle.flat_model.specs.Coherent.{IsCoherent}
use Rattle.flat_model.specs.Records.{InodeRecord, attributes_of}
use Rattle.flat_model.specs.Volume.{Subvolume}
use Rattle.volume_image.specs.Subvolume.{AreItemsOf, Data, attribute_entry, attributes_asked, attributes_there, make_key, without_transid}
use Rattle.volume_image.proofs.Asked.{asked_attributes}
use Rattle.volume_image.proofs.Members.{flat_map_in, get_in, in_get, in_map, map_in, not_empty}
use Rattle.image_faults.specs.Lists.{in_flat_map}
use Rattle.image_faults.specs.Said.{read_list}
use Rattle.image_faults.proofs.Asking.{asked_attribute, with_attribute}
use Rattle.image_faults.proofs.Held.{asked_from, asked_to}
use Rattle.image_faults.proofs.OfInodes.{bytes_one}
use Rattle.tree_range.specs.Between.{items_between}
use Rattle.inode_shown.specs.Attributes.{attribute_told, attributes_between, attributes_told, lent_pair, lent_pairs}
use Rattle.inode_shown.specs.Putting.{all_put}
use Rattle.inode_shown.proofs.Between.{between_gives, between_has}
use Rattle.inode_shown.proofs.Putting.{put_both, put_gives}

-- an entry that is lent, put into its place
lent_put : (es : List (Bor (List ℕ) × Bor (List ℕ))) (k v : Bor (List ℕ)) → lent_pairs (insert_entry (λ x y. slice_cmp nat_cmp x.now y.now) es k v) ≡ put (slice_cmp nat_cmp) k.now v.now (lent_pairs es)
lent_put [] k v = refl
lent_put (e ∷ es) k v =
    elim (slice_cmp nat_cmp k.now e.0.now) as (λ o. lent_pairs (match_ordering o ((k, v) ∷ e ∷ es) ((e.0, v) ∷ es) (e ∷ insert_entry (λ x y. slice_cmp nat_cmp x.now y.now) es k v)) ≡ by_order o ((k.now, v.now) ∷ lent_pair e ∷ lent_pairs es) ((e.0.now, v.now) ∷ lent_pairs es) (lent_pair e ∷ put (slice_cmp nat_cmp) k.now v.now (lent_pairs es))) [
      | Less ↦ refl
      | Equal ↦ refl
      | Greater ↦ ap (λ (l : List (List ℕ × List ℕ)). lent_pair e ∷ l) (lent_put es k v)
    ]

-- one attribute more
pub one_put : (old new : List (Bor (List ℕ) × Bor (List ℕ))) (k v : Bor (List ℕ)) (first : EntryValue) (left rest : List EntryValue) (whole : List (List ℕ × List ℕ)) → all_put (lent_pairs old) (map attribute_told left) ≡ whole
    → left ≡ first ∷ rest → k.now ≡ first.name → v.now ≡ first.value → new ≡ insert_entry (λ x y. slice_cmp nat_cmp x.now y.now) old k v → all_put (lent_pairs new) (map attribute_told rest) ≡ whole
one_put old new k v first left rest whole before is name value now =
    ap (λ (es : List (Bor (List ℕ) × Bor (List ℕ))). all_put (lent_pairs es) (map attribute_told rest)) now
    ∙ ap (λ (es : List (List ℕ × List ℕ)). all_put es (map attribute_told rest)) (lent_put old k v ∙ (λ i. put (slice_cmp nat_cmp) (name i) (value i) (lent_pairs old)))
    ∙ ap (λ (xs : List EntryValue). all_put (lent_pairs old) (map attribute_told xs)) (sym is) ∙ before

-- those of one item more
pub item_put : (old new : List (List ℕ × List ℕ)) (first : Item) (left rest : List Item) (whole : List (List ℕ × List ℕ)) → all_put old (flat_map (λ (item : Item). attributes_told item.1) left) ≡ whole
    → left ≡ first ∷ rest → new ≡ all_put old (attributes_told first.1) → all_put new (flat_map (λ (item : Item). attributes_told item.1) rest) ≡ whole
item_put old new first left rest whole before is now =
    ap (λ (es : List (List ℕ × List ℕ)). all_put es (flat_map (λ (item : Item). attributes_told item.1) rest)) now
    ∙ sym (put_both old (attributes_told first.1) (flat_map (λ (item : Item). attributes_told item.1) rest))
    ∙ ap (λ (xs : List Item). all_put old (flat_map (λ (item : Item). attributes_told item.1) xs)) (sym is) ∙ before

module _ (items : List Item) (blocks : Data) (sub : Subvolume) (are : AreItemsOf items blocks sub) (whole : IsCoherent sub) (ino : ℕ) (inode : InodeRecord) (there : get sub.inodes ino ≡ Some inode) where
  abbrev between : List Item
  between = items_between (make_key ino xattr_item 0) (make_key ino xattr_item (2 ^ 64 - 1)) items

  forth : (name value : List ℕ) → Contains (attributes_between items ino) (name, value) → get (attributes_of inode) name ≡ Some value
  forth name value c =
      let found = in_flat_map (λ (item : Item). attributes_told item.1) between (name, value) c in
      let item = found.0 in
      let at = between_gives items ino xattr_item (2 ^ 64 - 1) item found.1 in
      let key = make_key ino xattr_item item.0.offset in
      let stands : Contains items (key, item.1) = subst (λ (k : Key). Contains items (k, item.1)) at.1 at.0 in
      let p = in_map attribute_told (read_list (entries_of xattr_item item.1)) (name, value) found.2 in
      let has = asked_attributes sub blocks key item.1 refl (are.only key item.1 stands) in
      let pair = with_attribute sub ino item.0.offset (without_transid p.0) (asked_from xattr_item item.1 (attributes_asked sub ino item.0.offset) has p.0 p.1) in
      let same : pair.0 ≡ (name, value) = (λ i. (ap (λ (e : EntryValue). e.name) pair.3 i, ap (λ (e : EntryValue). e.value) pair.3 i)) ∙ p.2 in
      in_get nat_list_cmp_total bytes_one (attributes_of inode) name value
      (subst (λ (z : List ℕ × List ℕ). Contains (attributes_there (Some inode)) z) same (subst (λ (o : Option InodeRecord). Contains (attributes_there o) pair.0) there pair.1))

  back : (name value : List ℕ) → get (attributes_of inode) name ≡ Some value → Contains (attributes_between items ino) (name, value)
  back name value h =
      let asked = asked_attribute sub ino (name, value) (subst (λ (o : Option InodeRecord). Contains (attributes_there o) (name, value)) (sym there) (get_in nat_list_cmp_total bytes_one (attributes_of inode) name value h)) in
      let hash = name_hash_of name in
      let item = are.attributes ino hash (not_empty (attribute_entry (name, value)) (attributes_asked sub ino hash) asked) in
      let key = make_key ino xattr_item hash in
      let has = asked_attributes sub blocks key item.0 refl (are.only key item.0 item.1) in
      let found = asked_to xattr_item item.0 (attributes_asked sub ino hash) has (attribute_entry (name, value)) asked in
      let same : ◌≡◌ {A = List ℕ × List ℕ} (attribute_told found.0) (name, value) = (λ i. (ap (λ (e : EntryValue). e.name) found.2 i, ap (λ (e : EntryValue). e.value) found.2 i)) in
      let fits = name_hash_of-fits name ((whole.limits ino inode there).attributes name value h).0.1 in
      let stands = between_has items ino xattr_item (2 ^ 64 - 1) hash item.0 item.1 (omega (arith, fits)) in
      subst (λ (z : List ℕ × List ℕ). Contains (attributes_between items ino) z) same
      (flat_map_in (λ (item : Item). attributes_told item.1) between (key, item.0) (attribute_told found.0) stands
      (map_in attribute_told (read_list (entries_of xattr_item item.0)) found.0 found.1))

  pub attributes_are : all_put [] (attributes_between items ino) ≡ entries (attributes_of inode)
  attributes_are = put_gives (attributes_between items ino) (attributes_of inode) forth back
