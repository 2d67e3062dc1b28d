-- How many items an inode's attributes have.
use Rattle.std.proofs.Common.{◌≡◌, ◌≢◌, ◌≤◌, ◌<◌, ◌^◌, ℕ, Bool, true, false, not, List, [], Contains, Option, Some, None, length, map, nat_eq, refl, sym, ap, subst, ◌∙◌, arith}
use Rattle.std.specs.FinMap.{entries, get, keys, nat_cmp-IsAntisymmetric, slice_cmp-IsAntisymmetric}
use Rattle.std.specs.Cmp.Lexicographic.{nat_list_cmp_total}
use Rattle.std.proofs.lemmas.Bool.{eq-eqb}
use Rattle.std.proofs.lemmas.Bool.Decides.{nat_tests}
use Rattle.std.proofs.lemmas.List.{length-map}
use Rattle.blk_base.specs.declared.key.Key.{Key}
use Rattle.blk_base.specs.Crc.{name_hash_of}
use Rattle.blk_base.specs.Entries.{EntryValue}
use Rattle.blk_base.specs.Keys.{key_below, xattr_item}
use Rattle.blk_base.specs.Leaf.{Item}
use Rattle.blk_base.specs.Trees.{ItemsRise}
use Rattle.blk_base.proofs.CrcLemmas.{name_hash_of-fits}
use Rattle.block_table.specs.declared.tree.Tree.{Tree}
use Rattle.block_table.specs.Table.{Table}
use Rattle.tree_range.specs.Between.{items_from}
use Rattle.tree_range.specs.Shape.{tree_items}
use Rattle.cow_tree.proofs.Items.{rise_filter}
use Rattle.flat_model.specs.Needs.{attribute_hashes, attribute_items}
use Rattle.flat_model.specs.Records.{InodeRecord, attributes_of}
use Rattle.flat_model.specs.Volume.{Subvolume}
use Rattle.flat_model.proofs.Maps.{some_none, some_same}
use Rattle.volume_image.specs.Subvolume.{AreItemsOf, Data, attributes_asked, make_key}
use Rattle.volume_image.proofs.Asked.{asked_attributes}
use Rattle.volume_image.proofs.Members.{filter_in, in_filter, in_get, in_map, map_in, not_empty}
use Rattle.table_volume.specs.Gives.{data_in}
use Rattle.inode_removal.proofs.Counting.{few_different}
use Rattle.inode_removal.proofs.OwnItems.{HasHash, entries_some, has_hash}
use Rattle.attribute_items.proofs.Hashed.{in_asked}
use Rattle.attribute_items.proofs.Items.{record_there}
use Rattle.name_walk.specs.Given.{GivesCoherent}
use Rattle.operation_needs.specs.Items.{attribute_items_there, attributes_between}
use Rattle.operation_needs.proofs.Counting.{AreWithin, few_within, many_different, once_within}

-- ---- keys of one inode's attributes

not_true : (b : Bool) → not b ≡ true → b ≡ false
not_true true h = sym h
not_true false h = refl

objectid_of : (ino from to : ℕ) (key : Key) → key_below key (make_key ino xattr_item from) ≡ false → key_below (make_key ino xattr_item to) key ≡ false → key.objectid ≡ ino
objectid_of ino from to key a b = grind (arith, nat_tests)

kind_of : (ino from to : ℕ) (key : Key) → key.objectid ≡ ino → key_below key (make_key ino xattr_item from) ≡ false → key_below (make_key ino xattr_item to) key ≡ false → key.kind ≡ xattr_item
kind_of ino from to key o a b = grind (arith, nat_tests)

high_of : (ino to : ℕ) (key : Key) → key.objectid ≡ ino → key.kind ≡ xattr_item → key_below (make_key ino xattr_item to) key ≡ false → key.offset ≤ to
high_of ino to key o k a = grind (arith, nat_tests)

not_below : (ino a b : ℕ) → a ≤ b → key_below (make_key ino xattr_item b) (make_key ino xattr_item a) ≡ false
not_below ino a b h = grind (arith, nat_tests)

pub record IsOf (ino : ℕ) (key : Key) : Type 0 where
  pub objectid : key.objectid ≡ ino
  pub kind : key.kind ≡ xattr_item
  pub high : key.offset < 2 ^ 32

pub in_attributes : (items : List Item) (ino : ℕ) (item : Item) → Contains (attributes_between items ino) item → Contains items item × IsOf ino item.0
in_attributes items ino item c =
    let first = make_key ino xattr_item 0 in
    let last = make_key ino xattr_item 4294967295 in
    let up = in_filter (λ (x : Item). not (key_below last x.0)) (items_from first items) item c in
    let down = in_filter (λ (x : Item). not (key_below x.0 first)) items item up.0 in
    let low : key_below item.0 first ≡ false = not_true (key_below item.0 first) down.1 in
    let high : key_below last item.0 ≡ false = not_true (key_below last item.0) up.1 in
    let o = objectid_of ino 0 4294967295 item.0 low high in
    let k = kind_of ino 0 4294967295 item.0 o low high in
    let h = high_of ino 4294967295 item.0 o k high in
    (down.0, record { objectid = o; kind = k; high = omega (arith, h) })

pub attributes_in : (items : List Item) (ino hash : ℕ) (bytes : List ℕ) → Contains items (make_key ino xattr_item hash, bytes) → hash < 2 ^ 32 → Contains (attributes_between items ino) (make_key ino xattr_item hash, bytes)
attributes_in items ino hash bytes c small =
    let first = make_key ino xattr_item 0 in
    let last = make_key ino xattr_item 4294967295 in
    let item : Item = (make_key ino xattr_item hash, bytes) in
    filter_in (λ (x : Item). not (key_below last x.0)) (items_from first items) item
    (filter_in (λ (x : Item). not (key_below x.0 first)) items item c (ap not (not_below ino 0 hash (omega arith))))
    (ap not (not_below ino hash 4294967295 (omega (arith, small))))

rise_between : (items : List Item) (ino : ℕ) → ItemsRise items → ItemsRise (attributes_between items ino)
rise_between items ino rise =
    rise_filter (λ (x : Item). not (key_below (make_key ino xattr_item 4294967295) x.0)) (items_from (make_key ino xattr_item 0) items)
    (rise_filter (λ (x : Item). not (key_below x.0 (make_key ino xattr_item 0))) items rise)

pub are_within : (items : List Item) (ino : ℕ) → ItemsRise items → AreWithin ino xattr_item 0 (2 ^ 32) (attributes_between items ino)
are_within items ino rise = record {
  rise = rise_between items ino rise;
  objectid = λ item c. (in_attributes items ino item c).1.objectid;
  kind_is = λ item c. (in_attributes items ino item c).1.kind;
  from = λ item c. omega arith;
  to = λ item c. (in_attributes items ino item c).1.high;
}

pub few_attributes : (items : List Item) (ino : ℕ) → ItemsRise items → length (attributes_between items ino) ≤ 2 ^ 32
few_attributes items ino rise = let few = few_within ino xattr_item 0 (2 ^ 32) (attributes_between items ino) (are_within items ino rise) (omega arith) in omega (arith, few)

-- ---- as many as there are hashes

offsets : List Item → ℕ → List ℕ
offsets items ino = map (λ (item : Item). item.0.offset) (attributes_between items ino)

module _ (items : List Item) (blocks : Data) (sub : Subvolume) (ino : ℕ) (rise : ItemsRise items) (are : AreItemsOf items blocks sub) where
  -- the hash of each of the items is one of the inode's
  hash_there : (item : Item) → Contains (attributes_between items ino) item → HasHash sub ino item.0.offset
  hash_there item c =
      let is = in_attributes items ino item c in
      let asked = asked_attributes sub blocks item.0 item.1 is.1.kind (are.only item.0 item.1 is.0) in
      let found = has_hash sub item.0.objectid item.0.offset (entries_some asked.found _ asked.spelled.some asked.same) in
      subst (λ (other : ℕ). HasHash sub other item.0.offset) is.1.objectid found

  few_hashes : (within : List ℕ) → ((item : Item) → Contains (attributes_between items ino) item → Contains within item.0.offset) → (within_count : ℕ) → within_count ≡ Rattle.flat_model.specs.Needs.count_different within → length (attributes_between items ino) ≤ within_count
  unfolding offsets
  few_hashes within each count is =
      let once = once_within ino xattr_item 0 (2 ^ 32) (attributes_between items ino) (are_within items ino rise) in
      let long = length-map (attributes_between items ino) (λ (item : Item). item.0.offset) in
      let few = few_different within (offsets items ino) once (λ offset c.
      let from = in_map (λ (item : Item). item.0.offset) (attributes_between items ino) offset c in
      subst (λ (n : ℕ). Contains within n) from.2 (each from.0 from.1)) in
      omega (arith, long, few, is)

  module _ (inode : InodeRecord) (here : get sub.inodes ino ≡ Some inode) where
    at_most : length (attributes_between items ino) ≤ attribute_items (attributes_of inode)
    at_most = few_hashes (attribute_hashes (attributes_of inode)) (λ item c.
        let found = hash_there item c in
        let same : found.inode ≡ inode = some_same found.inode inode (sym found.there ∙ here) in
        let among : Contains (entries (attributes_of inode)) found.attribute = subst (λ (r : InodeRecord). Contains (entries (attributes_of r)) found.attribute) same found.has in
        subst (λ (n : ℕ). Contains (attribute_hashes (attributes_of inode)) n) found.hashed
        (map_in name_hash_of (keys (attributes_of inode)) found.attribute.0 (map_in (λ (e : List ℕ × List ℕ). e.0) (entries (attributes_of inode)) found.attribute among)))
        (attribute_items (attributes_of inode)) refl

    at_least : ((name value : List ℕ) → get (attributes_of inode) name ≡ Some value → name_hash_of name < 2 ^ 32) → attribute_items (attributes_of inode) ≤ length (attributes_between items ino)
    unfolding offsets
    at_least small =
        let long = length-map (attributes_between items ino) (λ (item : Item). item.0.offset) in
        let many = many_different (attribute_hashes (attributes_of inode)) (offsets items ino) (λ hash c.
        let name = in_map name_hash_of (keys (attributes_of inode)) hash c in
        let entry = in_map (λ (e : List ℕ × List ℕ). e.0) (entries (attributes_of inode)) name.0 name.1 in
        let value = in_get nat_list_cmp_total (slice_cmp-IsAntisymmetric nat_cmp-IsAntisymmetric) (attributes_of inode) entry.0.0 entry.0.1 entry.1 in
        let is : name_hash_of entry.0.0 ≡ hash = ap name_hash_of entry.2 ∙ name.2 in
        let asked = in_asked (attributes_of inode) hash entry.0.0 entry.0.1 value is in
        let some : attributes_asked sub ino hash ≢ [] = λ none. not_empty _ _ asked (sym (record_there sub ino hash inode here) ∙ none) in
        let has = are.attributes ino hash some in
        let fits : hash < 2 ^ 32 = subst (λ (h : ℕ). h < 2 ^ 32) is (small entry.0.0 entry.0.1 value) in
        map_in (λ (item : Item). item.0.offset) (attributes_between items ino) (make_key ino xattr_item hash, has.0) (attributes_in items ino hash has.0 has.1 fits)) in
        omega (arith, long, many)

pub attributes_are : (table : Table) (tree : Tree) (sub : Subvolume) (ino : ℕ) → GivesCoherent table tree sub → length (attributes_between (tree_items table tree) ino) ≡ attribute_items_there (get sub.inodes ino)
attributes_are table tree sub ino given = go (get sub.inodes ino) refl
  where
    items : List Item
    items = tree_items table tree

    rise : ItemsRise (tree_items table tree)
    rise = given.gives.tree_in.order

    go : (o : Option InodeRecord) → get sub.inodes ino ≡ o → length (attributes_between (tree_items table tree) ino) ≡ attribute_items_there o
    go None absent =
        let few = few_hashes (tree_items table tree) (data_in table) sub ino rise given.gives.items [] (λ item c. let found = hash_there (tree_items table tree) (data_in table) sub ino rise given.gives.items item c in absurd (some_none found.inode (sym found.there ∙ absent))) 0 refl in
        omega (arith, few)
    go (Some inode) here =
        let most = at_most (tree_items table tree) (data_in table) sub ino rise given.gives.items inode here in
        let least = at_least (tree_items table tree) (data_in table) sub ino rise given.gives.items inode here (λ name value has. name_hash_of-fits name ((given.coherent.limits ino inode here).attributes name value has).0.1) in
        omega (arith, most, least)
