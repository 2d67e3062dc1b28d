-- How many items an inode without names has.
use Rattle.std.proofs.Common.{◌≡◌, ◌≤◌, ◌<◌, ◌+◌, ◌*◌, ◌/◌, ◌⊎◌, ℕ, true, List, [], ◌∷◌, Contains, Option, Some, None, filter, length, map, nat_eq, refl, sym, ap, subst, ◌∙◌, arith, inl, inr}
use Rattle.std.specs.FinMap.{entries, get, keys, len-entries, nat_cmp-IsAntisymmetric}
use Rattle.std.specs.Cmp.{nat_cmp_total}
use Rattle.std.proofs.lemmas.Bool.{eq-eqb, eqb-true, ne_eqb}
use Rattle.std.proofs.lemmas.List.{length-map}
use Rattle.std.proofs.lemmas.List.Elements.{All-contains}
use Rattle.blk_base.specs.declared.key.Key.{Key}
use Rattle.blk_base.specs.Keys.{KeyBelow, extent_data, inode_item, xattr_item}
use Rattle.blk_base.specs.Crc.{name_hash_of}
use Rattle.blk_base.specs.Leaf.{Item}
use Rattle.blk_base.specs.Trees.{ItemsRise, NoneTwice}
use Rattle.leaf_view.specs.KeyOrder.{KeyBelow_parts}
use Rattle.tree_range.proofs.Rise.{rise_head, rise_tail}
use Rattle.cow_tree.proofs.Items.{rise_filter}
use Rattle.flat_model.specs.Needs.{attribute_hashes, attribute_items, blocks_and_items, blocks_and_items_there, count_different}
use Rattle.flat_model.specs.Records.{Blocks, DirInode, FileInode, InodeRecord, LinkInode, attributes_of}
use Rattle.flat_model.specs.Volume.{Subvolume}
use Rattle.flat_model.proofs.Maps.{some_none, some_same}
use Rattle.volume_image.specs.Subvolume.{Data, IsAsked, IsExtentOf}
use Rattle.volume_image.proofs.Asked.{asked_attributes, asked_extent, asked_inode}
use Rattle.volume_image.proofs.Members.{get_in, in_filter, in_map, map_in}
use Rattle.volume_image.proofs.Reaches.{head_in, tail_in}
use Rattle.inode_removal.specs.Removal.{MayRemoveInode}
use Rattle.inode_removal.proofs.Counting.{different_most, few_different}
use Rattle.inode_removal.proofs.OwnItems.{entries_some, has_hash, kind_of_item}

-- those of one kind
of_kind : ℕ → List Item → List Item
of_kind kind items = filter (λ item. nat_eq item.0.kind kind) items

offsets : List Item → List ℕ
offsets items = map (λ item. item.0.offset) items

-- the items are of one inode, and the subvolume asks for each of them
pub record AreOf (sub : Subvolume) (blocks : Data) (ino : ℕ) (items : List Item) : Type 0 where
  pub rise : ItemsRise items
  pub each : (key : Key) (bytes : List ℕ) → Contains items (key, bytes) → (key.objectid ≡ ino) × IsAsked sub blocks key bytes

-- ---- by their kinds

by_kinds : (items : List Item) → ((item : Item) → Contains items item → (item.0.kind ≡ inode_item) ⊎ ((item.0.kind ≡ xattr_item) ⊎ (item.0.kind ≡ extent_data)))
    → length items ≤ length (of_kind inode_item items) + (length (of_kind xattr_item items) + length (of_kind extent_data items))
unfolding of_kind
by_kinds [] each = omega arith
by_kinds (x ∷ xs) each =
    let rest = by_kinds xs (λ item c. each item (tail_in x item xs c)) in
    elim (each x (head_in x xs)) [
      | inl one ↦ rw (eq-eqb x.0.kind inode_item one, ne_eqb x.0.kind xattr_item (λ e. absurd (omega (arith, e, one))), ne_eqb x.0.kind extent_data (λ e. absurd (omega (arith, e, one)))) (omega (arith, rest))
      | inr other ↦ elim other [
        | inl two ↦ rw (ne_eqb x.0.kind inode_item (λ e. absurd (omega (arith, e, two))), eq-eqb x.0.kind xattr_item two, ne_eqb x.0.kind extent_data (λ e. absurd (omega (arith, e, two)))) (omega (arith, rest))
        | inr three ↦ rw (ne_eqb x.0.kind inode_item (λ e. absurd (omega (arith, e, three))), ne_eqb x.0.kind xattr_item (λ e. absurd (omega (arith, e, three))), eq-eqb x.0.kind extent_data three) (omega (arith, rest))
      ]
    ]

-- no two items of one inode and kind have one offset
once_offsets : (ino kind : ℕ) (items : List Item) → ItemsRise items → ((item : Item) → Contains items item → (item.0.objectid ≡ ino) × (item.0.kind ≡ kind)) → NoneTwice (offsets items)
unfolding offsets
once_offsets ino kind [] rise each = tt
once_offsets ino kind (x ∷ xs) rise each = (
  λ twice.
      let from = in_map (λ (item : Item). item.0.offset) xs x.0.offset twice in
      let below = All-contains (λ (item : Item). KeyBelow x.0 item.0) xs from.0 (rise_head x xs rise) from.1 in
      let parts = KeyBelow_parts x.0 from.0.0 below in
      let one = each x (head_in x xs) in
      let two = each from.0 (tail_in x from.0 xs from.1) in
      let same = from.2 in
      absurd (grind (arith, parts, one, two, same)),
  once_offsets ino kind xs (rise_tail x xs rise) (λ item c. each item (tail_in x item xs c)),
)

module _ (sub : Subvolume) (blocks : Data) (ino : ℕ) (items : List Item) (are : AreOf sub blocks ino items) where
  few_of_kind : (kind : ℕ) (within : List ℕ) → ((key : Key) (bytes : List ℕ) → key.objectid ≡ ino → key.kind ≡ kind → Contains items (key, bytes) → IsAsked sub blocks key bytes → Contains within key.offset)
      → length (of_kind kind items) ≤ count_different within
  unfolding of_kind offsets
  few_of_kind kind within each =
      let kept : (item : Item) → Contains (of_kind kind items) item → Contains items item × (nat_eq item.0.kind kind ≡ true) = λ item c. in_filter (λ (item : Item). nat_eq item.0.kind kind) items item c in
      let rise : ItemsRise (of_kind kind items) = rise_filter (λ (item : Item). nat_eq item.0.kind kind) items are.rise in
      let once = once_offsets ino kind (of_kind kind items) rise (λ item c. ((are.each item.0 item.1 (kept item c).0).0, eqb-true item.0.kind kind (kept item c).1)) in
      let long = length-map (of_kind kind items) (λ (item : Item). item.0.offset) in
      let few = few_different within (offsets (of_kind kind items)) once (λ offset c.
      let from = in_map (λ (item : Item). item.0.offset) (of_kind kind items) offset c in
      let item = kept from.0 from.1 in
      let asked = are.each from.0.0 from.0.1 item.0 in
      subst (λ (n : ℕ). Contains within n) from.2 (each from.0.0 from.0.1 asked.0 (eqb-true from.0.0.kind kind item.1) item.0 asked.1)) in
      omega (arith, long, few)

  one_inode : length (of_kind inode_item items) ≤ 1
  one_inode =
      few_of_kind inode_item (0 ∷ []) (λ key bytes is kind there asked. subst (λ (n : ℕ). Contains (0 ∷ []) n) (sym (asked_inode sub blocks key bytes kind asked).1) (head_in 0 []))

  module _ (inode : InodeRecord) (here : get sub.inodes ino ≡ Some inode) where
    few_attributes : length (of_kind xattr_item items) ≤ attribute_items (attributes_of inode)
    few_attributes =
        few_of_kind xattr_item (attribute_hashes (attributes_of inode)) (λ key bytes is kind there asked.
        let has = asked_attributes sub blocks key bytes kind asked in
        let found = has_hash sub key.objectid key.offset (entries_some has.found _ has.spelled.some has.same) in
        let same : found.inode ≡ inode = some_same found.inode inode (sym found.there ∙ ap (get sub.inodes) is ∙ here) in
        let among : Contains (entries (attributes_of inode)) found.attribute = subst (λ (r : InodeRecord). Contains (entries (attributes_of r)) found.attribute) same found.has in
        subst (λ (n : ℕ). Contains (attribute_hashes (attributes_of inode)) n) found.hashed
        (map_in name_hash_of (keys (attributes_of inode)) found.attribute.0 (map_in (λ (e : List ℕ × List ℕ). e.0) (entries (attributes_of inode)) found.attribute among)))

    -- the offsets of the blocks of a file
    starts : Blocks → List ℕ
    starts there = map (λ n. 4096 * n) (keys there)

    extent_of_inode : (key : Key) (bytes : List ℕ) → key.objectid ≡ ino → key.kind ≡ extent_data → IsAsked sub blocks key bytes → IsExtentOf blocks inode key bytes
    extent_of_inode key bytes is kind asked =
        let says = asked_extent sub blocks key bytes kind asked in
        subst (λ (r : InodeRecord). IsExtentOf blocks r key bytes) (some_same says.0 inode (sym says.1 ∙ ap (get sub.inodes) is ∙ here)) says.2

  few_extents : (inode : InodeRecord) → get sub.inodes ino ≡ Some inode → length (of_kind extent_data items) + attribute_items (attributes_of inode) ≤ blocks_and_items inode
  unfolding starts
  few_extents (FileInode file) here =
      let few = few_of_kind extent_data (starts (FileInode file) here file.blocks) (λ key bytes is kind there asked.
      let extent = extent_of_inode (FileInode file) here key bytes is kind asked in
      let run = extent.2.9 in
      let whole = extent.2.10 in
      let some : 0 < extent.1 / 4096 = omega (arith, run.0, run.1) in
      let block = extent.3 0 some in
      let among = map_in (λ (e : ℕ × List ℕ). e.0) (entries file.blocks) (key.offset / 4096 + 0, block.0) (get_in nat_cmp_total nat_cmp-IsAntisymmetric file.blocks (key.offset / 4096 + 0) block.0 block.2) in
      let same : 4096 * (key.offset / 4096 + 0) ≡ key.offset = omega (arith, whole) in
      subst (λ (n : ℕ). Contains (map (λ n. 4096 * n) (keys file.blocks)) n) same (map_in (λ (n : ℕ). 4096 * n) (keys file.blocks) (key.offset / 4096 + 0) among)) in
      let most = different_most (starts (FileInode file) here file.blocks) in
      let long = length-map (keys file.blocks) (λ (n : ℕ). 4096 * n) in
      let keys_long = length-map (entries file.blocks) (λ (e : ℕ × List ℕ). e.0) in
      let size = len-entries file.blocks in
      omega (arith, few, most, long, keys_long, size)
  few_extents (DirInode dir) here =
      let few = few_of_kind extent_data [] (λ key bytes is kind there asked. absurd (extent_of_inode (DirInode dir) here key bytes is kind asked)) in
      omega (arith, few)
  few_extents (LinkInode link) here =
      let few = few_of_kind extent_data (0 ∷ []) (λ key bytes is kind there asked.
      subst (λ (n : ℕ). Contains (0 ∷ []) n) (sym (extent_of_inode (LinkInode link) here key bytes is kind asked).5) (head_in 0 [])) in
      omega (arith, few)

  no_more : get sub.inodes ino ≡ None → (length (of_kind xattr_item items) ≤ 0) × (length (of_kind extent_data items) ≤ 0)
  no_more absent = (
    few_of_kind xattr_item [] (λ key bytes is kind there asked.
        let has = asked_attributes sub blocks key bytes kind asked in
        let found = has_hash sub key.objectid key.offset (entries_some has.found _ has.spelled.some has.same) in
        absurd (some_none found.inode (sym found.there ∙ ap (get sub.inodes) is ∙ absent))),
    few_of_kind extent_data [] (λ key bytes is kind there asked.
        let says = asked_extent sub blocks key bytes kind asked in
        absurd (some_none says.0 (sym says.1 ∙ ap (get sub.inodes) is ∙ absent))),
  )

  pub few_items : MayRemoveInode sub ino → length items ≤ 1 + blocks_and_items_there (get sub.inodes ino)
  few_items may = go (get sub.inodes ino) refl
    where
      all : length items ≤ length (of_kind inode_item items) + (length (of_kind xattr_item items) + length (of_kind extent_data items))
      all = by_kinds items (λ item c. let asked = are.each item.0 item.1 c in kind_of_item sub blocks ino may item.0 item.1 asked.0 asked.1)

      go : (o : Option InodeRecord) → get sub.inodes ino ≡ o → length items ≤ 1 + blocks_and_items_there o
      go None absent = let none = no_more absent in let one = one_inode in let sum = all in omega (arith, none.0, none.1, one, sum)
      go (Some inode) here =
          let one = one_inode in
          let two = few_attributes inode here in
          let three = few_extents inode here in
          let sum = all in
          omega (arith, one, two, three, sum)
