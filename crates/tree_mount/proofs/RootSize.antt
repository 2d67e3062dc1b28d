-- How many blocks a root tree has: a leaf has room for eight root items.
use Rattle.std.proofs.Common.{◌≡◌, ◌≤◌, ◌<◌, ◌+◌, ◌*◌, ◌-◌, ◌/◌, ℕ, zero, suc, true, List, [], ◌∷◌, length, map, take, drop, slice_get, Contains, Some, refl, sym, ap, subst, ◌∙◌, arith, inl, inr, length-append}
use Rattle.std.specs.List.{flat_map, range_with_len}
use Rattle.std.proofs.lemmas.Bool.{cases_eq, cases_lt}
use Rattle.std.proofs.lemmas.List.FromFn.{get_or-range_with_len, length-map-range_with_len, length-range_with_len}
use Rattle.blk_base.specs.declared.format.TheConstants.{HEADER_SIZE}
use Rattle.blk_base.specs.Items.{RootValue}
use Rattle.blk_base.specs.Leaf.{HasByte, IsLeafBody, Item, Pointer, item_of, item_offset, item_size}
use Rattle.blk_base.specs.Superblock.{SuperValue}
use Rattle.blk_base.specs.declared.key.Want.{Want}
use Rattle.block_table.specs.declared.tree.Tree.{Tree}
use Rattle.block_table.specs.Table.{Table}
use Rattle.block_table.specs.TreeIn.{block_at}
use Rattle.format_laws.specs.Blocks.{IsLeafBody-from_read}
use Rattle.image_faults.specs.Lists.{fewer, once_map}
use Rattle.tree_frame.proofs.Counting.{few_blocks_in_tree}
use Rattle.tree_range.specs.Shape.{IsSubtree, IsTree, items_below, leaf_items, node_pointers, reach_below, tree_items, tree_reach}
use Rattle.tree_range.proofs.Bodies.{leaf_body_is}
use Rattle.volume_image.specs.Roots.{AreRootItems}
use Rattle.volume_image.proofs.Members.{in_map}
use Rattle.volume_image.proofs.RootItems.{length-subvolume_ids, roots_are_read}
use Rattle.flat_model.specs.Volume.{subvolume_ids}
use Rattle.tree_mount.specs.Roots.{AreRootsRead}
use Rattle.tree_mount.proofs.Given.{range_once}
use Rattle.tree_mount.proofs.RootItems.{wants_long}

-- ---- places in a range

in_range : (n x : ℕ) → x < n → Contains (range_with_len 0 n) x
in_range n x below = let same : 0 + x ≡ x = omega arith in (x, omega (arith, below, length-range_with_len 0 n), get_or-range_with_len 0 n x x below ∙ same)

within : (n x : ℕ) → Contains (range_with_len 0 n) x → x < n
within n x c =
    let long = length-range_with_len 0 n in
    let inside = c.1 in
    let below : c.0 < n = omega (arith, long, inside) in
    let place : 0 + c.0 ≡ x = sym (get_or-range_with_len 0 n c.0 x below) ∙ c.2 in
    omega (arith, below, place)

take_short : (n : ℕ) (bytes : List ℕ) → length (take n bytes) ≤ n
take_short zero bytes = omega arith
take_short (suc n) [] = omega arith
take_short (suc n) (byte ∷ bytes) = let rest = take_short n bytes in omega arith

-- ---- a leaf has room for eight items of 439 bytes

-- the data of an item of 439 bytes or more have one of a leaf's bytes 525, 964 and so on, each 439 behind the one before
marked : (offset size : ℕ) → 225 ≤ offset → 439 ≤ size → (offset ≤ 525 + 439 * ((offset - 87) / 439)) × (525 + 439 * ((offset - 87) / 439) < offset + size)
marked offset size low long = (omega arith, omega arith)

-- of these eight are in a leaf with data
one_of_eight : (offset size : ℕ) → 439 ≤ size → offset + size ≤ 3995 → (offset - 87) / 439 < 8
one_of_eight offset size long inside = omega arith

module _ (bytes : List ℕ) (items : List Item) (body : IsLeafBody bytes items) (long : (i : ℕ) (item : Item) → slice_get items i ≡ Some item → length item.1 ≡ 439) where
  abbrev mark : ℕ → ℕ
  mark i = (item_offset bytes i - 87) / 439

  size_least : (i : ℕ) → i < length items → 439 ≤ item_size bytes i
  size_least i inside =
      let short = take_short (item_size bytes i) (drop (HEADER_SIZE + item_offset bytes i) bytes) in
      subst (λ (n : ℕ). n ≤ item_size bytes i) (long i (item_of bytes i) (body.each i inside)) short

  mark_low : (i : ℕ) → i < length items → mark i < 8
  mark_low i inside = one_of_eight (item_offset bytes i) (item_size bytes i) (size_least i inside) (body.inside i inside)

  module _ (many : 8 < length items) where
    on_mark : (i : ℕ) → i < length items → HasByte bytes i (525 + 439 * mark i)
    on_mark i inside =
        let behind : 25 * length items ≤ item_offset bytes i = body.behind_headers i inside in
        let m = marked (item_offset bytes i) (item_size bytes i) (omega (arith, behind, many)) (size_least i inside) in
        record { from = m.0; below = m.1 }

    one_mark : (i j : ℕ) → i < length items → j < length items → mark i ≡ mark j → i ≡ j
    one_mark i j i_in j_in same = elim (cases_eq i j) [
      | inl is ↦ is
      | inr other ↦ elim (cases_lt i j) [
        | inl before ↦ absurd (body.apart i j (525 + 439 * mark i) before j_in (on_mark i i_in) (subst (λ (n : ℕ). HasByte bytes j (525 + 439 * n)) (sym same) (on_mark j j_in)))
        | inr behind ↦
            let before : j < i = omega (arith, behind, other) in
            absurd (body.apart j i (525 + 439 * mark j) before i_in (on_mark j j_in) (subst (λ (n : ℕ). HasByte bytes i (525 + 439 * n)) same (on_mark i i_in)))
      ]
    ]

    abbrev places : List ℕ
    places = range_with_len 0 (length items)

    few_items : length items ≤ 8
    few_items =
        let once = once_map mark places (λ a b in_a in_b same. one_mark a b (within (length items) a in_a) (within (length items) b in_b) same) (range_once 0 (length items)) in
        let few = fewer (map mark places) (range_with_len 0 8) once (λ n c. let of = in_map mark places n c in subst (Contains (range_with_len 0 8)) of.2 (in_range 8 (mark of.0) (mark_low of.0 (within (length items) of.0 of.1)))) in
        let all = length-map-range_with_len mark 0 (length items) in
        omega (arith, few, all)

  pub at_most_eight : length items ≤ 8
  at_most_eight = elim (cases_lt 8 (length items)) [ inl many ↦ few_items many | inr few ↦ few ]

-- ---- a tree of more such items has a node and two leaves

abbrev AreLong : List Item → Type 0
AreLong items = (i : ℕ) (item : Item) → slice_get items i ≡ Some item → length item.1 ≡ 439

some_below : (level : ℕ) (table : Table) (at : ℕ) → 1 ≤ length (reach_below level table at)
some_below zero table at = omega arith
some_below (suc level) table at = omega arith

one_each : (f : Pointer → List ℕ) (pointers : List Pointer) → ((pointer : Pointer) → 1 ≤ length (f pointer)) → length pointers ≤ length (flat_map f pointers)
one_each f [] some = omega arith
one_each f (pointer ∷ pointers) some = omega (arith, some pointer, one_each f pointers some, length-append (f pointer) (flat_map f pointers))

many_below : (level : ℕ) (table : Table) (at : ℕ) → IsSubtree level table true at → AreLong (items_below level table at) → 8 < length (items_below level table at) → 3 ≤ length (reach_below level table at)
many_below zero table at is long many =
    let few = at_most_eight (block_at table at).bytes (leaf_items table at) (IsLeafBody-from_read (block_at table at).bytes (leaf_items table at) (leaf_body_is table at is.1)) long in
    absurd (omega (arith, few, many))
many_below (suc level) table at is long many =
    let two : 2 ≤ length (node_pointers table at) = is.2 in
    let each = one_each (λ (pointer : Pointer). reach_below level table pointer.at) (node_pointers table at) (λ pointer. some_below level table pointer.at) in
    omega (arith, two, each)

-- ---- root items

all_long : (items : List Item) (ids : List ℕ) (roots : List RootValue) → AreRootItems items ids roots → AreLong items
all_long [] ids roots are i item is = absurd cc
all_long (first ∷ items) [] roots are i item is = absurd are
all_long (first ∷ items) (id ∷ ids) [] are i item is = absurd are
all_long (first ∷ items) (id ∷ ids) (root ∷ roots) are zero item is = let same : first ≡ item = cc in ap (λ (x : Item). length x.1) (sym same) ∙ are.1.size
all_long (first ∷ items) (id ∷ ids) (root ∷ roots) are (suc i) item is = all_long items ids roots are.2 i item is

as_many : (items : List Item) (ids : List ℕ) (roots : List RootValue) → AreRootItems items ids roots → length items ≡ length roots
as_many [] [] [] are = refl
as_many [] [] (root ∷ roots) are = absurd are
as_many [] (id ∷ ids) roots are = absurd are
as_many (first ∷ items) [] roots are = absurd are
as_many (first ∷ items) (id ∷ ids) [] are = absurd are
as_many (first ∷ items) (id ∷ ids) (root ∷ roots) are = ap suc (as_many items ids roots are.2)

module _ (super : SuperValue) (table : Table) (tree : Tree) (wants : List Want) (is : IsTree table tree) (read : AreRootsRead super (tree_items table tree) wants) where
  root_items : (1 ≤ length read.roots) × (length read.roots ≤ 16) × AreRootItems (tree_items table tree) (subvolume_ids (length read.roots)) read.roots
  root_items = (roots_are_read (tree_items table tree) read.roots).0 read.read

  number : length (tree_items table tree) ≡ length wants
  number =
      as_many (tree_items table tree) (subvolume_ids (length read.roots)) read.roots root_items.2
      ∙ sym (ap length read.wants_are ∙ wants_long super (subvolume_ids (length read.roots)) read.roots (length-subvolume_ids (length read.roots)))

  pub many_roots : 8 < length wants → 3 ≤ length (tree_reach table tree)
  many_roots many =
      many_below tree.level table tree.root.0 is.shape (all_long (tree_items table tree) (subvolume_ids (length read.roots)) read.roots root_items.2) (omega (arith, many, number))

  pub few_roots : length (tree_reach table tree) ≤ 33
  few_roots =
      let few = few_blocks_in_tree tree.level table tree.root.0 is.shape in
      let most = read.most in
      omega (arith, few, most, number)
