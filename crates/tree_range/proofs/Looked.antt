-- What a search in the leaf where a key belongs says, where the leaf is read from the bytes of its block.
use Rattle.std.proofs.Common.{◌≡◌, ◌<◌, ◌≤◌, ℕ, List, ◌++◌, length, slice_get, refl, ap, ◌∙◌, sym, subst, Option, Some, None, Ok, IsSome, arith, option_map}
use Rattle.std.proofs.lemmas.List.{length-map}
use Rattle.std.proofs.lemmas.Option.{same_Some, slice_get-map, slice_get_within}
use Rattle.blk_base.specs.declared.key.Key.{Key}
use Rattle.blk_base.specs.Leaf.{Item, leaf_body_of}
use Rattle.block_table.specs.declared.tree.Tree.{Tree}
use Rattle.block_table.specs.Table.{Table}
use Rattle.blk_base.specs.Trees.{ItemsRise}
use Rattle.block_table.specs.TreeIn.{block_at}
use Rattle.leaf_view.proofs.LeafLaws.{leaf_body_means}
use Rattle.leaf_view.specs.Search.{IsPlace, contents_of, keys_of}
use Rattle.tree_range.specs.Shape.{IsTree, leaf_items, tree_items}
use Rattle.tree_range.specs.Between.{data_under}
use Rattle.tree_range.specs.Path.{IsLeafOf, IsPath}
use Rattle.tree_range.proofs.Bodies.{leaf_items_are}
use Rattle.tree_range.proofs.Cuts.{mapped_at}
use Rattle.tree_range.proofs.Found.{absent_under, content_of, found_here, found_under, key_of, leaf_rises}

pub leaf_is : (table : Table) (at : ℕ) (bytes : List ℕ) (leaf : List Item) → bytes ≡ (block_at table at).bytes → leaf_body_of bytes ≡ Ok leaf → leaf_items table at ≡ leaf
leaf_is table at bytes leaf bytes_are body = leaf_items_are table at leaf (subst (λ (b : List ℕ). leaf_body_of b ≡ Ok leaf) bytes_are body)

pub key_inside : (leaf : List Item) (key : Key) (place : ℕ) → slice_get (keys_of leaf) place ≡ Some key → place < length leaf
key_inside leaf key place h = omega (arith, slice_get_within (keys_of leaf) place key h, length-map leaf key_of)

-- the leaf where a key belongs, with its items
pub record IsRead (table : Table) (tree : Tree) (key : Key) (at : ℕ) (next : Option Key) (leaf : List Item) : Type 0 where
  pub is_tree : IsTree table tree
  pub path : IsPath table tree 0 key at next
  pub leaf_are : leaf_items table at ≡ leaf

items_of : (table : Table) (tree : Tree) (key : Key) (at : ℕ) (next : Option Key) (leaf : List Item) (r : IsRead table tree key at next leaf) → tree_items table tree ≡ r.path.before ++ (leaf ++ r.path.after)
items_of table tree key at next leaf r = r.path.items ∙ ap (λ (l : List Item). r.path.before ++ (l ++ r.path.after)) r.leaf_are

pub read_rises : (table : Table) (tree : Tree) (key : Key) (at : ℕ) (next : Option Key) (leaf : List Item) → IsRead table tree key at next leaf → ItemsRise leaf
read_rises table tree key at next leaf r = leaf_rises (tree_items table tree) r.path.before leaf r.path.after r.is_tree.order (items_of table tree key at next leaf r)

pub get_found : (table : Table) (tree : Tree) (key : Key) (at : ℕ) (next : Option Key) (leaf : List Item) (place : ℕ) (bytes : List ℕ) → IsRead table tree key at next leaf → slice_get (keys_of leaf) place ≡ Some key → slice_get (contents_of leaf) place ≡ Some bytes
    → data_under key (tree_items table tree) ≡ Some bytes
get_found table tree key at next leaf place bytes r found content =
    found_under (tree_items table tree) r.path.before leaf r.path.after key place bytes r.is_tree.order (items_of table tree key at next leaf r) found content

pub get_absent : (table : Table) (tree : Tree) (key : Key) (at : ℕ) (next : Option Key) (leaf : List Item) (place : ℕ) → IsRead table tree key at next leaf → IsPlace (keys_of leaf) key place → data_under key (tree_items table tree) ≡ None
get_absent table tree key at next leaf place r absent =
    absent_under (tree_items table tree) r.path.before leaf r.path.after key place (items_of table tree key at next leaf r) r.path.below r.path.above absent

-- the leaf that has a key
pub record IsHeld (table : Table) (tree : Tree) (key : Key) (at : ℕ) : Type 0 where
  pub leaf : IsLeafOf table tree at
  pub found : IsSome (data_under key (leaf_items table at))
  pub under : IsSome (data_under key (tree_items table tree))

is_some_of : (o : Option (List ℕ)) (bytes : List ℕ) → o ≡ Some bytes → IsSome o
is_some_of o bytes h = subst (λ (o' : Option (List ℕ)). IsSome o') (sym h) refl

pub held : (table : Table) (tree : Tree) (key : Key) (at : ℕ) (next : Option Key) (leaf : List Item) (place : ℕ) → IsRead table tree key at next leaf → slice_get (keys_of leaf) place ≡ Some key → IsHeld table tree key at
held table tree key at next leaf place r found =
    let there = mapped_at key_of leaf place key found in
    let content : slice_get (contents_of leaf) place ≡ Some there.element.1 = slice_get-map content_of leaf place ∙ ap (option_map content_of) there.at_place in
    let path = r.path in
    record {
      leaf = record { is_root = path.is_root; shape = path.shape; before = path.before; after = path.after; items = path.items; reach_before = path.reach_before; reach_after = path.reach_after; reach = path.reach };
      found = is_some_of (data_under key (leaf_items table at)) there.element.1 (ap (data_under key) r.leaf_are ∙ found_here leaf key place there.element.1 (read_rises table tree key at next leaf r) found content);
      under = is_some_of (data_under key (tree_items table tree)) there.element.1 (get_found table tree key at next leaf place there.element.1 r found content);
    }

pub none_held : (o : Option (List ℕ)) → o ≡ None → IsSome o → ⊥
none_held None e h = absurd cc
none_held (Some bytes) e h = absurd cc

pub read : (table : Table) (tree : Tree) (key : Key) (at : ℕ) (next : Option Key) (bytes : List ℕ) (leaf : List Item) → IsTree table tree → IsPath table tree 0 key at next → bytes ≡ (block_at table at).bytes → leaf_body_of bytes ≡ Ok leaf → IsRead table tree key at next leaf
read table tree key at next bytes leaf is_tree path bytes_are body = record { is_tree = is_tree; path = path; leaf_are = leaf_is table at bytes leaf bytes_are body }

pub most_of : (bytes : List ℕ) (leaf : List Item) → leaf_body_of bytes ≡ Ok leaf → length leaf ≤ 159
most_of bytes leaf body = (leaf_body_means bytes leaf body).most

-- the item at a place, from its key and its data
pub item_there : (leaf : List Item) (place : ℕ) (key : Key) (bytes : List ℕ) → slice_get (keys_of leaf) place ≡ Some key → slice_get (contents_of leaf) place ≡ Some bytes → slice_get leaf place ≡ Some (key, bytes)
item_there leaf place key bytes found content =
    let there = mapped_at key_of leaf place key found in
    let x = there.element in
    let bytes_are : x.1 ≡ bytes = same_Some x.1 bytes (sym (slice_get-map content_of leaf place ∙ ap (option_map content_of) there.at_place) ∙ content) in
    there.at_place ∙ ap (λ (k : Key). Some (k, x.1)) there.value_is ∙ ap (λ (b : List ℕ). Some (key, b)) bytes_are
