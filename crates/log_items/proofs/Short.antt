-- No item of a tree has more data than a leaf has room for.
use Rattle.std.proofs.Common.{◌≡◌, ◌≤◌, ◌<◌, ◌+◌, ◌∙◌, ℕ, zero, suc, List, [], ◌∷◌, Contains, length, take, drop, slice_get, Some, Result, Ok, Err, refl, sym, ap, subst, inl, inr, arith, length-take}
use Rattle.std.proofs.Math.Seq.{take-append_seam}
use Rattle.std.proofs.lemmas.Bool.{cases_Bool}
use Rattle.blk_base.specs.declared.fault.BlockFault.{BlockFault}
use Rattle.blk_base.specs.declared.key.Key.{Key}
use Rattle.blk_base.specs.Bytes.{with_bytes}
use Rattle.blk_base.specs.Leaf.{Item, IsLeafBody, Pointer, item_of, item_offset, item_size, leaf_body_of}
use Rattle.block_table.specs.declared.tree.Tree.{Tree}
use Rattle.block_table.specs.Table.{Table}
use Rattle.block_table.specs.TreeIn.{block_at}
use Rattle.leaf_view.proofs.LeafLaws.{leaf_body_means}
use Rattle.log_image.proofs.Sayings.{in_flat_map}
use Rattle.tree_range.specs.Between.{data_under, has_key}
use Rattle.tree_range.specs.Shape.{items_below, leaf_items, listed, node_pointers, tree_items}
use Rattle.volume_image.proofs.Lists.{in_cons, in_nothing}
use Rattle.volume_image.proofs.Reaches.{head_in, tail_in}

place_of : {X : Type 0} (xs : List X) (x : X) → Contains xs x → (k : ℕ) × (k < length xs) × (slice_get xs k ≡ Some x)
place_of [] x c = absurd (in_nothing x c)
place_of (y ∷ xs) x c = elim (in_cons y x xs c) [
  | inl here ↦ (0, omega arith, ap Some here)
  | inr there ↦ let rest = place_of xs x there in (suc rest.0, omega (arith, rest.1), rest.2)
]

in_leaf : (bytes : List ℕ) (items : List Item) (item : Item) → IsLeafBody bytes items → Contains items item → length item.1 ≤ 3970
in_leaf bytes items item body c =
    let place = place_of items item c in
    let is : Some (item_of bytes place.0) ≡ Some item = sym (body.each place.0 place.1) ∙ place.2 in
    let same : item_of bytes place.0 ≡ item = cc in
    let size : length (item_of bytes place.0).1 ≤ 3970 = omega (arith, length-take (item_size bytes place.0) (drop (101 + item_offset bytes place.0) bytes), body.behind_headers place.0 place.1, body.inside place.0 place.1, place.1) in
    subst (λ (i : Item). length i.1 ≤ 3970) same size

in_listed : (bytes : List ℕ) (body : Result (List Item) BlockFault) → leaf_body_of bytes ≡ body → (item : Item) → Contains (listed body) item → length item.1 ≤ 3970
in_listed bytes (Ok items) is item c = in_leaf bytes items item (leaf_body_means bytes items is) c
in_listed bytes (Err fault) is item c = absurd (in_nothing item c)

leaf_short : (table : Table) (at : ℕ) (item : Item) → Contains (leaf_items table at) item → length item.1 ≤ 3970
unfolding leaf_items
leaf_short table at item c = in_listed (block_at table at).bytes (leaf_body_of (block_at table at).bytes) refl item c

below_short : (level : ℕ) (table : Table) (at : ℕ) (item : Item) → Contains (items_below level table at) item → length item.1 ≤ 3970
below_short zero table at item c = leaf_short table at item c
below_short (suc level) table at item c =
    let found = in_flat_map (λ (pointer : Pointer). items_below level table pointer.at) (node_pointers table at) item c in
    below_short level table found.0.at item found.2

-- what stands under a key is the data of an item
under_in : (key : Key) (items : List Item) (bytes : List ℕ) → data_under key items ≡ Some bytes → (item : Item) × Contains items item × (item.1 ≡ bytes)
under_in key [] bytes h = absurd cc
under_in key (x ∷ xs) bytes h = elim (cases_Bool (has_key key x)) [
  | inl here ↦ (x, head_in x xs, let found = rw here at h in cc)
  | inr other ↦ let rest = under_in key xs bytes (rw other at h) in (rest.0, tail_in x rest.0 xs rest.1, rest.2)
]

pub under_short : (key : Key) (table : Table) (tree : Tree) (bytes : List ℕ) → data_under key (tree_items table tree) ≡ Some bytes → length bytes ≤ 3970
under_short key table tree bytes h =
    let found = under_in key (tree_items table tree) bytes h in
    subst (λ (l : List ℕ). length l ≤ 3970) found.2 (below_short tree.level table tree.root.0 found.0 found.1)

-- ---- bytes written over the front of others

pub copied_front : (old content : List ℕ) → length content ≤ length old → take (length content) (with_bytes old 0 content) ≡ content
unfolding with_bytes
copied_front old content room = take-append_seam content (drop (0 + length content) old)
