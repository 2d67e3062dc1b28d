-- What holds of each item, one item and one child after another.
use Rattle.std.proofs.Common.{◌≡◌, ◌≤◌, ◌<◌, ◌+◌, ◌-◌, ℕ, List, [], ◌∷◌, ◌++◌, length, take, slice_get, Contains, Some, Ok, sym, ap, subst, ◌∙◌, inl, inr, append-nil}
use Rattle.std.specs.Prelude.{slice_index_or}
use Rattle.std.specs.List.{flat_map}
use Rattle.std.proofs.lemmas.List.Concat.{flat_map-append}
use Rattle.std.proofs.lemmas.List.Elements.{Contains-append_cases}
use Rattle.std.proofs.lemmas.Option.{slice_get-get_or}
use Rattle.blk_base.specs.declared.key.Key.{Key}
use Rattle.blk_base.specs.Bytes.{IsBytes}
use Rattle.blk_base.specs.Keys.{KeyFits}
use Rattle.blk_base.specs.Leaf.{Item, Pointer, header_at, item_of, leaf_body_of, node_body_of}
use Rattle.block_table.specs.Table.{Table}
use Rattle.block_table.specs.TreeIn.{block_at}
use Rattle.format_laws.specs.Fields.{field_fits}
use Rattle.leaf_view.proofs.LeafLaws.{leaf_body_means}
use Rattle.leaf_view.specs.Search.{children_of}
use Rattle.tree_range.specs.Shape.{items_below, leaf_items}
use Rattle.tree_range.proofs.Bodies.{leaf_items_are}
use Rattle.tree_range.proofs.Children.{child_of}
use Rattle.tree_range.proofs.Cuts.{mapped_at}
use Rattle.volume_image.proofs.Lists.{in_cons, in_nothing}
use Rattle.tree_check.proofs.Places.{above, node_is, to_end, to_here}

-- P holds of each item
abbrev pub Each : (Key → List ℕ → Type 0) → List Item → Type 0
Each P items = (key : Key) (bytes : List ℕ) → Contains items (key, bytes) → P key bytes

pub none_yet : (P : Key → List ℕ → Type 0) → Each P []
none_yet P key bytes c = absurd (in_nothing (key, bytes) c)

both : (P : Key → List ℕ → Type 0) (xs ys : List Item) → Each P xs → Each P ys → Each P (xs ++ ys)
both P xs ys one two key bytes c = elim (Contains-append_cases xs ys (key, bytes) c) [ inl here ↦ one key bytes here | inr there ↦ two key bytes there ]

alone : (P : Key → List ℕ → Type 0) (item : Item) → P item.0 item.1 → Each P (item ∷ [])
alone P item are key bytes c = elim (in_cons item (key, bytes) [] c) [ inl here ↦ subst (λ (i : Item). P i.0 i.1) here are | inr none ↦ absurd (in_nothing (key, bytes) none) ]

pub item_more : (P : Key → List ℕ → Type 0) (items : List Item) (place : ℕ) (item : Item) → slice_get items place ≡ Some item → Each P (take place items) → P item.0 item.1 → Each P (take (place + 1) items)
item_more P items place item is before here = subst (Each P) (sym (to_here items place item is)) (both P (take place items) (item ∷ []) before (alone P item here))

pub items_all : (P : Key → List ℕ → Type 0) (items : List Item) (place : ℕ) → length items ≤ place → Each P (take place items) → Each P items
items_all P items place past are = subst (Each P) (to_end items place past) are

pub leaf_all : (P : Key → List ℕ → Type 0) (table : Table) (at level : ℕ) (bytes : List ℕ) (leaf : List Item) → level ≡ 0 → bytes ≡ (block_at table at).bytes → leaf_body_of bytes ≡ Ok leaf → Each P leaf → Each P (items_below level table at)
leaf_all P table at level bytes leaf low bytes_are body are =
    let same : leaf_items table at ≡ leaf = leaf_items_are table at leaf (subst (λ (b : List ℕ). leaf_body_of b ≡ Ok leaf) bytes_are body) in
    subst (λ (n : ℕ). Each P (items_below n table at)) (sym low) (subst (Each P) (sym same) are)

-- the items below the children in front of this one
abbrev pub in_front : ℕ → Table → List Pointer → ℕ → List Item
in_front below table pointers place = flat_map (λ (pointer : Pointer). items_below below table pointer.at) (take place pointers)

pub child_more : (P : Key → List ℕ → Type 0) (below : ℕ) (table : Table) (pointers : List Pointer) (place child generation : ℕ) → slice_get (children_of pointers) place ≡ Some (child, generation) → Each P (in_front below table pointers place)
    → Each P (items_below below table child) → Each P (in_front below table pointers (place + 1))
child_more P below table pointers place child generation is before here =
    let g : Pointer → List Item = λ (pointer : Pointer). items_below below table pointer.at in
    let there = mapped_at child_of pointers place (child, generation) is in
    let at_is : there.element.at ≡ child = ap (λ (pair : ℕ × ℕ). pair.0) there.value_is in
    let split : in_front below table pointers (place + 1) ≡ in_front below table pointers place ++ items_below below table child =
    ap (flat_map g) (to_here pointers place there.element there.at_place) ∙ flat_map-append g (take place pointers) (there.element ∷ [])
    ∙ ap (λ (l : List Item). in_front below table pointers place ++ l) (append-nil (g there.element) ∙ ap (items_below below table) at_is) in
    subst (Each P) (sym split) (both P (in_front below table pointers place) (items_below below table child) before here)

pub children_all : (P : Key → List ℕ → Type 0) (table : Table) (at level : ℕ) (bytes : List ℕ) (pointers : List Pointer) (place : ℕ) → 0 < level → bytes ≡ (block_at table at).bytes → node_body_of bytes ≡ Ok pointers → length pointers ≤ place
    → Each P (in_front (level - 1) table pointers place) → Each P (items_below level table at)
children_all P table at level bytes pointers place high bytes_are body past are =
    above (λ (n : ℕ). Each P (items_below n table at)) level high
    (subst (λ (found : List Pointer). Each P (flat_map (λ (pointer : Pointer). items_below (level - 1) table pointer.at) found)) (to_end pointers place past ∙ sym (node_is table at bytes pointers bytes_are body)) are)

-- ---- keys

there : (items : List Item) (place : ℕ) (item : Item) → place < length items → slice_index_or items place item ≡ item → slice_get items place ≡ Some item
there items place item inside is = slice_get-get_or items place item inside ∙ ap (λ (i : Item). Some i) is

-- the keys in a block of bytes fit their fields
pub keys_fit : (block : List ℕ) (items : List Item) → IsBytes block → leaf_body_of block ≡ Ok items → Each (λ key bytes. KeyFits key) items
keys_fit block items are body key bytes c =
    let is : item_of block c.0 ≡ (key, bytes) = same_item (item_of block c.0) (key, bytes) (sym ((leaf_body_means block items body).each c.0 c.1) ∙ there items c.0 (key, bytes) c.1 c.2) in
    let at = header_at c.0 in
    subst (λ (item : Item). KeyFits item.0) is (record { objectid = field_fits 8 block at are; kind = field_fits 1 block (at + 8) are; offset = field_fits 8 block (at + 9) are })
  where
    same_item : (one two : Item) → Some one ≡ Some two → one ≡ two
    same_item one two h = cc
