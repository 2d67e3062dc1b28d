-- A tree stands in a table by the relation exactly where it does by functions of the table.
use Rattle.std.proofs.Common.{◌≡◌, ◌≤◌, ℕ, zero, suc, Bool, true, false, List, [], ◌∷◌, ◌++◌, length, refl, ap, ◌∙◌, sym, subst, Some}
use Rattle.std.specs.Prelude.{All}
use Rattle.std.specs.List.{flat_map}
use Rattle.std.proofs.lemmas.List.Elements.{All-nil, All-cons, All-head, All-tail}
use Rattle.blk_base.specs.Leaf.{Item, Pointer, leaf_body_of, node_body_of}
use Rattle.block_table.specs.declared.tree.Tree.{Tree}
use Rattle.block_table.specs.Table.{Table}
use Rattle.blk_base.specs.Trees.{AreChildren, ItemsRise, NoneTwice, first_key, least_items, least_pointers}
use Rattle.block_table.specs.TreeIn.{IsSubtreeIn, IsTreeIn, block_at}
use Rattle.leaf_view.proofs.LeafLaws.{leaf_body_means, leaf_body_from}
use Rattle.leaf_view.proofs.NodeLaws.{node_body_means, node_body_from}
use Rattle.tree_range.specs.Shape.{IsSubtree, IsTree, items_below, reach_below, leaf_items, node_pointers, tree_items, tree_reach}
use Rattle.tree_range.proofs.Bodies.{leaf_items_are, node_pointers_are, leaf_body_is, node_body_is, is_ok}

-- what a child is by the relation and by functions
pub record IsSame (P : Pointer → Type 0) (f : Pointer → List Item) (g : Pointer → List ℕ) (pointer : Pointer) (part : List Item) (near : List ℕ) : Type 0 where
  pub shape : P pointer
  pub items : part ≡ f pointer
  pub reach : near ≡ g pointer

pub record AreSame (P : Pointer → Type 0) (f : Pointer → List Item) (g : Pointer → List ℕ) (pointers : List Pointer) (items : List Item) (reach : List ℕ) : Type 0 where
  pub shapes : All P pointers
  pub items_are : items ≡ flat_map f pointers
  pub reach_is : reach ≡ flat_map g pointers

children_to : (child : Pointer → List Item → List ℕ → Type 0) (P : Pointer → Type 0) (f : Pointer → List Item) (g : Pointer → List ℕ) → ((pointer : Pointer) (part : List Item) (near : List ℕ) → child pointer part near → IsSame P f g pointer part near)
    → (pointers : List Pointer) (items : List Item) (reach : List ℕ) → AreChildren child pointers items reach → AreSame P f g pointers items reach
children_to child P f g each [] items reach h = record { shapes = All-nil P; items_are = h.0; reach_is = h.1 }
children_to child P f g each (pointer ∷ pointers) items reach h =
    let one = each pointer h.0 h.2 h.4 in
    let others = children_to child P f g each pointers h.1 h.3 h.5 in
    record {
      shapes = All-cons P pointer pointers one.shape others.shapes;
      items_are = h.6 ∙ ap (λ (l : List Item). l ++ h.1) one.items ∙ ap (λ (l : List Item). f pointer ++ l) others.items_are;
      reach_is = h.7 ∙ ap (λ (l : List ℕ). l ++ h.3) one.reach ∙ ap (λ (l : List ℕ). g pointer ++ l) others.reach_is;
    }

children_from : (child : Pointer → List Item → List ℕ → Type 0) (P : Pointer → Type 0) (f : Pointer → List Item) (g : Pointer → List ℕ) → ((pointer : Pointer) → P pointer → child pointer (f pointer) (g pointer))
    → (pointers : List Pointer) → All P pointers → AreChildren child pointers (flat_map f pointers) (flat_map g pointers)
children_from child P f g each [] h = (refl, refl)
children_from child P f g each (pointer ∷ pointers) h =
    (f pointer, flat_map f pointers, g pointer, flat_map g pointers, each pointer (All-head P pointer pointers h), children_from child P f g each pointers (All-tail P pointer pointers h), refl, refl)

-- a subtree by the relation is one by functions
pub record IsSubtreeSame (level : ℕ) (table : Table) (is_root : Bool) (at : ℕ) (items : List Item) (reach : List ℕ) : Type 0 where
  pub shape : IsSubtree level table is_root at
  pub items_are : items ≡ items_below level table at
  pub reach_is : reach ≡ reach_below level table at

abbrev pub Child : ℕ → Table → Pointer → Type 0
Child level table pointer = IsSubtree level table false pointer.at × (first_key (items_below level table pointer.at) ≡ Some pointer.key)

abbrev pub ChildIn : ℕ → Table → Pointer → List Item → List ℕ → Type 0
ChildIn level table pointer part near = IsSubtreeIn level table false pointer.at part near × (first_key part ≡ Some pointer.key)

pub subtree_to : (level : ℕ) (table : Table) (is_root : Bool) (at : ℕ) (items : List Item) (reach : List ℕ) → IsSubtreeIn level table is_root at items reach → IsSubtreeSame level table is_root at items reach
subtree_to zero table is_root at items reach h =
    let body = leaf_body_from (block_at table at).bytes items h.1 in
    let same : leaf_items table at ≡ items = leaf_items_are table at items body in
    record {
      shape = (h.0, is_ok (leaf_body_of (block_at table at).bytes) items body, subst (λ (l : List Item). least_items is_root ≤ length l) (sym same) h.2);
      items_are = sym same;
      reach_is = h.3;
    }
subtree_to (suc level) table is_root at items reach h =
    let pointers = h.0 in
    let body = node_body_from (block_at table at).bytes pointers h.3 in
    let same : node_pointers table at ≡ pointers = node_pointers_are table at pointers body in
    let each : (pointer : Pointer) (part : List Item) (near : List ℕ) → ChildIn level table pointer part near → IsSame (Child level table) (λ pointer'. items_below level table pointer'.at) (λ pointer'. reach_below level table pointer'.at) pointer part near =
    λ pointer part near k.
    let below = subtree_to level table false pointer.at part near k.0 in
    record { shape = (below.shape, subst (λ (l : List Item). first_key l ≡ Some pointer.key) below.items_are k.1); items = below.items_are; reach = below.reach_is } in
    let children = children_to (ChildIn level table) (Child level table) (λ pointer. items_below level table pointer.at) (λ pointer. reach_below level table pointer.at) each pointers items h.1 h.5 in
    record {
      shape = (h.2, is_ok (node_body_of (block_at table at).bytes) pointers body, subst (λ (l : List Pointer). least_pointers is_root ≤ length l) (sym same) h.4, subst (λ (l : List Pointer). All (Child level table) l) (sym same) children.shapes);
      items_are = children.items_are ∙ ap (flat_map (λ pointer. items_below level table pointer.at)) (sym same);
      reach_is = h.6 ∙ ap (λ (l : List ℕ). at ∷ l) (children.reach_is ∙ ap (flat_map (λ pointer. reach_below level table pointer.at)) (sym same));
    }

pub subtree_from : (level : ℕ) (table : Table) (is_root : Bool) (at : ℕ) → IsSubtree level table is_root at → IsSubtreeIn level table is_root at (items_below level table at) (reach_below level table at)
subtree_from zero table is_root at h =
    (h.0, leaf_body_means (block_at table at).bytes (leaf_items table at) (leaf_body_is table at h.1), h.2, refl)
subtree_from (suc level) table is_root at h =
    let each : (pointer : Pointer) → Child level table pointer → ChildIn level table pointer (items_below level table pointer.at) (reach_below level table pointer.at) =
    λ pointer k. (subtree_from level table false pointer.at k.0, k.1) in (
      node_pointers table at,
      flat_map (λ pointer. reach_below level table pointer.at) (node_pointers table at),
      h.0,
      node_body_means (block_at table at).bytes (node_pointers table at) (node_body_is table at h.1),
      h.2,
      children_from (ChildIn level table) (Child level table) (λ pointer. items_below level table pointer.at) (λ pointer. reach_below level table pointer.at) each (node_pointers table at) h.3,
      refl,
    )

pub tree_to : (table : Table) (tree : Tree) (items : List Item) (reach : List ℕ) → IsTreeIn table tree items reach → IsTree table tree × (items ≡ tree_items table tree) × (reach ≡ tree_reach table tree)
tree_to table tree items reach h =
    let below = subtree_to tree.level table true tree.root.0 items reach h.shape in
    (record { low = h.low; shape = below.shape; order = subst ItemsRise below.items_are h.order; once = subst NoneTwice below.reach_is h.once }, below.items_are, below.reach_is)

pub tree_from : (table : Table) (tree : Tree) (items : List Item) (reach : List ℕ) → IsTree table tree × (items ≡ tree_items table tree) × (reach ≡ tree_reach table tree) → IsTreeIn table tree items reach
tree_from table tree items reach h = record {
  low = h.0.low;
  shape = subst (λ (l : List Item). IsSubtreeIn tree.level table true tree.root.0 l reach) (sym h.1) (subst (λ (r : List ℕ). IsSubtreeIn tree.level table true tree.root.0 (tree_items table tree) r) (sym h.2) (subtree_from tree.level table true tree.root.0 h.0.shape));
  order = subst ItemsRise (sym h.1) h.0.order;
  once = subst NoneTwice (sym h.2) h.0.once;
}
