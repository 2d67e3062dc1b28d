-- What stands below a block depends on the bytes of the blocks that it reaches, where each of them is there to be read.
use Rattle.std.proofs.Common.{◌≡◌, ◌≤◌, ℕ, zero, suc, Bool, true, false, List, [], ◌∷◌, ◌++◌, length, refl, ap, ◌∙◌, sym, subst, Some, IsOk}
use Rattle.std.specs.Prelude.{All, slice_index_or}
use Rattle.std.specs.List.{flat_map}
use Rattle.std.proofs.lemmas.List.Elements.{All-append, All-nil, All-cons, All-head, All-tail, All-weaker}
use Rattle.blk_base.specs.Leaf.{Item, Pointer, leaf_body_of, node_body_of}
use Rattle.block_table.specs.declared.tree.Tree.{Tree}
use Rattle.block_table.specs.Table.{Table}
use Rattle.blk_base.specs.Trees.{ItemsRise, NoneTwice, first_key, least_items, least_pointers}
use Rattle.block_table.specs.TreeIn.{IsTaken, block_at}
use Rattle.tree_range.specs.Shape.{IsSubtree, IsTree, listed, items_below, reach_below, leaf_items, node_pointers, tree_items, tree_reach}
use Rattle.tree_range.proofs.Law.{Child}
use Rattle.tree_range.proofs.Rise.{All-left, All-right}
use Rattle.tree_frame.specs.Frame.{AreReadable}

-- what holds of each element of each list holds of all, and the other way round
pub all_parts : {X A : Type 0} (P : A → Type 0) (g : X → List A) (xs : List X) → All P (flat_map g xs) → All (λ x. All P (g x)) xs
all_parts P g [] h = All-nil (λ x. All P (g x))
all_parts P g (x ∷ xs) h = All-cons (λ y. All P (g y)) x xs (All-left P (g x) (flat_map g xs) h) (all_parts P g xs (All-right P (g x) (flat_map g xs) h))

pub all_joined : {X A : Type 0} (P : A → Type 0) (g : X → List A) (xs : List X) → All (λ x. All P (g x)) xs → All P (flat_map g xs)
all_joined P g [] h = All-nil P
all_joined P g (x ∷ xs) h = All-append P (g x) (flat_map g xs) (All-head (λ y. All P (g y)) x xs h) (all_joined P g xs (All-tail (λ y. All P (g y)) x xs h))

pub flat_map_same : {X A : Type 0} (f g : X → List A) (xs : List X) → All (λ x. f x ≡ g x) xs → flat_map f xs ≡ flat_map g xs
flat_map_same f g [] h = refl
flat_map_same f g (x ∷ xs) h =
    ap (λ l. l ++ flat_map f xs) (All-head (λ y. f y ≡ g y) x xs h) ∙ ap (λ l. g x ++ l) (flat_map_same f g xs (All-tail (λ y. f y ≡ g y) x xs h))

-- each block that a subtree reaches is taken
pub reach_taken : (level : ℕ) (table : Table) (is_root : Bool) (at : ℕ) → IsSubtree level table is_root at → All (IsTaken table) (reach_below level table at)
reach_taken zero table is_root at h = All-cons (IsTaken table) at [] h.0 (All-nil (IsTaken table))
reach_taken (suc level) table is_root at h =
    let g : Pointer → List ℕ = λ (pointer : Pointer). reach_below level table pointer.at in
    All-cons (IsTaken table) at (flat_map g (node_pointers table at)) h.0 (all_joined (IsTaken table) g (node_pointers table at) (All-weaker (Child level table) (λ (pointer : Pointer). All (IsTaken table) (g pointer)) (λ pointer k. reach_taken level table false pointer.at k.0) (node_pointers table at) h.3))

-- such a block is there to be read, with the bytes that it had
abbrev pub IsReadable : Table → Table → ℕ → Type 0
IsReadable old new at = IsTaken new at × ((block_at new at).bytes ≡ (block_at old at).bytes)

leaf_items_read : (old new : Table) (at : ℕ) → (block_at new at).bytes ≡ (block_at old at).bytes → leaf_items new at ≡ leaf_items old at
unfolding leaf_items
leaf_items_read old new at same = ap (λ (bytes : List ℕ). listed (leaf_body_of bytes)) same

node_pointers_read : (old new : Table) (at : ℕ) → (block_at new at).bytes ≡ (block_at old at).bytes → node_pointers new at ≡ node_pointers old at
unfolding node_pointers
node_pointers_read old new at same = ap (λ (bytes : List ℕ). listed (node_body_of bytes)) same

-- what stands below a block in two tables that have the same bytes there
pub record IsReadBelow (level : ℕ) (old new : Table) (at : ℕ) : Type 0 where
  pub items : items_below level new at ≡ items_below level old at
  pub reach : reach_below level new at ≡ reach_below level old at
  pub shape : (is_root : Bool) → IsSubtree level old is_root at → IsSubtree level new is_root at

pub read_below : (level : ℕ) (old new : Table) (at : ℕ) → AreReadable old new (reach_below level old at) → IsReadBelow level old new at
read_below zero old new at h =
    let here : IsReadable old new at = All-head (IsReadable old new) at [] h in
    let same = leaf_items_read old new at here.1 in
    record {
      items = same;
      reach = refl;
      shape = λ is_root k. (here.0, subst (λ (bytes : List ℕ). IsOk (leaf_body_of bytes)) (sym here.1) k.1, subst (λ (l : List Item). least_items is_root ≤ length l) (sym same) k.2);
    }
read_below (suc level) old new at h =
    let P : ℕ → Type 0 = IsReadable old new in
    let pointers = node_pointers old at in
    let behind = flat_map (λ pointer. reach_below level old pointer.at) pointers in
    let here : IsReadable old new at = All-head P at behind h in
    let same = node_pointers_read old new at here.1 in
    let parts : All (λ (pointer : Pointer). All P (reach_below level old pointer.at)) pointers = all_parts P (λ (pointer : Pointer). reach_below level old pointer.at) pointers (All-tail P at behind h) in
    let each : All (λ (pointer : Pointer). IsReadBelow level old new pointer.at) pointers = All-weaker (λ (pointer : Pointer). All P (reach_below level old pointer.at)) (λ (pointer : Pointer). IsReadBelow level old new pointer.at) (λ pointer k. read_below level old new pointer.at k) pointers parts in
    record {
      items = ap (flat_map (λ (pointer : Pointer). items_below level new pointer.at)) same ∙ flat_map_same (λ (pointer : Pointer). items_below level new pointer.at) (λ (pointer : Pointer). items_below level old pointer.at) pointers (All-weaker (λ (pointer : Pointer). IsReadBelow level old new pointer.at) (λ (pointer : Pointer). items_below level new pointer.at ≡ items_below level old pointer.at) (λ pointer k. k.items) pointers each);
      reach = ap (λ (l : List ℕ). at ∷ l) (ap (flat_map (λ (pointer : Pointer). reach_below level new pointer.at)) same ∙ flat_map_same (λ (pointer : Pointer). reach_below level new pointer.at) (λ (pointer : Pointer). reach_below level old pointer.at) pointers (All-weaker (λ (pointer : Pointer). IsReadBelow level old new pointer.at) (λ (pointer : Pointer). reach_below level new pointer.at ≡ reach_below level old pointer.at) (λ pointer k. k.reach) pointers each));
      shape = λ is_root k.
          let children : All (Child level new) pointers = λ i d within.
          let one : IsReadBelow level old new (slice_index_or pointers i d).at = each i d within in
          let was = k.3 i d within in
          (one.shape false was.0, subst (λ (l : List Item). first_key l ≡ Some (slice_index_or pointers i d).key) (sym one.items) was.1) in
          (here.0, subst (λ (bytes : List ℕ). IsOk (node_body_of bytes)) (sym here.1) k.1, subst (λ (l : List Pointer). least_pointers is_root ≤ length l) (sym same) k.2, subst (λ (l : List Pointer). All (Child level new) l) (sym same) children);
    }

-- a tree in two tables that have the same bytes in its blocks
pub record IsReadTree (old new : Table) (tree : Tree) : Type 0 where
  pub items : tree_items new tree ≡ tree_items old tree
  pub reach : tree_reach new tree ≡ tree_reach old tree
  pub stands : IsTree old tree → IsTree new tree

pub read_tree : (old new : Table) (tree : Tree) → AreReadable old new (tree_reach old tree) → IsReadTree old new tree
read_tree old new tree h =
    let below = read_below tree.level old new tree.root.0 h in
    record {
      items = below.items;
      reach = below.reach;
      stands = λ was. record { low = was.low; shape = below.shape true was.shape; order = subst ItemsRise (sym below.items) was.order; once = subst NoneTwice (sym below.reach) was.once };
    }
