-- Small trees of Dirty blocks.
use Rattle.std.proofs.Common.{◌≡◌, ◌+◌, ℕ, zero, suc, List, [], ◌∷◌, take, slice_get, refl, sym, subst, Some, ◌∙◌}
use Rattle.std.specs.Prelude.{All}
use Rattle.blk_base.specs.Leaf.{Pointer}
use Rattle.leaf_view.specs.Search.{children_of}
use Rattle.block_table.specs.declared.state.SlotState.TheVariants.{Dirty}
use Rattle.block_table.specs.declared.tree.Tree.{Tree}
use Rattle.block_table.specs.Table.{Table, state_at}
use Rattle.block_table.specs.TreeIn.{IsSealedSubtree, IsSealedTree, block_at}
use Rattle.tree_blocks.specs.Steps.{node_at}
use Rattle.tree_seal.specs.Above.{DirtyIsAbove, IsDirtyAbove}
use Rattle.tree_seal.specs.OnImage.{root_want}
use Rattle.tree_seal.proofs.Cuts.{cut_at}
use Rattle.tree_seal.proofs.Half.{each_more, node_at_shown}
use Rattle.tree_frame.proofs.Sealed.{pointers_shown}
use Rattle.tree_seal.proofs.Walk.{first_same}

abbrev pub PointsToDirty : Table → Pointer → Type 0
PointsToDirty table pointer = (block_at table pointer.at).state ≡ Dirty

pointer_there : (pointers : List Pointer) (place at generation : ℕ) → slice_get (children_of pointers) place ≡ Some (at, generation) → (pointer : Pointer) × (slice_get pointers place ≡ Some pointer) × (pointer.at ≡ at)
pointer_there [] place at generation h = absurd cc
pointer_there (pointer ∷ pointers) zero at generation h = (pointer, refl, first_same pointer.at pointer.generation at generation h)
pointer_there (pointer ∷ pointers) (suc place) at generation h = pointer_there pointers place at generation h

-- one child more is Dirty
pub more_dirty : (table : Table) (pointers : List Pointer) (place at generation : ℕ) → slice_get (children_of pointers) place ≡ Some (at, generation) → (block_at table at).state ≡ Dirty → All (PointsToDirty table) (take place pointers) → All (PointsToDirty table) (take (place + 1) pointers)
more_dirty table pointers place at generation h dirty all =
    let there = pointer_there pointers place at generation h in
    each_more (PointsToDirty table) pointers place there.0 (cut_at pointers place there.0 there.1) all (subst (λ (a : ℕ). (block_at table a).state ≡ Dirty) (sym there.2) dirty)

pub leaf_above : (table : Table) (tree : Tree) → tree.level ≡ 0 → IsDirtyAbove table tree
leaf_above table tree e = subst (λ (n : ℕ). DirtyIsAbove n table tree.root.0) (sym e) tt

pub leaf_written : (table : Table) (tree : Tree) (fsid : List ℕ) (generation : ℕ) → tree.level ≡ 0 → state_at table tree.root ≡ Dirty → IsSealedTree table tree fsid generation
leaf_written table tree fsid generation e dirty =
    subst (λ (n : ℕ). IsSealedSubtree n table (root_want tree fsid generation)) (sym e) (λ written. absurd (written dirty))

pub node_above : (table : Table) (tree : Tree) → tree.level ≡ 1 → state_at table tree.root ≡ Dirty → IsDirtyAbove table tree
node_above table tree e dirty =
    subst (λ (n : ℕ). DirtyIsAbove n table tree.root.0) (sym e) (λ i d within. (λ below. dirty, tt))

pub node_written : (table : Table) (tree : Tree) (fsid : List ℕ) (generation : ℕ) → tree.level ≡ 1 → state_at table tree.root ≡ Dirty → All (PointsToDirty table) (node_at table tree.root.0) → IsSealedTree table tree fsid generation
node_written table tree fsid generation e dirty all =
    subst (λ (n : ℕ). IsSealedSubtree n table (root_want tree fsid generation)) (sym e) (
      λ written. absurd (written dirty),
      λ pointers body i d within.
          let there : All (PointsToDirty table) pointers = subst (All (PointsToDirty table)) (node_at_shown table tree.root.0 ∙ pointers_shown table tree.root.0 pointers body) all in
          λ written. absurd (written (there i d within)),
    )
