-- Whether blocks pass their headers' checks, below a block, below each of some pointers, and below a node that is being edited.
use Rattle.std.proofs.Common.{◌≡◌, ℕ, suc, List, sym, subst, IsOk}
use Rattle.std.specs.Prelude.{All}
use Rattle.blk_base.specs.declared.key.Want.{Want}
use Rattle.blk_base.specs.Leaf.{Pointer, node_body_of}
use Rattle.block_table.specs.declared.state.SlotState.TheVariants.{Dirty}
use Rattle.block_table.specs.declared.tree.Tree.{Tree}
use Rattle.block_table.specs.Table.{Table}
use Rattle.block_table.specs.TreeIn.{IsSealedSubtree, IsSealedTree, block_at}
use Rattle.leaf_view.proofs.NodeLaws.{node_body_means}
use Rattle.tree_range.specs.Shape.{node_pointers}
use Rattle.tree_range.proofs.Bodies.{node_body_is}
use Rattle.tree_frame.proofs.Sealed.{pointers_shown}
use Rattle.cow_tree.specs.Below.{want_at}

-- a pointer's block and those below it pass them by the pointer
abbrev pub Sealed : ℕ → Table → Want → Pointer → Type 0
Sealed level table want pointer = IsSealedSubtree level table (want_at want pointer.at pointer.generation)

-- a node's children are read with one level less
abbrev pub below_want : Want → ℕ → Want
below_want want level = record want { level = level }

-- ---- a node

-- the children of a node pass them
pub sealed_children : (level : ℕ) (table : Table) (want : Want) (at generation : ℕ) → IsOk (node_body_of (block_at table at).bytes) → IsSealedSubtree (suc level) table (want_at want at generation) → All (Sealed level table (below_want want level)) (node_pointers table at)
sealed_children level table want at generation body h =
    h.1 (node_pointers table at) (node_body_means (block_at table at).bytes (node_pointers table at) (node_body_is table at body))

-- a node that is being edited has no header yet: its children have to pass them
pub sealed_node : (level : ℕ) (table : Table) (want : Want) (at generation : ℕ) → (block_at table at).state ≡ Dirty → All (Sealed level table (below_want want level)) (node_pointers table at) → IsSealedSubtree (suc level) table (want_at want at generation)
sealed_node level table want at generation dirty each =
    (λ written. absurd (written dirty), λ pointers body. subst (All (Sealed level table (below_want want level))) (pointers_shown table at pointers body) each)

-- ---- a root

pub sealed_root : (level : ℕ) (table : Table) (tree : Tree) (fsid : List ℕ) (at generation owner : ℕ) → tree.level ≡ level → tree.owner ≡ owner → tree.root.0 ≡ at → IsSealedSubtree level table (record { fsid = fsid; at = record { 0 = at }; generation = generation; owner = owner; level = level }) → IsSealedTree table tree fsid generation
sealed_root level table tree fsid at generation owner p q r h =
    subst (λ (n : ℕ). IsSealedSubtree n table (record { fsid = fsid; at = tree.root; generation = generation; owner = tree.owner; level = n })) (sym p)
    (subst (λ (o : ℕ). IsSealedSubtree level table (record { fsid = fsid; at = tree.root; generation = generation; owner = o; level = level })) (sym q)
    (subst (λ (a : ℕ). IsSealedSubtree level table (record { fsid = fsid; at = record { 0 = a }; generation = generation; owner = owner; level = level })) (sym r) h))
