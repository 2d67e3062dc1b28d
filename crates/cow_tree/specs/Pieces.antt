-- The blocks that stand in place of one, as pointers of a node.
use Rattle.std.specs.Prelude.{ℕ, suc, List, [], ◌∷◌, ◌++◌, map, take, drop}
use Rattle.blk_base.specs.Leaf.{Pointer}
use Rattle.tree_blocks.specs.Lists.{pointer_to}
use Rattle.cow_tree.specs.declared.pieces.Pieces.{Pieces}
use Rattle.cow_tree.specs.declared.pieces.Pieces.TheVariants.{One, Two, Three}

-- the pieces in order
abbrev pub pointers_of : Pieces → List Pointer
pointers_of (One first) = pointer_to first ∷ []
pointers_of (Two first second) = pointer_to first ∷ pointer_to second ∷ []
pointers_of (Three first second third) = pointer_to first ∷ pointer_to second ∷ pointer_to third ∷ []

-- their addresses
abbrev pub ats_of : List Pointer → List ℕ
ats_of pointers = map (λ pointer. pointer.at) pointers

-- the pointers of a node with these in place of the one at a place (own)
abbrev pub spliced : List Pointer → ℕ → List Pointer → List Pointer
spliced pointers place pieces = take place pointers ++ (pieces ++ drop (suc place) pointers)
