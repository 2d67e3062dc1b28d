-- Nodes that are still to be copied when the items of a range of keys are taken out.
use Rattle.std.specs.Prelude.{◌≡◌, ◌≤◌, ◌+◌, ◌&&◌, ℕ, zero, suc, Bool, true, false, cond, List, length, nat_lt}
use Rattle.std.specs.List.{sum_by}
use Rattle.blk_base.specs.declared.key.Key.{Key}
use Rattle.blk_base.specs.Keys.{key_below}
use Rattle.blk_base.specs.Leaf.{Item, Pointer}
use Rattle.block_table.specs.declared.state.SlotState.{SlotState}
use Rattle.block_table.specs.declared.state.SlotState.TheVariants.{Dirty}
use Rattle.block_table.specs.declared.tree.Tree.{Tree}
use Rattle.block_table.specs.Table.{Table, free_blocks}
use Rattle.block_table.specs.TreeIn.{block_at}
use Rattle.tree_range.specs.Between.{items_between}
use Rattle.tree_range.specs.Shape.{items_below, node_pointers}

-- a block that an edit copies: one that isn't Dirty
abbrev pub is_clean : SlotState → Bool
is_clean Dirty = false
is_clean other = true

-- a key is in the range from one key to another one, both counted (own)
pub record IsBetween (first last key : Key) : Type 0 where
  pub from : key_below key first ≡ false
  pub to : key_below last key ≡ false

-- whether an item has a key in the range (own)
abbrev pub has_between : Key → Key → List Item → Bool
has_between first last items = nat_lt 0 (length (items_between first last items))

-- how many nodes, a block on this level and those below it, aren't Dirty and have an item of the range below them (own)
abbrev pub nodes_ahead : Key → Key → ℕ → Table → ℕ → ℕ
nodes_ahead first last zero table at = 0
nodes_ahead first last (suc level) table at =
    cond (is_clean (block_at table at).state && has_between first last (items_below (suc level) table at)) 1 0
    + sum_by (λ (pointer : Pointer). nodes_ahead first last level table pointer.at) (node_pointers table at)

abbrev pub tree_ahead : Key → Key → Table → Tree → ℕ
tree_ahead first last table tree = nodes_ahead first last tree.level table tree.root.0

-- how many nodes ahead are below these pointers, whose children stand on this level
abbrev pub row_ahead : Key → Key → ℕ → Table → List Pointer → ℕ
row_ahead first last level table pointers = sum_by (λ (pointer : Pointer). nodes_ahead first last level table pointer.at) pointers

-- how many blocks and buffers it takes to edit a block in this state: none where it is Dirty (own)
abbrev pub copies_of : SlotState → ℕ
copies_of state = cond (is_clean state) 1 0

-- An edit within the range takes one block and buffer, and one more for each node that is no longer ahead (own).
pub record TakesAhead (old new : Table) (before after : ℕ) : Type 0 where
  pub spare : old.spare + after ≤ new.spare + before + 1
  pub free : free_blocks old + after ≤ free_blocks new + before + 1
