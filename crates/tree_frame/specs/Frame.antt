-- What an edit of a tree may change of the table of blocks.
use Rattle.std.specs.Prelude.{◌≡◌, ◌≢◌, ◌⊎◌, ◌+◌, ◌≤◌, ℕ, zero, suc, List, ◌∷◌, ◌++◌, length, All, None, Contains, filter}
use Rattle.std.specs.List.{sum_by}
use Rattle.blk_base.specs.declared.key.Key.{Key}
use Rattle.blk_base.specs.Keys.{key_below}
use Rattle.blk_base.specs.Leaf.{Item, Pointer}
use Rattle.block_table.specs.declared.state.SlotState.TheVariants.{Free, Dirty, LetGo}
use Rattle.block_table.specs.declared.tree.Tree.{Tree}
use Rattle.block_table.specs.Slot.{BlockSlot}
use Rattle.block_table.specs.Table.{Table, free_blocks}
use Rattle.block_table.specs.TreeIn.{IsTaken, block_at}
use Rattle.tree_range.specs.Shape.{node_pointers}

-- what becomes of a block that the tree has no more: a Dirty one is Free, and another one is LetGo (own)
pub record IsLeft (old new : BlockSlot) : Type 0 where
  pub dirty : old.state ≡ Dirty → new.state ≡ Free
  pub written : old.state ≢ Dirty → new ≡ record old { state = LetGo; stood = None }

-- both are Free
pub record AreFree (old new : BlockSlot) : Type 0 where
  pub before : old.state ≡ Free
  pub after : new.state ≡ Free

-- An edit of a tree that reached `before` and then reaches `after`: its new blocks were Free and are Dirty, its old ones are
-- left, those in both keep their state, and also their bytes where they aren't Dirty; every other block that isn't Free stays as
-- it was (own).
pub record IsEdit (old new : Table) (before after : List ℕ) : Type 0 where
  pub size : length new.slots ≡ length old.slots
  pub lists : new.lists ≡ old.lists
  pub fresh : (at : ℕ) → Contains after at → (Contains before at → ⊥) → ((block_at old at).state ≡ Free) × ((block_at new at).state ≡ Dirty)
  pub left : (at : ℕ) → Contains before at → (Contains after at → ⊥) → IsLeft (block_at old at) (block_at new at)
  pub kept : (at : ℕ) → Contains before at → Contains after at → (block_at new at).state ≡ (block_at old at).state
  pub kept_whole : (at : ℕ) → Contains before at → Contains after at → (block_at old at).state ≢ Dirty → block_at new at ≡ block_at old at
  pub others : (at : ℕ) → (Contains before at → ⊥) → (Contains after at → ⊥) → (block_at new at ≡ block_at old at) ⊎ AreFree (block_at old at) (block_at new at)

-- no block of it was let go: it is current (own)
abbrev pub AreCurrent : Table → List ℕ → Type 0
AreCurrent table reach = All (λ at. (block_at table at).state ≢ LetGo) reach

-- an edit takes at most so many blocks and buffers more than it gives back (own)
pub record TakesAtMost (old new : Table) (most : ℕ) : Type 0 where
  pub spare : old.spare ≤ new.spare + most
  pub free : free_blocks old ≤ free_blocks new + most

-- the items of a list whose keys aren't this one, with the one of this key and these bytes in its place (own)
abbrev pub with_item : Key → List ℕ → List Item → List Item
with_item key bytes items = filter (λ item. key_below item.0 key) items ++ (key, bytes) ∷ filter (λ item. key_below key item.0) items

-- the items of a list whose keys aren't this one (own)
abbrev pub without_item : Key → List Item → List Item
without_item key items = filter (λ item. key_below item.0 key) items ++ filter (λ item. key_below key item.0) items

-- how many leaves stand below a block on this level, and how many nodes, it among them
abbrev pub leaves_below : ℕ → Table → ℕ → ℕ
leaves_below zero table at = 1
leaves_below (suc level) table at = sum_by (λ (pointer : Pointer). leaves_below level table pointer.at) (node_pointers table at)

abbrev pub nodes_below : ℕ → Table → ℕ → ℕ
nodes_below zero table at = 0
nodes_below (suc level) table at = 1 + sum_by (λ (pointer : Pointer). nodes_below level table pointer.at) (node_pointers table at)

abbrev pub tree_leaves : Table → Tree → ℕ
tree_leaves table tree = leaves_below tree.level table tree.root.0

abbrev pub tree_nodes : Table → Tree → ℕ
tree_nodes table tree = nodes_below tree.level table tree.root.0

-- each of these blocks is there to be read, with the bytes that it had (own)
abbrev pub AreReadable : Table → Table → List ℕ → Type 0
AreReadable old new reach = All (λ at. IsTaken new at × ((block_at new at).bytes ≡ (block_at old at).bytes)) reach
