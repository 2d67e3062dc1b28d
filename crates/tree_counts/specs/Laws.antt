-- What is proved of how many items and blocks a subvolume's tree has, each sentence by its name.
use Rattle.std.specs.Prelude.{◌++◌, ◌≡◌, ◌≤◌, ◌<◌, ◌+◌, ◌^◌, ℕ, List, length, sum_by}
use Rattle.std.specs.List.{flat_map}
use Rattle.std.specs.FinMap.{entries}
use Rattle.blk_base.specs.Leaf.{Item}
use Rattle.blk_base.specs.Trees.{ItemsRise}
use Rattle.block_table.specs.declared.tree.SubState.{SubState}
use Rattle.block_table.specs.declared.tree.Tree.{Tree}
use Rattle.block_table.specs.Table.{Table}
use Rattle.tree_range.specs.Shape.{IsTree, tree_items, tree_reach}
use Rattle.flat_model.specs.Records.{InodeRecord}
use Rattle.flat_model.specs.Volume.{Subvolume, Volume, RunVolume, bare_subvolume, volume_of}
use Rattle.volume_image.specs.Bare.{bare_items}
use Rattle.volume_image.specs.Subvolume.{AreItemsOf, Data, data_addresses}
use Rattle.table_volume.specs.Gives.{GivesSubvolume}
use Rattle.table_volume.specs.Running.{GiveVolume}
use Rattle.volume_seal.specs.Roots.{state_entries}
use Rattle.volume_seal.specs.Sealed.{states_reach}
use Rattle.commit_room.specs.Items.{items_of, most_tree_blocks, trees_room, inode_blocks, data_blocks}

-- the data blocks of a subvolume's files ("EXTENT_DATA")
abbrev pub files_blocks : Subvolume → ℕ
files_blocks sub = sum_by (λ (inner : ℕ × InodeRecord). inode_blocks inner.1) (entries sub.inodes)

-- the most blocks of all trees of subvolumes (own)
abbrev pub subs_room : Volume → ℕ
subs_room volume = sum_by (λ (entry : ℕ × Subvolume). most_tree_blocks (items_of entry.1)) (entries volume)

-- the items of a subvolume's tree are no more than it asks for
abbrev pub ItemsAreCounted : Type 0
ItemsAreCounted = (items : List Item) (blocks : Data) (sub : Subvolume) → ItemsRise items → AreItemsOf items blocks sub → length items ≤ items_of sub

-- and may be as many: the items of a bare subvolume are
abbrev pub CountIsReached : Type 0
CountIsReached =
    (blocks : Data) (generation : ℕ) → generation < 2 ^ 64
    → AreItemsOf (bare_items generation) blocks bare_subvolume × (length (bare_items generation) ≡ items_of bare_subvolume)

-- the items of a subvolume's tree lead to as many data blocks as its files have
abbrev pub DataAreCounted : Type 0
DataAreCounted =
    (items : List Item) (blocks : Data) (sub : Subvolume) → ItemsRise items → AreItemsOf items blocks sub
    → length (data_addresses items) ≡ files_blocks sub

-- the tree of a subvolume has no more blocks than a tree of so many items may have
abbrev pub TreesAreCounted : Type 0
TreesAreCounted =
    (table : Table) (tree : Tree) (sub : Subvolume) → GivesSubvolume table tree sub → length (tree_reach table tree) ≤ most_tree_blocks (items_of sub)

-- and all trees of a volume, with its data, no more than its data blocks and the most blocks of each tree
abbrev pub VolumesAreCounted : Type 0
VolumesAreCounted =
    (table : Table) (states : List SubState) (run : RunVolume) → GiveVolume table states run
    → length (states_reach table states) ≤ data_blocks (volume_of run) + subs_room (volume_of run)

-- the tree of roots, with an item for each state, and the trees of the states have no more blocks than trees of the volume may have
abbrev pub AllTreesAreCounted : Type 0
AllTreesAreCounted =
    (table : Table) (states : List SubState) (run : RunVolume) → GiveVolume table states run
    → (root : Tree) → IsTree table root → tree_items table root ≡ state_entries table states
    → length (tree_reach table root) + length (flat_map (λ (state : SubState). tree_reach table state.tree) states) ≤ trees_room (volume_of run)

-- and with the data no more than the volume's data blocks and its trees
abbrev pub CommitsAreCounted : Type 0
CommitsAreCounted =
    (table : Table) (states : List SubState) (run : RunVolume) → GiveVolume table states run
    → (root : Tree) → IsTree table root → tree_items table root ≡ state_entries table states
    → length (tree_reach table root ++ states_reach table states) ≤ data_blocks (volume_of run) + trees_room (volume_of run)
