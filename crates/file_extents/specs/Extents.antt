-- The extents of one file among the items of a tree, and what an edit of them leaves ("EXTENT_DATA").
use Rattle.std.specs.Prelude.{◌≡◌, ◌⊎◌, ◌≤◌, ◌<◌, ◌+◌, ◌-◌, ◌*◌, ◌^◌, ◌&&◌, ℕ, zero, suc, List, drop, take, All, Contains, Option, Some, None, Ok, is_some, nat_eq, nat_le, nat_lt, if◌then◌else◌}
use Rattle.blk_base.specs.declared.key.Key.{Key}
use Rattle.blk_base.specs.Extents.{Regular, extent_of}
use Rattle.blk_base.specs.Keys.{extent_data}
use Rattle.blk_base.specs.Leaf.{Item}
use Rattle.blk_base.specs.Trees.{NoneTwice}
use Rattle.block_table.specs.declared.tree.Tree.{Tree}
use Rattle.block_table.specs.Table.{Table, free_blocks}
use Rattle.block_table.specs.TreeIn.{IsSealedTree, IsTaken, block_at}
use Rattle.tree_blocks.specs.Steps.{IsSameBut, IsTakenAt}
use Rattle.tree_range.specs.Between.{data_under}
use Rattle.tree_range.specs.Shape.{IsTree, tree_items}
use Rattle.tree_frame.specs.Frame.{AreCurrent, IsEdit, TakesAtMost}
use Rattle.volume_image.specs.Subvolume.{Data, item_addresses, make_key, run_addresses}
use Rattle.table_volume.specs.Edited.{BearGeneration, KeepsClean}
use Rattle.table_volume.specs.Gives.{data_in, sub_reach}
use Rattle.table_volume.specs.Operated.{HasRoom}

-- ---- the blocks of a file

-- the bytes of the blocks of a file by their numbers, where they are no holes
abbrev pub Contents : Type 0
Contents = ℕ → Option (List ℕ)

-- these with holes from one number on and below another
abbrev pub cleared : Contents → ℕ → ℕ → Contents
cleared contents from to = λ number. if nat_le from number && nat_lt number to then None else contents number

-- these with a block in place of one
abbrev pub with_block : Contents → ℕ → List ℕ → Contents
with_block contents place bytes = λ number. if nat_eq number place then Some bytes else contents number

-- these with other blocks from one number on and below another
abbrev pub with_blocks : Contents → (ℕ → List ℕ) → ℕ → ℕ → Contents
with_blocks contents blocks from to = λ number. if nat_le from number && nat_lt number to then Some (blocks number) else contents number

-- each block from one number on and below another is a hole
abbrev pub AreHoles : Contents → ℕ → ℕ → Type 0
AreHoles contents from to = (number : ℕ) → from ≤ number → number < to → contents number ≡ None

-- the bytes that a text which begins at an offset of a file has for a block that it covers
abbrev pub text_block : ℕ → List ℕ → ℕ → List ℕ
text_block offset text number = take 4096 (drop (4096 * number - offset) text)

-- how many of so many blocks from a number on are no holes
abbrev pub held_between : Contents → ℕ → ℕ → ℕ
held_between contents from zero = 0
held_between contents from (suc count) = (if is_some (contents from) then 1 else 0) + held_between contents (suc from) count

-- ---- runs of blocks

-- one of the items is an extent of the file: it begins with this block, and is a run of so many from a byte address on
pub record HasRun (items : List Item) (ino begin at count : ℕ) : Type 0 where
  pub bytes : List ℕ
  pub there : data_under (make_key ino extent_data (4096 * begin)) items ≡ Some bytes
  pub read : extent_of (make_key ino extent_data (4096 * begin)) bytes ≡ Ok (Regular at 0 (4096 * count))

-- a run that begins in front of a block ends in front of it
abbrev pub NoneOver : (ℕ → ℕ → ℕ → Type 0) → ℕ → Type 0
NoneOver Runs number = (begin at count : ℕ) → Runs begin at count → begin < number → begin + count ≤ number

-- the run begins in front of a block and ends behind it, or with it
pub record IsOver (Runs : ℕ → ℕ → ℕ → Type 0) (number begin at count : ℕ) : Type 0 where
  pub run : Runs begin at count
  pub before : begin < number
  pub over : number < begin + count

-- none of the runs begins with a block or in front of it
abbrev pub NoneBegins : (ℕ → ℕ → ℕ → Type 0) → ℕ → Type 0
NoneBegins Runs number = (begin at count : ℕ) → Runs begin at count → begin ≤ number → ⊥

-- the run is the last of those that begin with a block or in front of it
pub record IsLastRun (Runs : ℕ → ℕ → ℕ → Type 0) (number begin at count : ℕ) : Type 0 where
  pub run : Runs begin at count
  pub before : begin ≤ number
  pub last : (other place more : ℕ) → Runs other place more → other ≤ number → other ≤ begin

-- one of the runs has this block
pub record IsCovered (Runs : ℕ → ℕ → ℕ → Type 0) (number : ℕ) : Type 0 where
  pub begin : ℕ
  pub at : ℕ
  pub count : ℕ
  pub run : Runs begin at count
  pub from : begin ≤ number
  pub to : number < begin + count

-- each block of each run has the bytes of the file's block of its number; each of the file's blocks is in one; and no block is in
-- two
pub record AreRunsOf (Runs : ℕ → ℕ → ℕ → Type 0) (data_at : Data) (contents : Contents) : Type 0 where
  pub holds : (begin at count i : ℕ) → Runs begin at count → i < count → (block : List ℕ) × (data_at (at + 4096 * i) ≡ Some block) × (contents (begin + i) ≡ Some block)
  pub covered : (number : ℕ) (block : List ℕ) → contents number ≡ Some block → IsCovered Runs number
  pub apart : (one at count two other more : ℕ) → Runs one at count → Runs two other more → one < two → one + count ≤ two

-- an item under this key is a run of the file's blocks
pub record IsRunItem (items : List Item) (ino offset : ℕ) : Type 0 where
  pub begin : ℕ
  pub at : ℕ
  pub count : ℕ
  pub offset_is : offset ≡ 4096 * begin
  pub run : HasRun items ino begin at count

-- the file's extents among the items, with their data, are runs of its blocks, and these are its contents
pub record HoldContents (items : List Item) (data_at : Data) (ino : ℕ) (contents : Contents) : Type 0 where
  pub each : (offset : ℕ) (bytes : List ℕ) → data_under (make_key ino extent_data offset) items ≡ Some bytes → IsRunItem items ino offset
  pub are : AreRunsOf (HasRun items ino) data_at contents

-- the run is there, or has no block
abbrev pub StandsBefore : (ℕ → ℕ → ℕ → Type 0) → ℕ → ℕ → ℕ → Type 0
StandsBefore Runs begin at count = (count ≡ 0) ⊎ Runs begin at count

-- The run that a block makes with one in front of it: that one and the block, where it follows on it, in the file and on the disk, and it has
-- fewer than 4096 blocks; else one of its own.
pub data Joins (begin at count number place : ℕ) (begin' at' count' : ℕ) : Type 0 where
  Longer : (some : 1 ≤ count) (few : count < 4096) (follows : begin + count ≡ number) (next : at + 4096 * count ≡ place) (same : begin' ≡ begin) (same_at : at' ≡ at) (more : count' ≡ count + 1)
      → Joins begin at count number place begin' at' count'
  Alone : (apart : 1 ≤ count → begin + count ≡ number → at + 4096 * count ≡ place → 4096 ≤ count) (own : begin' ≡ number) (own_at : at' ≡ place) (one : count' ≡ 1)
      → Joins begin at count number place begin' at' count'

-- the file has these contents in a tree that stands in a table
abbrev pub HoldIn : Table → Tree → ℕ → Contents → Type 0
HoldIn table tree ino contents = HoldContents (tree_items table tree) (data_in table) ino contents

-- ---- edits

-- So many blocks one behind the other from a byte address on were Free and are Dirty, each with the bytes of its number among them; every
-- other block is as it was (own).
pub record AreTakenAt (old new : Table) (at count : ℕ) (bytes : ℕ → List ℕ) : Type 0 where
  pub taken : (i : ℕ) → i < count → IsTakenAt old new (at + 4096 * i)
  pub filled : (i : ℕ) → i < count → (block_at new (at + 4096 * i)).bytes ≡ bytes i
  pub others : IsSameBut old new (run_addresses at count)
  pub spare : new.spare + count ≡ old.spare
  pub free : free_blocks new + count ≡ free_blocks old

-- a tree stands in the table with the data of its files: each of its blocks is taken, current, and there once
pub record IsHeld (table : Table) (tree : Tree) : Type 0 where
  pub stands : IsTree table tree
  pub taken : All (IsTaken table) (sub_reach table tree)
  pub current : AreCurrent table (sub_reach table tree)
  pub once : NoneTwice (sub_reach table tree)

-- the key isn't that of an extent of the file
abbrev pub IsBeside : ℕ → Key → Type 0
IsBeside ino key = key.objectid ≡ ino → key.kind ≡ extent_data → ⊥

-- An edit of the extents of one file, behind which the tree stands elsewhere: every other item stays, and so does each of their data blocks;
-- the data blocks of the file that are new were Free and are Dirty, and those that it has no more are let go. Tree blocks that aren't Dirty stood in
-- the tree before, as they stand; where the headers of the tree's blocks were right they are; what is new bears this generation; and it takes at
-- most so many blocks and buffers more than it gives back (own).
pub record IsContentEdit (old new : Table) (before after : Tree) (running ino most : ℕ) : Type 0 where
  pub held : IsHeld new after
  pub owner : after.owner ≡ before.owner
  pub edit : IsEdit old new (sub_reach old before) (sub_reach new after)
  pub kept : KeepsClean old new before after
  pub sealed : (fsid : List ℕ) (was : ℕ) → IsSealedTree old before fsid was → (now : ℕ) × IsSealedTree new after fsid now
  pub bear : BearGeneration running (tree_items old before) (tree_items new after)
  pub taken : TakesAtMost old new most
  pub others : (key : Key) → IsBeside ino key → data_under key (tree_items new after) ≡ data_under key (tree_items old before)
  pub alike : (key : Key) (bytes : List ℕ) → IsBeside ino key → data_under key (tree_items old before) ≡ Some bytes → (at : ℕ) → Contains (item_addresses (key, bytes)) at
      → block_at new at ≡ block_at old at

-- The file has these contents, each block with a number below 2^52; and there is the room in which those from one number on and below another
-- become holes (own).
pub record MayClear (table : Table) (tree : Tree) (ino : ℕ) (contents : Contents) (from to : ℕ) : Type 0 where
  pub holds : HoldContents (tree_items table tree) (data_in table) ino contents
  pub small : (number : ℕ) (block : List ℕ) → contents number ≡ Some block → number < 2 ^ 52
  pub room : HasRoom table (2 * held_between contents from (to - from) + 102)
