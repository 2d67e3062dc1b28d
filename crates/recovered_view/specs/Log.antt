-- The flat log that a log tree in the table says, and what replay of it leaves.
use Rattle.std.specs.Prelude.{◌≡◌, ℕ, List, [], Option, Some, None}
use Rattle.blk_base.specs.Items.{InodeValue}
use Rattle.block_table.specs.declared.tree.Tree.{Tree}
use Rattle.block_table.specs.Table.{Table}
use Rattle.tree_range.specs.Shape.{IsTree, tree_items}
use Rattle.tree_check.specs.Items.{HaveKeys}
use Rattle.flat_model.specs.Names.{FlatName}
use Rattle.flat_model.specs.Volume.{Subvolume}
use Rattle.name_walk.specs.Given.{GivesCoherent}
use Rattle.current_view.specs.View.{seen}
use Rattle.logged_volume.specs.FlatLog.{FlatLog, empty_log}
use Rattle.logged_volume.specs.Accepted.{IsAccepted}
use Rattle.log_image.specs.LogItems.{AreItemsOfLog, inode_in, names_in}
use Rattle.log_image.specs.LogRules.{log_of}
use Rattle.table_volume.specs.Gives.{data_in}

-- the flat log that a log tree's items say; where there is no log tree, the log that says nothing
abbrev pub log_said : Table → Option Tree → FlatLog
log_said table None = empty_log
log_said table (Some tree) = log_of (tree_items table tree) (data_in table)

-- A log tree stands in the table, and its items, with what stands at the addresses that they lead to, are those of this flat
-- log.
pub record SaysLog (table : Table) (tree : Tree) (log : FlatLog) : Type 0 where
  pub tree_in : IsTree table tree
  pub items : AreItemsOfLog (tree_items table tree) (data_in table) log

-- the log tree, where there is one, stands in the table
abbrev pub Stands : Table → Option Tree → Type 0
Stands table None = Unit {0}
Stands table (Some tree) = IsTree table tree

-- the keys of its items fit their fields ("Key")
abbrev pub HasKeys : Table → Option Tree → Type 0
HasKeys table None = Unit {0}
HasKeys table (Some tree) = HaveKeys (tree_items table tree)

-- a log tree, where there is one, says this flat log; else it is the one that says nothing
abbrev pub IsLogAt : Table → Option Tree → FlatLog → Type 0
IsLogAt table None log = log ≡ empty_log
IsLogAt table (Some tree) log = SaysLog table tree log

-- this log is accepted over the committed subvolume, where there is one
abbrev pub IsLogOver : Table → Subvolume → Option Tree → Type 0
IsLogOver table committed None = Unit {0}
IsLogOver table committed (Some tree) = (log : FlatLog) × SaysLog table tree log × IsAccepted committed log

-- the names that a log tree's items say; none where there is no log tree
abbrev pub logged_names : Table → Option Tree → List FlatName
logged_names table None = []
logged_names table (Some tree) = names_in (tree_items table tree)

-- what the item says that the log has of an inode, where it has one ("INODE_ITEM")
abbrev pub value_said : Table → Option Tree → ℕ → Option InodeValue
value_said table None ino = None
value_said table (Some tree) ino = inode_in (tree_items table tree) ino

-- a tree gives a coherent subvolume, and the log beside it is accepted over that subvolume
pub record IsRecovered (table : Table) (tree : Tree) (log : Option Tree) : Type 0 where
  pub committed : GivesCoherent table tree (seen table tree)
  pub log_at : IsLogAt table log (log_said table log)
  pub keys : HasKeys table log
  pub accepted : IsAccepted (seen table tree) (log_said table log)
