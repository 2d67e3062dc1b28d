-- What is proved of these definitions, each sentence by its name.
use Rattle.std.specs.Prelude.{◌≡◌, ◌↔◌, ◌≤◌, ℕ, List, Some, Ok, Err, Contains, IsTrue}
use Rattle.blk_base.specs.declared.key.Key.{Key}
use Rattle.blk_base.specs.declared.fault.ItemFault.{ItemFault}
use Rattle.blk_base.specs.Bytes.{IsBytes}
use Rattle.blk_base.specs.Leaf.{Item}
use Rattle.blk_base.specs.Trees.{ItemsRise}
use Rattle.flat_model.specs.Volume.{Subvolume}
use Rattle.logged_volume.specs.FlatLog.{FlatLog}
use Rattle.logged_volume.specs.Accepted.{IsAccepted}
use Rattle.volume_image.specs.Subvolume.{Data, data_addresses}
use Rattle.log_image.specs.LogItems.{AreItemsOfLog}
use Rattle.log_image.specs.LogRules.{LogRule, FaultyItem, Unaccepted, does_break, first_fault, accepted_log}

-- items with their data blocks are those of one flat log at most
abbrev pub LogIsOne : Type 0
LogIsOne = (items : List Item) (blocks : Data) (one two : FlatLog) → AreItemsOfLog items blocks one → AreItemsOfLog items blocks two → one ≡ two

-- of the data blocks only those count to which the items lead
abbrev pub LogIsLocal : Type 0
LogIsLocal =
    (one two : Data) (items : List Item) (log : FlatLog)
    → AreItemsOfLog items one log
    → ((at : ℕ) → Contains (data_addresses items) at → one at ≡ two at)
    → AreItemsOfLog items two log

-- what a reader has of a log tree before it asks whether the log is accepted: items in order, their bytes, and the data blocks that they lead to
pub record AreRead (items : List Item) (blocks : Data) : Type 0 where
  pub rise : ItemsRise items
  pub are_bytes : (key : Key) (bytes : List ℕ) → Contains items (key, bytes) → IsBytes bytes
  pub blocks_there : (at : ℕ) → Contains (data_addresses items) at → (block : List ℕ) × (blocks at ≡ Some block)

-- a log is accepted exactly where the items are its own and it is accepted over the committed subvolume
abbrev pub AcceptedIsExact : Type 0
AcceptedIsExact =
    (committed : Subvolume) (items : List Item) (blocks : Data) (log : FlatLog)
    → AreRead items blocks
    → (accepted_log committed items blocks ≡ Ok log) ↔ (AreItemsOfLog items blocks log × IsAccepted committed log)

-- a refusal names the first item that has a fault, and that fault
abbrev pub FaultIsFirst : Type 0
FaultIsFirst =
    (committed : Subvolume) (items : List Item) (blocks : Data) (key : Key) (fault : ItemFault)
    → (accepted_log committed items blocks ≡ Err (FaultyItem key fault)) ↔ (first_fault items items ≡ Some (key, fault))

-- or else the lowest objectid that breaks a rule
abbrev pub BrokenIsLowest : Type 0
BrokenIsLowest =
    (committed : Subvolume) (items : List Item) (blocks : Data) (ino : ℕ)
    → accepted_log committed items blocks ≡ Err (Unaccepted ino)
    → ((rule : LogRule) × IsTrue (does_break committed items blocks ino rule))
    × ((other : ℕ) (rule : LogRule) → IsTrue (does_break committed items blocks other rule) → ino ≤ other)
