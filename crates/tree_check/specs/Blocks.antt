-- The data blocks of trees, one after another: the first that has no place of its own.
use Rattle.std.specs.Prelude.{◌≡◌, ◌++◌, ◌/◌, ℕ, List, [], ◌∷◌, length, All, Bool, true, false, not, slice_index_or, Option, Some, None, Result, Ok, Err, if◌then◌else◌}
use Rattle.std.specs.List.{flat_map}
use Rattle.blk_base.specs.Address.{IsAllowed, is_allowed}
use Rattle.blk_base.specs.Bytes.{Image}
use Rattle.blk_base.specs.declared.format.TheConstants.{BLOCK_SIZE}
use Rattle.block_table.specs.declared.tree.Tree.{Tree}
use Rattle.block_table.specs.Table.{Table}
use Rattle.disk_model.specs.Disk.{IfTold}
use Rattle.tree_load.specs.Loaded.{AreTaken, HasBytes, IsLoad}
use Rattle.tree_range.specs.Shape.{tree_items}
use Rattle.volume_image.specs.Subvolume.{data_addresses, run_addresses}
use Rattle.volume_image.specs.Tree.{AreApart, NoneTwice, was_reached}
use Rattle.tree_check.specs.declared.fault.TreeFault.{TreeFault}
use Rattle.tree_check.specs.declared.fault.TreeFault.TheVariants.{Outside, Twice, Disk, OutOfMemory}
use Rattle.tree_check.specs.declared.runs.Run.{Run}

-- ---- in order, after those at the addresses reached before

-- the first of these byte addresses that isn't allowed, or that was reached before (own)
abbrev pub blocks_checked : ℕ → List ℕ → List ℕ → Result (Unit {0}) TreeFault
blocks_checked blocks reached [] = Ok tt
blocks_checked blocks reached (at ∷ addresses) =
    if not (is_allowed blocks at) then Err (Outside (record { 0 = at })) else
    if was_reached at reached then Err (Twice (record { 0 = at })) else blocks_checked blocks (at ∷ reached) addresses

-- each is allowed, none stands twice, and none was reached before
pub record AreFresh (blocks : ℕ) (reached addresses : List ℕ) : Type 0 where
  pub allowed : All (IsAllowed blocks) addresses
  pub once : NoneTwice addresses
  pub apart : AreApart reached addresses

-- The answer for data blocks at these addresses, each block that the table has counting as reached before. Faults of the disk
-- and of memory say nothing of them (own).
abbrev pub IsDataAnswer : Table → List ℕ → Result (Unit {0}) TreeFault → Type 0
IsDataAnswer table addresses (Err Disk) = Unit {0}
IsDataAnswer table addresses (Err OutOfMemory) = Unit {0}
IsDataAnswer table addresses answer = (reached : List ℕ) → AreTaken table reached → blocks_checked (length table.slots) reached addresses ≡ answer

-- ---- of trees

-- the byte addresses of the data blocks of a tree, by rising keys, the blocks of a run in order
abbrev pub tree_data : Table → Tree → List ℕ
tree_data table tree = data_addresses (tree_items table tree)

-- those of trees, one behind the other
abbrev pub trees_data : Table → List Tree → List ℕ
trees_data table trees = flat_map (tree_data table) trees

-- the answer for the data blocks of trees, none reached before; a fault of memory says nothing of them
abbrev pub IsOnceAnswer : Table → List Tree → Result (Unit {0}) TreeFault → Type 0
IsOnceAnswer table trees (Err OutOfMemory) = Unit {0}
IsOnceAnswer table trees answer = blocks_checked (length table.slots) [] (trees_data table trees) ≡ answer

-- ---- runs of blocks

abbrev pub run_of : Run → List ℕ
run_of run = run_addresses run.at.0 run.count

abbrev pub runs_of : List Run → List ℕ
runs_of runs = flat_map run_of runs

abbrev pub run_found : Option Run → List ℕ
run_found None = []
run_found (Some run) = run_of run

-- ---- some of the blocks of a call

-- The data blocks at these addresses were read into the table with what the device has there, and the check goes on behind them (own).
pub record AreRead (seen : Option Image) (old new : Table) (addresses : List ℕ) : Type 0 where
  pub load : IsLoad true old new addresses
  pub told : IfTold seen (λ image. HasBytes image new addresses)
  pub goes_on : (reached now rest : List ℕ) → AreTaken old reached → AreTaken new now
      → blocks_checked (length old.slots) reached (addresses ++ rest) ≡ blocks_checked (length new.slots) now rest

-- this is the first fault of the blocks at these addresses, whatever comes behind them (own)
abbrev pub IsDataFault : Table → List ℕ → TreeFault → Type 0
IsDataFault table addresses Disk = Unit {0}
IsDataFault table addresses OutOfMemory = Unit {0}
IsDataFault table addresses fault =
    (reached rest : List ℕ) → AreTaken table reached → blocks_checked (length table.slots) reached (addresses ++ rest) ≡ Err fault

-- ---- marks of the blocks of a volume

-- the mark of a block says whether it was reached (own)
abbrev pub AreMarked : ℕ → List Bool → List ℕ → Type 0
AreMarked blocks marks reached = (at : ℕ) → IsAllowed blocks at → slice_index_or marks (at / BLOCK_SIZE) false ≡ was_reached at reached

-- The blocks at these addresses were marked too: what the marks say was reached then, and the check goes on behind them (own).
pub record IsMarked (blocks : ℕ) (new : List Bool) (reached addresses : List ℕ) : Type 0 where
  pub now : List ℕ
  pub marked : AreMarked blocks new now
  pub goes_on : (rest : List ℕ) → blocks_checked blocks reached (addresses ++ rest) ≡ blocks_checked blocks now rest

abbrev pub AreMore : ℕ → List Bool → List Bool → List ℕ → Type 0
AreMore blocks old new addresses = (reached : List ℕ) → AreMarked blocks old reached → IsMarked blocks new reached addresses

-- this is the first fault of the blocks at these addresses, whatever comes behind them (own)
abbrev pub IsMarkFault : ℕ → List Bool → List ℕ → TreeFault → Type 0
IsMarkFault blocks marks addresses fault =
    (reached rest : List ℕ) → AreMarked blocks marks reached → blocks_checked blocks reached (addresses ++ rest) ≡ Err fault
