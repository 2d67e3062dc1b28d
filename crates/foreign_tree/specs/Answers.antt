-- What a reader's answer says of a tree.
use Rattle.std.specs.Prelude.{◌≡◌, ◌++◌, ◌-◌, ℕ, List, Some, Result, Ok, Err}
use Rattle.blk_base.specs.Leaf.{Pointer}
use Rattle.foreign_format.specs.declared.fault.ForeignFault.{ForeignFault}
use Rattle.foreign_format.specs.declared.fault.ReadFault.{ReadFault}
use Rattle.foreign_format.specs.declared.fault.ReadFault.TheVariants.{Foreign, Disk, OutOfMemory}
use Rattle.foreign_tree.specs.declared.reached.Reached.{Reached}
use Rattle.foreign_tree.specs.declared.volume.Wanted.{Wanted}
use Rattle.foreign_tree.specs.Reached.{HasReached}
use Rattle.foreign_tree.specs.Tree.{Found, VolumeValue, Walked, opened, walk_from}

-- the fault says nothing of the volume: the disk failed, or there is no memory
abbrev pub IsNoCheck : ReadFault → Type 0
IsNoCheck (Foreign fault) = ⊥
IsNoCheck Disk = Unit {0}
IsNoCheck OutOfMemory = Unit {0}

-- a visitor was shown these items behind those from before (own)
abbrev pub HasMetMore : {V : Type 0} → (V → List Found → Type 0) → V → V → List Found → Type 0
HasMetMore has_met old new items = (before : List Found) → has_met old before → has_met new (before ++ items)

-- The answer is the walk's: its visitor was shown exactly the items that the walk meets, or the fault is its first. Where the
-- disk failed, or memory, nothing is said.
abbrev pub IsWalk : {V : Type 0} → (V → List Found → Type 0) → V → V → Result (Unit {0}) ReadFault → Result Walked ForeignFault → Type 0
IsWalk has_met old new (Ok _) defined = (walked : Walked) × (defined ≡ Ok walked) × HasMetMore has_met old new walked.items
IsWalk has_met old new (Err (Foreign fault)) defined = defined ≡ Err fault
IsWalk has_met old new (Err Disk) defined = Unit {0}
IsWalk has_met old new (Err OutOfMemory) defined = Unit {0}

-- ---- the walk from one block down, by what was reached before

-- the walk that goes on at this block
abbrev pub walk_at : VolumeValue → List ℕ → Wanted → Walked → Result Walked ForeignFault
walk_at volume disk wanted before = walk_from wanted.level volume disk wanted.at wanted.generation before

-- The walk from this block on meets items at these addresses, and the visitor was shown them (own).
pub record IsWalkedBelow {V : Type 0} (has_met : V → List Found → Type 0) (volume : VolumeValue) (disk : List ℕ) (wanted : Wanted) (old new : Reached) (from to : V) : Type 0 where
  pub items : List Found
  pub reach : List ℕ
  pub walks : (before : Walked) → HasReached old before.reached → walk_at volume disk wanted before ≡ Ok (record { items = before.items ++ items; reached = before.reached ++ reach })
  pub reached : (before : List ℕ) → HasReached old before → HasReached new (before ++ reach)
  pub met : HasMetMore has_met from to items

-- this is the first fault of the walk from this block on, where it is one of the volume (own)
abbrev pub IsFaultBelow : VolumeValue → List ℕ → Wanted → Reached → ReadFault → Type 0
IsFaultBelow volume disk wanted old (Foreign fault) = (before : Walked) → HasReached old before.reached → walk_at volume disk wanted before ≡ Err fault
IsFaultBelow volume disk wanted old Disk = Unit {0}
IsFaultBelow volume disk wanted old OutOfMemory = Unit {0}

-- this is the first check of the block that fails, where it is one of the volume (own)
abbrev pub IsNotOpened : VolumeValue → List ℕ → Wanted → Reached → ReadFault → Type 0
IsNotOpened volume disk wanted old (Foreign fault) =
    (before : List ℕ) → HasReached old before → opened volume disk wanted.level wanted.at wanted.generation before ≡ Err fault
IsNotOpened volume disk wanted old Disk = Unit {0}
IsNotOpened volume disk wanted old OutOfMemory = Unit {0}

-- the child that a pointer leads to, one level below its node ("Internal Node")
abbrev pub child_wanted : ℕ → Pointer → Wanted
child_wanted level pointer = record { at = pointer.at; generation = Some pointer.generation; level = level - 1 }
