-- Who holds a turn, and how a commit that runs ended.
use Rattle.std.specs.Prelude.{◌≡◌, ◌≢◌, ◌%◌, ℕ, Bool, List, [], ◌∷◌, Option, Some, None, filter, nat_eq}
use Rattle.std.specs.FinMap.{get}
use Rattle.commit_history.specs.declared.event.Turn.{Turn}
use Rattle.commit_history.specs.declared.event.Turn.TheVariants as turns
use Rattle.commit_history.specs.Legal.{HoldsFull}
use Rattle.commit_history.specs.State.{FullCommit, RootCommit, Slot, State, SubLog}
use Rattle.commit_images.specs.Admissible.{has_failed}
use Rattle.commit_images.specs.Scene.{IsWritten, Mounted, Scene}
use Rattle.commit_core.specs.Coming.{state_of}

-- the caller runs the full commit (own)
abbrev pub IsFullOf : Mounted → Scene → ℕ → Type 0
IsFullOf mounted scene caller = HoldsFull (state_of mounted scene) caller

-- the superblock of the commit that runs isn't written, and this says whether its write was made (own)
pub record HasFailed (scene : Scene) (tried : Bool) : Type 0 where
  pub not_written : scene.progress ≢ IsWritten
  pub tells : tried ≡ has_failed scene.progress

-- the holder of the first of these slots
abbrev pub holder_in : List Slot → Option ℕ
holder_in [] = None
holder_in (slot ∷ slots) = Some slot.holder

-- the first of the callers
abbrev pub first_caller : List ℕ → Option ℕ
first_caller [] = None
first_caller (caller ∷ callers) = Some caller

-- the slots of a subvolume's log with this number modulo 2
abbrev pub slots_of : Option SubLog → ℕ → List Slot
slots_of None parity = []
slots_of (Some log) parity = filter (λ (slot : Slot). nat_eq (slot.number % 2) parity) log.slots

abbrev pub root_holder : Option RootCommit → Option ℕ
root_holder None = None
root_holder (Some root) = Some root.holder

-- the caller that runs the full commit, or where none runs the one with the oldest want
abbrev pub full_holder : Option FullCommit → List ℕ → Option ℕ
full_holder None wants = first_caller wants
full_holder (Some full) wants = Some full.holder

-- the caller that holds a turn, and for a full turn that is only wanted the caller with the oldest want (own)
abbrev pub holder_of : State → Turn → Option ℕ
holder_of state (turns.Slot sub parity) = holder_in (slots_of (get state.logs sub.0) parity)
holder_of state turns.Root = root_holder state.root
holder_of state turns.Full = full_holder state.full state.wants
