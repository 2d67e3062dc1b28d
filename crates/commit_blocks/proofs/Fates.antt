-- What a seal of the whole volume makes of each block.
use Rattle.std.proofs.Common.{◌≡◌, ◌≢◌, ◌∙◌, ◌≤◌, ◌+◌, ◌-◌, ◌%◌, true, ℕ, List, None, length, refl, sym, ap, subst, inl, inr}
use Rattle.std.specs.Prelude.{Contains}
use Rattle.std.proofs.lemmas.List.Elements.{All-contains, Contains-append_cases}
use Rattle.blk_base.specs.Address.{IsAllowed}
use Rattle.blk_base.specs.Bytes.{Image}
use Rattle.blk_base.proofs.Members.{is_in}
use Rattle.block_table.specs.declared.state.SlotState.TheVariants.{Dirty, Free, LetGo, Sealed}
use Rattle.block_table.specs.declared.tree.SubState.{SubState}
use Rattle.block_table.specs.Blocks.{BlockList}
use Rattle.block_table.specs.Slot.{BlockSlot}
use Rattle.block_table.specs.Table.{Table, free_blocks, with_lists}
use Rattle.block_table.specs.TreeIn.{IsTaken, block_at}
use Rattle.commit_images.specs.Scene.{Scene}
use Rattle.flat_model.specs.Volume.{RunVolume}
use Rattle.table_volume.specs.Gives.{sub_reach}
use Rattle.table_volume.specs.Running.{GiveVolume}
use Rattle.tree_frame.proofs.Reading.{all_joined, reach_taken}
use Rattle.tree_range.specs.Shape.{tree_reach}
use Rattle.tree_seal.proofs.Trees.{dirty_or_not}
use Rattle.tree_seal.specs.Sealing.{IsSealedSlot}
use Rattle.volume_seal.specs.Sealed.{states_reach}
use Rattle.volume_seal.proofs.States.{all_taken}
use Rattle.commit_blocks.specs.declared.kept.Kept.{Kept}
use Rattle.commit_blocks.specs.Keeps.{IsQuiet, IsTurn, KeepsBlocks}
use Rattle.commit_blocks.specs.Steps.{IsKeptSealed}
use Rattle.commit_blocks.proofs.Counting.{free_falls}
use Rattle.commit_blocks.proofs.Read.{given_now, reach_now}
use Rattle.commit_blocks.proofs.Running.{running_reach}

abbrev pub reach_of : Kept → List ℕ
reach_of kept = states_reach kept.table kept.states.items

-- the table while a list is out
abbrev pub lent : Table → Table
lent table = with_lists table (table.lists - 1)

-- what became of a block
pub data Fate (root reach : List ℕ) (old new : Table) (at : ℕ) : Type 0 where
  IsNew : Contains root at → (block_at old at).state ≡ Free → (block_at new at).state ≡ Sealed → Fate root reach old new at
  WasDirty : Contains reach at → (block_at old at).state ≡ Dirty → (block_at new at).state ≡ Sealed → Fate root reach old new at
  Stays : block_at new at ≡ block_at old at → (Contains root at → ⊥) → (Contains reach at → (block_at old at).state ≢ Dirty) → Fate root reach old new at
  AreBothFree : (block_at old at).state ≡ Free → (block_at new at).state ≡ Free → Fate root reach old new at

-- the volume's blocks are taken, and current
pub states_taken : (table : Table) (states : List SubState) (run : RunVolume) → GiveVolume table states run → (at : ℕ) → Contains (states_reach table states) at → IsTaken table at
states_taken table states run given at there = All-contains (IsTaken table) (states_reach table states) at (all_taken table states run given) there

pub states_current : (table : Table) (states : List SubState) (run : RunVolume) → GiveVolume table states run → (at : ℕ) → Contains (states_reach table states) at → (block_at table at).state ≢ LetGo
states_current table states run given at there =
    All-contains (λ (a : ℕ). (block_at table a).state ≢ LetGo) (states_reach table states) at
    (all_joined (λ (a : ℕ). (block_at table a).state ≢ LetGo) (λ (state : SubState). sub_reach table state.tree) states (λ k d within. (given.each k d within).gives.current)) there

module _ (old new : Kept) (image : Image) (run : RunVolume) (scene : Scene) (superblock : List ℕ) (out : BlockList) (keeps : KeepsBlocks old image run scene) (none : old.sealed ≡ None) (s : IsKeptSealed old new superblock out) where
  pub quiet : IsQuiet old scene
  quiet = subst (IsTurn old scene) none keeps.turn

  pub taken : (at : ℕ) → Contains (reach_of old) at → IsTaken old.table at
  taken = states_taken old.table old.states.items run keeps.current.given

  pub current_at : (at : ℕ) → Contains (reach_of old) at → (block_at old.table at).state ≢ LetGo
  current_at = states_current old.table old.states.items run keeps.current.given

  lent_readable : (at : ℕ) → Contains (reach_of old) at → IsTaken (lent old.table) at × ((block_at (lent old.table) at).bytes ≡ (block_at old.table at).bytes)
  lent_readable at there = let was = taken at there in (record { allowed = was.allowed; taken = was.taken }, refl)

  pub lent_reach : states_reach (lent old.table) old.states.items ≡ reach_of old
  lent_reach = reach_now old.table (lent old.table) old.states.items run keeps.current.given lent_readable current_at

  pub lent_given : GiveVolume (lent old.table) old.states.items run
  lent_given = given_now old.table (lent old.table) old.states.items run keeps.current.given lent_readable current_at

  pub sealed_reach : states_reach new.table old.states.items ≡ reach_of old
  sealed_reach = s.sealed.reach ∙ lent_reach

  pub new_reach : reach_of new ≡ reach_of old
  new_reach = ap (λ (l : List SubState). states_reach new.table l) s.states ∙ running_reach new.table _ old.states.items ∙ sealed_reach

  pub size : length new.table.slots ≡ length old.table.slots
  size = s.sealed.kept.size

  pub fate : (at : ℕ) → Fate (tree_reach new.table s.root) (reach_of old) old.table new.table at
  fate at = elim (is_in (tree_reach new.table s.root) at) [
    | inl here ↦ IsNew here (All-contains (λ (a : ℕ). (block_at old.table a).state ≡ Free) (tree_reach new.table s.root) at s.sealed.made.fresh here) (All-contains (λ (a : ℕ). (block_at new.table a).state ≡ Sealed) (tree_reach new.table s.root) at s.sealed.made.now here)
    | inr not_root ↦ elim (is_in (reach_of old) at) [
      | inl there ↦
          let slot : IsSealedSlot (block_at old.table at) (block_at new.table at) = s.sealed.slots at (subst (λ (l : List ℕ). Contains l at) (sym lent_reach) there) in
          elim (dirty_or_not (block_at old.table at).state) [
            | inl dirty ↦ WasDirty there dirty (ap (λ (slot : BlockSlot). slot.state) (slot.dirty dirty))
            | inr clean ↦ Stays (slot.written clean) not_root (λ _. clean)
          ]
      | inr outside ↦ elim (s.sealed.kept.others at (λ k. elim (Contains-append_cases (tree_reach new.table s.root) (states_reach (lent old.table) old.states.items) at k) [
        | inl here ↦ not_root here
        | inr there ↦ outside (subst (λ (l : List ℕ). Contains l at) lent_reach there)
      ])) [
        | inl same ↦ Stays same not_root (λ k. absurd (outside k))
        | inr both ↦ AreBothFree both.before both.after
      ]
    ]
  ]

  -- what was on the device, or on its way, stays
  pub fixed : (at : ℕ) → (block_at old.table at).state ≢ Free → (block_at old.table at).state ≢ Dirty → block_at new.table at ≡ block_at old.table at
  fixed at not_free not_dirty = elim (fate at) [
    | IsNew here free now ↦ absurd (not_free free)
    | WasDirty there dirty now ↦ absurd (not_dirty dirty)
    | Stays same not_root clean ↦ same
    | AreBothFree before behind ↦ absurd (not_free before)
  ]

  pub root_taken : (at : ℕ) → Contains (tree_reach new.table s.root) at → IsTaken new.table at
  root_taken at here = All-contains (IsTaken new.table) (tree_reach new.table s.root) at (reach_taken s.root.level new.table true s.root.root.0 s.sealed.made.tree.shape) here

  pub allowed : (at : ℕ) → (block_at new.table at).state ≢ Free → IsAllowed (length new.table.slots) at
  allowed at not_free = elim (fate at) [
    | IsNew here free now ↦ (root_taken at here).allowed
    | WasDirty there dirty now ↦ subst (λ (n : ℕ). IsAllowed n at) (sym size) (taken at there).allowed
    | Stays same not_root clean ↦ subst (λ (n : ℕ). IsAllowed n at) (sym size) (keeps.current.allowed at (λ free. not_free (ap (λ (slot : BlockSlot). slot.state) same ∙ free)))
    | AreBothFree before behind ↦ absurd (not_free behind)
  ]

  pub whole_at : (at : ℕ) → (block_at new.table at).state ≢ Free → at % 4096 ≡ 0
  whole_at at not_free = (allowed at not_free).aligned

  pub free_left : free_blocks old.table ≤ free_blocks new.table + length (tree_reach new.table s.root)
  free_left = free_falls old.table new.table (tree_reach new.table s.root) size (λ at was is. elim (fate at) [
    | IsNew here free now ↦ here
    | WasDirty there dirty now ↦ absurd (let wrong : Free ≡ Dirty = sym was ∙ dirty in cc)
    | Stays same not_root clean ↦ absurd (is (ap (λ (slot : BlockSlot). slot.state) same ∙ was))
    | AreBothFree before behind ↦ absurd (is behind)
  ])
