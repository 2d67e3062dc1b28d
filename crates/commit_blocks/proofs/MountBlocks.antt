-- The table of a mounted volume once its root tree is let go.
use Rattle.std.proofs.Common.{◌≡◌, ◌≢◌, ◌≤◌, ℕ, List, None, sym, ap, subst, ◌∙◌, arith, inl, inr}
use Rattle.std.specs.Prelude.{◌⊎◌, All, Contains, true}
use Rattle.std.proofs.lemmas.List.Elements.{All-contains, Contains-append_cases}
use Rattle.blk_base.specs.Address.{IsAllowed}
use Rattle.blk_base.proofs.Members.{once_apart, once_left}
use Rattle.block_table.specs.declared.state.SlotState.{SlotState}
use Rattle.block_table.specs.declared.state.SlotState.TheVariants.{Dirty, Free, LetGo, Live}
use Rattle.block_table.specs.declared.tree.SubState.{SubState}
use Rattle.block_table.specs.Slot.{BlockSlot}
use Rattle.block_table.specs.Table.{Table, free_blocks}
use Rattle.block_table.specs.TreeIn.{IsTaken, block_at}
use Rattle.flat_model.specs.Volume.{RunVolume}
use Rattle.table_commit.specs.Commit.{AreLetGo, dirty_in}
use Rattle.table_commit.proofs.Gone.{all_clean}
use Rattle.table_volume.specs.Running.{GiveVolume}
use Rattle.tree_frame.proofs.Reading.{IsReadTree, IsReadable, read_tree, reach_taken}
use Rattle.tree_mount.specs.declared.mounted.Mounted.{Mounted}
use Rattle.tree_mount.specs.Mounted.{IsReadyMount, mount_reach}
use Rattle.tree_range.specs.Shape.{tree_reach}
use Rattle.tree_range.proofs.Local.{taken_alike}
use Rattle.volume_seal.specs.Sealed.{IsReady, states_reach}
use Rattle.volume_seal.proofs.States.{all_taken}
use Rattle.commit_blocks.specs.Keeps.{IsGone}
use Rattle.commit_blocks.proofs.MountCount.{used_and_free_are_many}
use Rattle.commit_blocks.proofs.Read.{GoesOn, each, given_now, reach_now, ready_now}

module _ (m : Mounted) (count : ℕ) (ready : IsReadyMount m count) (new : Table) (gone : AreLetGo m.table new (tree_reach m.table m.root)) where
  abbrev old : Table
  old = m.table

  abbrev states : List SubState
  states = m.states.items

  abbrev root_reach : List ℕ
  root_reach = tree_reach old m.root

  abbrev reach : List ℕ
  reach = states_reach old states

  apart : (at : ℕ) → Contains reach at → Contains root_reach at → ⊥
  apart at here there = once_apart root_reach reach ready.once at there here

  root_taken : All (IsTaken old) root_reach
  root_taken = reach_taken m.root.level old true m.root.root.0 ready.root.shape

  states_taken : All (IsTaken old) reach
  states_taken = all_taken old states ready.run ready.given

  -- ---- blocks by their states

  live_at : (at : ℕ) → (block_at old at).state ≢ Free → (block_at old at).state ≡ Live
  live_at at used = elim (ready.live at) [ inl free ↦ absurd (used free) | inr live ↦ live ]

  root_live : (at : ℕ) → Contains root_reach at → (block_at old at).state ≡ Live
  root_live at there = live_at at (All-contains (IsTaken old) root_reach at root_taken there).taken

  live_clean : (at : ℕ) → (block_at old at).state ≡ Live → (block_at old at).state ≢ Dirty
  live_clean at live dirty = let wrong : Live ≡ Dirty = sym live ∙ dirty in cc

  pub root_now : (at : ℕ) → Contains root_reach at → block_at new at ≡ record (block_at old at) { state = LetGo; stood = None }
  root_now at there = (gone.each at there).written (live_clean at (root_live at there))

  pub others_now : (at : ℕ) → (Contains root_reach at → ⊥) → block_at new at ≡ block_at old at
  others_now at out = gone.others at out

  pub same_now : (at : ℕ) → Contains reach at → block_at new at ≡ block_at old at
  same_now at here = gone.others at (apart at here)

  -- ---- the root tree
  root_readable : (at : ℕ) → Contains root_reach at → IsReadable old new at
  root_readable at there =
      let now = root_now at there in
      let was = All-contains (IsTaken old) root_reach at root_taken there in
      (record { allowed = subst (λ (n : ℕ). IsAllowed n at) (sym gone.size) was.allowed; taken = λ free. let wrong : LetGo ≡ Free = sym (ap (λ (slot : BlockSlot). slot.state) now) ∙ free in cc }, ap (λ (slot : BlockSlot). slot.bytes) now)

  root_read : IsReadTree old new m.root
  root_read = read_tree old new m.root (each (IsReadable old new) root_reach root_readable)

  pub root_same : tree_reach new m.root ≡ root_reach
  root_same = root_read.reach

  pub root_gone : IsGone new m.root
  root_gone = record {
    tree_in = root_read.stands ready.root;
    ready = λ at there. ap (λ (slot : BlockSlot). slot.state) (root_now at (subst (λ (l : List ℕ). Contains l at) root_same there));
  }

  -- ---- the subvolumes
  readable : (at : ℕ) → Contains reach at → IsReadable old new at
  readable at here =
      (taken_alike old new at (same_now at here) (All-contains (IsTaken old) reach at states_taken here), ap (λ (slot : BlockSlot). slot.bytes) (same_now at here))

  live_now : (at : ℕ) → Contains reach at → (block_at new at).state ≡ Live
  live_now at here =
      ap (λ (slot : BlockSlot). slot.state) (same_now at here) ∙ live_at at (All-contains (IsTaken old) reach at states_taken here).taken

  current : (at : ℕ) → Contains reach at → (block_at new at).state ≢ LetGo
  current at here is = let wrong : Live ≡ LetGo = sym (live_now at here) ∙ is in cc

  dirty_goes : (at : ℕ) → Contains reach at → GoesOn (λ (s : SlotState). s ≡ Dirty) (λ (s : SlotState). s ≡ Dirty) old new at
  dirty_goes at here =
      let same = same_now at here in
      record {
        bytes = ap (λ (slot : BlockSlot). slot.bytes) same;
        down = λ is. ap (λ (slot : BlockSlot). slot.state) (sym same) ∙ is;
        up = λ is. ap (λ (slot : BlockSlot). slot.state) same ∙ is;
      }

  pub reach_same : states_reach new states ≡ reach
  reach_same = reach_now old new states ready.run ready.given readable current

  pub gives_now : (run : RunVolume) → GiveVolume old states run → GiveVolume new states run
  gives_now run given = given_now old new states run given readable current

  pub seals_now : All (λ (state : SubState). IsReady new state.tree m.superblock.fsid) states
  seals_now = ready_now old new states ready.run ready.given readable current m.superblock.fsid dirty_goes ready.ready

  -- ---- what is there
  pub known : (at : ℕ) → (block_at old at).state ≢ Free → Contains (mount_reach m) at
  known at used = ready.accounted at used (λ let_go. let wrong : Live ≡ LetGo = sym (live_at at used) ∙ let_go in cc)

  pub taken : (at : ℕ) → Contains (mount_reach m) at → IsTaken old at
  taken at there = elim (Contains-append_cases root_reach reach at there) [
    | inl root ↦ All-contains (IsTaken old) root_reach at root_taken root
    | inr state ↦ All-contains (IsTaken old) reach at states_taken state
  ]

  pub used_before : (at : ℕ) → (block_at new at).state ≢ Free → (block_at old at).state ≢ Free
  used_before at used free =
      used (ap (λ (slot : BlockSlot). slot.state) (others_now at (λ there. (All-contains (IsTaken old) root_reach at root_taken there).taken free)) ∙ free)

  pub bytes_same : (at : ℕ) → (block_at new at).bytes ≡ (block_at old at).bytes
  bytes_same at = elim (Rattle.blk_base.proofs.Members.is_in root_reach at) [
    | inl there ↦ ap (λ (slot : BlockSlot). slot.bytes) (root_now at there)
    | inr out ↦ ap (λ (slot : BlockSlot). slot.bytes) (others_now at out)
  ]

  -- what a block that is in use is then: LetGo or Live
  pub state_now : (at : ℕ) → Contains (mount_reach m) at → ((block_at new at).state ≡ LetGo) ⊎ ((block_at new at).state ≡ Live)
  state_now at there = elim (Contains-append_cases root_reach reach at there) [
    | inl root ↦ inl (ap (λ (slot : BlockSlot). slot.state) (root_now at root))
    | inr state ↦ inr (live_now at state)
  ]

  -- ---- how much is Free
  pub enough : 100 ≤ free_blocks new
  enough =
      let many = used_and_free_are_many old (mount_reach m) known in
      let room = ready.room in
      let size = ready.size in
      let none : dirty_in old root_reach ≡ 0 = all_clean old root_reach (each (λ (at : ℕ). (block_at old at).state ≢ Dirty) root_reach (λ at there. live_clean at (root_live at there))) in
      let same = gone.free in
      omega (arith, many, room, size, none, same)
