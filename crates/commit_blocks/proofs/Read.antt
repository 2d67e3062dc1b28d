-- A volume whose blocks keep their bytes, where none of them is let go.
use Rattle.std.proofs.Common.{◌≡◌, ◌≢◌, ℕ, zero, suc, List, [], sym, ap, subst, inl}
use Rattle.std.specs.Prelude.{All, Contains, slice_index_or}
use Rattle.std.specs.List.{flat_map}
use Rattle.std.proofs.lemmas.List.Elements.{All-contains_itself, All-head, All-tail, All-weaker, Contains-append_left}
use Rattle.blk_base.specs.declared.key.Want.{Want}
use Rattle.blk_base.specs.Leaf.{HeaderFits, IsNodeBody, Pointer}
use Rattle.blk_base.specs.Trees.{NoneTwice, child_want}
use Rattle.block_table.specs.declared.state.SlotState.{SlotState}
use Rattle.block_table.specs.declared.state.SlotState.TheVariants.{Dirty, LetGo}
use Rattle.block_table.specs.declared.tree.SubState.{SubState}
use Rattle.block_table.specs.Table.{Table}
use Rattle.block_table.specs.TreeIn.{IsSealedBlock, IsSealedSubtree, block_at}
use Rattle.flat_model.specs.Volume.{RunVolume}
use Rattle.table_volume.specs.Gives.{sub_reach, tree_data}
use Rattle.table_volume.specs.Running.{GiveVolume, GivesPart}
use Rattle.table_volume.proofs.Giving.{IsReadSub, gives_by_bytes, read_sub}
use Rattle.tree_frame.specs.Frame.{AreCurrent, AreReadable}
use Rattle.tree_frame.proofs.Reading.{IsReadable, all_parts, flat_map_same}
use Rattle.tree_frame.proofs.Sealed.{pointers_shown}
use Rattle.tree_range.specs.Shape.{listed, node_pointers, reach_below, tree_reach}
use Rattle.tree_seal.specs.Above.{DirtyIsAbove}
use Rattle.volume_image.proofs.Members.{flat_map_in}
use Rattle.volume_seal.specs.Sealed.{IsReady, states_reach}
use Rattle.blk_base.specs.Leaf.{node_body_of}
use Rattle.commit_blocks.specs.Keeps.{BusyIsAbove, IsBusy}

-- what holds of each member holds of all
pub each : {X : Type 0} (P : X → Type 0) (xs : List X) → ((x : X) → Contains xs x → P x) → All P xs
each P xs f = All-weaker (Contains xs) P f xs (All-contains_itself xs)

pub pointers_read : (old new : Table) (at : ℕ) → (block_at new at).bytes ≡ (block_at old at).bytes → node_pointers new at ≡ node_pointers old at
unfolding node_pointers
pointers_read old new at same = ap (λ (bytes : List ℕ). listed (node_body_of bytes)) same

-- ---- what is Dirty, or Sealed, below what isn't

first_of : (P : ℕ → Type 0) (level : ℕ) (table : Table) (at : ℕ) → All P (reach_below level table at) → P at
first_of P zero table at h = All-head P at [] h
first_of P (suc level) table at h = All-head P at (flat_map (λ (pointer : Pointer). reach_below level table pointer.at) (node_pointers table at)) h

-- how a block's bytes, and whether it counts, go on: what counts now counted, and what counted counts
pub record GoesOn (Was Is : SlotState → Type 0) (old new : Table) (at : ℕ) : Type 0 where
  pub bytes : (block_at new at).bytes ≡ (block_at old at).bytes
  pub down : Is (block_at new at).state → Was (block_at old at).state
  pub up : Was (block_at old at).state → Is (block_at new at).state

abbrev IsDirty : SlotState → Type 0
IsDirty state = state ≡ Dirty

abbrev DirtyUnder : ℕ → Table → ℕ → Pointer → Type 0
DirtyUnder level table at pointer = ((block_at table pointer.at).state ≡ Dirty → (block_at table at).state ≡ Dirty) × DirtyIsAbove level table pointer.at

abbrev BusyUnder : ℕ → Table → ℕ → Pointer → Type 0
BusyUnder level table at pointer = (IsBusy (block_at table pointer.at).state → IsBusy (block_at table at).state) × BusyIsAbove level table pointer.at

module _ (level : ℕ) (old new : Table) (at : ℕ) (P : ℕ → Type 0) (all : All P (reach_below (suc level) old at)) where
  pub here_of : P at
  here_of = All-head P at (flat_map (λ (pointer : Pointer). reach_below level old pointer.at) (node_pointers old at)) all

  pub parts_of : All (λ (pointer : Pointer). All P (reach_below level old pointer.at)) (node_pointers old at)
  parts_of = all_parts P (λ (pointer : Pointer). reach_below level old pointer.at) (node_pointers old at) (All-tail P at (flat_map (λ (pointer : Pointer). reach_below level old pointer.at) (node_pointers old at)) all)

pub dirty_above_read : (level : ℕ) (old new : Table) (at : ℕ) → All (GoesOn IsDirty IsDirty old new) (reach_below level old at) → DirtyIsAbove level old at → DirtyIsAbove level new at
dirty_above_read zero old new at all above = tt
dirty_above_read (suc level) old new at all above =
    let G : ℕ → Type 0 = GoesOn IsDirty IsDirty old new in
    let here : G at = here_of level old new at G all in
    subst (All (DirtyUnder level new at)) (sym (pointers_read old new at here.bytes)) (λ i d within.
    let child : ℕ = (slice_index_or (node_pointers old at) i d).at in
    let part : All G (reach_below level old child) = parts_of level old new at G all i d within in
    (λ dirty. here.up ((above i d within).0 ((first_of G level old child part).down dirty)), dirty_above_read level old new child part (above i d within).1))

pub busy_above_read : (level : ℕ) (old new : Table) (at : ℕ) → All (GoesOn IsBusy IsBusy old new) (reach_below level old at) → BusyIsAbove level old at → BusyIsAbove level new at
busy_above_read zero old new at all above = tt
busy_above_read (suc level) old new at all above =
    let G : ℕ → Type 0 = GoesOn IsBusy IsBusy old new in
    let here : G at = here_of level old new at G all in
    subst (All (BusyUnder level new at)) (sym (pointers_read old new at here.bytes)) (λ i d within.
    let child : ℕ = (slice_index_or (node_pointers old at) i d).at in
    let part : All G (reach_below level old child) = parts_of level old new at G all i d within in
    (λ busy. here.up ((above i d within).0 ((first_of G level old child part).down busy)), busy_above_read level old new child part (above i d within).1))

pub dirty_from_busy : (level : ℕ) (old new : Table) (at : ℕ) → All (GoesOn IsBusy IsDirty old new) (reach_below level old at) → BusyIsAbove level old at → DirtyIsAbove level new at
dirty_from_busy zero old new at all above = tt
dirty_from_busy (suc level) old new at all above =
    let G : ℕ → Type 0 = GoesOn IsBusy IsDirty old new in
    let here : G at = here_of level old new at G all in
    subst (All (DirtyUnder level new at)) (sym (pointers_read old new at here.bytes)) (λ i d within.
    let child : ℕ = (slice_index_or (node_pointers old at) i d).at in
    let part : All G (reach_below level old child) = parts_of level old new at G all i d within in
    (λ dirty. here.up ((above i d within).0 ((first_of G level old child part).down dirty)), dirty_from_busy level old new child part (above i d within).1))

-- ---- headers of blocks that aren't Dirty

-- a block keeps its bytes, and what is Dirty stays so
pub record StaysDirty (old new : Table) (at : ℕ) : Type 0 where
  pub bytes : (block_at new at).bytes ≡ (block_at old at).bytes
  pub stays : (block_at old at).state ≡ Dirty → (block_at new at).state ≡ Dirty

block_read : (old new : Table) (want : Want) → StaysDirty old new want.at.0 → IsSealedBlock old want → IsSealedBlock new want
block_read old new want one h clean =
    subst (λ (bytes : List ℕ). HeaderFits want bytes) (sym one.bytes) (h (λ dirty. clean (one.stays dirty)))

pub sealed_read : (level : ℕ) (old new : Table) (want : Want) → All (StaysDirty old new) (reach_below level old want.at.0) → IsSealedSubtree level old want → IsSealedSubtree level new want
sealed_read zero old new want all h = block_read old new want (All-head (StaysDirty old new) want.at.0 [] all) h
sealed_read (suc level) old new want all h =
    let P : ℕ → Type 0 = StaysDirty old new in
    let at = want.at.0 in
    let here : P at = here_of level old new at P all in
    let children : (pointers : List Pointer) → IsNodeBody (block_at new at).bytes pointers → All (λ (pointer : Pointer). IsSealedSubtree level new (child_want want pointer level)) pointers =
    λ pointers body i d within.
    let was : IsNodeBody (block_at old at).bytes pointers = subst (λ (bytes : List ℕ). IsNodeBody bytes pointers) here.bytes body in
    let parts : All (λ (pointer : Pointer). All P (reach_below level old pointer.at)) pointers = subst (λ (l : List Pointer). All (λ (pointer : Pointer). All P (reach_below level old pointer.at)) l) (pointers_shown old at pointers was) (parts_of level old new at P all) in
    sealed_read level old new (child_want want (slice_index_or pointers i d) level) (parts i d within) (h.1 pointers was i d within) in
    (block_read old new want here h.0, children)

-- ---- all trees

module _ (old new : Table) (states : List SubState) (run : RunVolume) (given : GiveVolume old states run)
    (readable : (at : ℕ) → Contains (states_reach old states) at → IsReadable old new at) (current : (at : ℕ) → Contains (states_reach old states) at → (block_at new at).state ≢ LetGo) where
  pub in_states : (state : SubState) (at : ℕ) → Contains states state → Contains (sub_reach old state.tree) at → Contains (states_reach old states) at
  in_states state at there here = flat_map_in (λ (s : SubState). sub_reach old s.tree) states state at there here

  pub sub_readable : (state : SubState) → Contains states state → AreReadable old new (sub_reach old state.tree)
  sub_readable state there = each (IsReadable old new) (sub_reach old state.tree) (λ at here. readable at (in_states state at there here))

  pub sub_read_now : (state : SubState) → Contains states state → IsReadSub old new state.tree
  sub_read_now state there = read_sub old new state.tree (sub_readable state there)

  pub reach_now : states_reach new states ≡ states_reach old states
  reach_now = flat_map_same (λ (s : SubState). sub_reach new s.tree) (λ (s : SubState). sub_reach old s.tree) states (each (λ (s : SubState). sub_reach new s.tree ≡ sub_reach old s.tree) states (λ state there. (sub_read_now state there).reach_same))

  part_now : (state : SubState) → Contains states state → GivesPart old run state → GivesPart new run state
  part_now state there part = record {
    sub = part.sub;
    there = part.there;
    gives = record {
      gives = gives_by_bytes old new state.tree part.sub.sub (sub_readable state there) part.gives.gives;
      current = subst (λ (l : List ℕ). AreCurrent new l) (sym (sub_read_now state there).reach_same) (each (λ (at : ℕ). (block_at new at).state ≢ LetGo) (sub_reach old state.tree) (λ at here. current at (in_states state at there here)));
      sound = part.gives.sound;
      next_ino = part.gives.next_ino;
      next_index = part.gives.next_index;
    };
  }

  pub given_now : GiveVolume new states run
  given_now = record {
    rising = given.rising;
    each = λ k d within. part_now (slice_index_or states k d) (All-contains_itself states k d within) (given.each k d within);
    only = given.only;
    once = subst NoneTwice (sym reach_now) given.once;
  }

  tree_part : (P : ℕ → Type 0) → ((at : ℕ) → Contains (states_reach old states) at → P at) → (state : SubState) → Contains states state → All P (tree_reach old state.tree)
  tree_part P all state there = each P (tree_reach old state.tree) (λ at here. all at (in_states state at there (Contains-append_left (tree_reach old state.tree) (tree_data old state.tree) at here)))

  pub ready_now : (fsid : List ℕ) → ((at : ℕ) → Contains (states_reach old states) at → GoesOn IsDirty IsDirty old new at) → All (λ (state : SubState). IsReady old state.tree fsid) states → All (λ (state : SubState). IsReady new state.tree fsid) states
  ready_now fsid goes ready k d within =
      let state : SubState = slice_index_or states k d in
      let there : Contains states state = All-contains_itself states k d within in
      let was : IsReady old state.tree fsid = ready k d within in
      record {
        above = dirty_above_read state.tree.level old new state.tree.root.0 (tree_part (GoesOn IsDirty IsDirty old new) goes state there) was.above;
        written = (was.written.0, sealed_read state.tree.level old new _ (tree_part (StaysDirty old new) (λ at here. record { bytes = (goes at here).bytes; stays = (goes at here).up }) state there) was.written.1);
      }

  pub above_now : ((at : ℕ) → Contains (states_reach old states) at → GoesOn IsBusy IsBusy old new at) → All (λ (state : SubState). BusyIsAbove state.tree.level old state.tree.root.0) states → All (λ (state : SubState). BusyIsAbove state.tree.level new state.tree.root.0) states
  above_now goes above k d within =
      let state : SubState = slice_index_or states k d in
      busy_above_read state.tree.level old new state.tree.root.0 (tree_part (GoesOn IsBusy IsBusy old new) goes state (All-contains_itself states k d within)) (above k d within)

  -- where Sealed blocks are Dirty again
  pub ready_again : (fsid : List ℕ) → ((at : ℕ) → Contains (states_reach old states) at → GoesOn IsBusy IsDirty old new at) → All (λ (state : SubState). IsReady old state.tree fsid) states → All (λ (state : SubState). BusyIsAbove state.tree.level old state.tree.root.0) states → All (λ (state : SubState). IsReady new state.tree fsid) states
  ready_again fsid goes ready above k d within =
      let state : SubState = slice_index_or states k d in
      let there : Contains states state = All-contains_itself states k d within in
      let was : IsReady old state.tree fsid = ready k d within in
      record {
        above = dirty_from_busy state.tree.level old new state.tree.root.0 (tree_part (GoesOn IsBusy IsDirty old new) goes state there) (above k d within);
        written = (was.written.0, sealed_read state.tree.level old new _ (tree_part (StaysDirty old new) (λ at here. record { bytes = (goes at here).bytes; stays = λ dirty. (goes at here).up (inl dirty) }) state there) was.written.1);
      }
