-- The blocks that commit to an empty volume.
use Rattle.std.proofs.Common.{◌≡◌, ◌≤◌, ◌<◌, ◌+◌, ◌*◌, ◌/◌, true, ◌++◌, ◌∷◌, [], ◌⊎◌, ◌∙◌, ℕ, zero, suc, List, Some, length, length-append, map, slice_get, slice_index_or, refl, sym, ap, subst, arith, inl, inr}
use Rattle.std.specs.Prelude.{All, Contains}
use Rattle.std.specs.List.{range_with_len}
use Rattle.std.proofs.lemmas.List.{get_or-map, length-map}
use Rattle.std.proofs.lemmas.List.Elements.{All-append, All-contains, All-contains_itself, All-weaker, Contains-append_cases, Contains-append_left, Contains-append_right}
use Rattle.std.proofs.lemmas.List.FromFn.{length-range_with_len}
use Rattle.std.proofs.lemmas.Option.{get_or_from_slice_get}
use Rattle.blk_base.specs.Address.{IsAllowed}
use Rattle.blk_base.specs.Bytes.{zeros}
use Rattle.blk_base.specs.Superblock.{IsSuper, SuperValue, super_bytes}
use Rattle.blk_base.specs.Trees.{AtBlock, NoneTwice}
use Rattle.block_table.specs.declared.state.SlotState.TheVariants.{Dirty}
use Rattle.block_table.specs.declared.tree.SubState.{SubState}
use Rattle.block_table.specs.declared.tree.Tree.{Tree}
use Rattle.block_table.specs.Table.{Table}
use Rattle.block_table.specs.TreeIn.{IsTaken, block_at}
use Rattle.disk_model.specs.Disk.{Image, IsImage}
use Rattle.batch_write.specs.Batch.{HasBlock}
use Rattle.flat_model.specs.Volume.{RunVolume, Volume, bare_volume, mounted, subvolume_ids}
use Rattle.flat_model.proofs.Histories.{volume_of_mounted}
use Rattle.tree_range.specs.Shape.{tree_reach}
use Rattle.tree_frame.proofs.Reading.{all_joined, reach_taken}
use Rattle.tree_frame.proofs.Places.{taken_fit}
use Rattle.tree_seal.specs.OnImage.{HasBlocks}
use Rattle.tree_seal.specs.Sealing.{as_handed}
use Rattle.table_volume.specs.Gives.{sub_reach, tree_data}
use Rattle.volume_image.proofs.Members.{flat_map_in}
use Rattle.volume_seal.proofs.Whole.{dirty_ready}
use Rattle.table_volume.specs.Running.{GiveVolume, id_of}
use Rattle.table_volume.proofs.Giving.{subvolume_taken}
use Rattle.volume_image.specs.Stands.{StandsBy, free_of, mount_need, super_block}
use Rattle.volume_seal.specs.Sealed.{IsReady, IsVolumeSealed, states_reach}
use Rattle.volume_seal.specs.Superblock.{super_at}
use Rattle.volume_seal.proofs.Standing.{stands_now}
use Rattle.volume_mkfs.specs.Empty.{AreFresh}
use Rattle.volume_mkfs.specs.Made.{HasNew, IsNewVolume, SaysNew, addresses_of}

-- what holds of each member holds of all
each : {X : Type 0} (P : X → Type 0) (xs : List X) → ((x : X) → Contains xs x → P x) → All P xs
each P xs f = All-weaker (Contains xs) P f xs (All-contains_itself xs)

ids_length : (count : ℕ) → length (subvolume_ids count) ≡ count
ids_length zero = refl
ids_length (suc count) = ap suc (length-range_with_len 256 count)

-- there are so many states, and the tree of each may be sealed
pub fresh_count : (table : Table) (states : List SubState) (subs : ℕ) → AreFresh table states subs → length states ≡ subs
fresh_count table states subs fresh = sym (length-map states id_of) ∙ ap (λ (l : List ℕ). length l) fresh.ids ∙ ids_length subs

pub fresh_ready : (table : Table) (states : List SubState) (subs : ℕ) (fsid : List ℕ) → AreFresh table states subs → All (λ (state : SubState). IsReady table state.tree fsid) states
fresh_ready table states subs fsid fresh = each (λ (state : SubState). IsReady table state.tree fsid) states (λ state there.
    dirty_ready table state.tree fsid (each (λ (at : ℕ). (block_at table at).state ≡ Dirty) (tree_reach table state.tree) (λ at here.
    All-contains (λ (a : ℕ). (block_at table a).state ≡ Dirty) (states_reach table states) at fresh.dirty
    (flat_map_in (λ (s : SubState). sub_reach table s.tree) states state at there (Contains-append_left (tree_reach table state.tree) (tree_data table state.tree) at here)))))

-- the addresses of blocks as they are handed out
handed_at : (table : Table) (order : List ℕ) → addresses_of (map (as_handed table) order) ≡ order
handed_at table [] = refl
handed_at table (at ∷ order) = ap (λ (l : List ℕ). at ∷ l) (handed_at table order)

handed_in : (table : Table) (order : List ℕ) (at : ℕ) → Contains order at → Contains (map (as_handed table) order) (as_handed table at)
handed_in table order at there =
    (there.0, subst (λ (n : ℕ). there.0 < n) (sym (length-map order (as_handed table))) there.1, get_or-map (as_handed table) order there.0 at (as_handed table at) there.1 ∙ ap (as_handed table) there.2)

module _ (old new : Table) (states : List SubState) (root : Tree) (fsid : List ℕ) (blocks subs used : ℕ) (pairs : List AtBlock) (fresh : AreFresh old states subs) (sealed : IsVolumeSealed old new states root fsid 1 pairs) (size : length old.slots ≡ blocks) where
  order : List ℕ
  order = sealed.written.order

  reach : List ℕ
  reach = tree_reach new root ++ states_reach new states

  in_order : (at : ℕ) → Contains reach at → Contains order at
  unfolding order reach
  in_order at there = (sealed.written.each at).1 (elim (Contains-append_cases (tree_reach new root) (states_reach new states) at there) [
    | inl first ↦ inl first
    | inr later ↦ let here : Contains (states_reach old states) at = subst (λ (l : List ℕ). Contains l at) sealed.reach later in
        inr (here, All-contains (λ (a : ℕ). (block_at old a).state ≡ Dirty) (states_reach old states) at fresh.dirty here)
  ])

  in_reach : (at : ℕ) → Contains order at → Contains reach at
  unfolding order reach
  in_reach at there = elim ((sealed.written.each at).0 there) [
    | inl first ↦ Contains-append_left (tree_reach new root) (states_reach new states) at first
    | inr later ↦ Contains-append_right (tree_reach new root) (states_reach new states) at (subst (λ (l : List ℕ). Contains l at) (sym sealed.reach) later.0)
  ]

  addresses : addresses_of pairs ≡ order
  unfolding order
  addresses = ap addresses_of sealed.written.handed ∙ handed_at new sealed.written.order

  given : GiveVolume new states (mounted (bare_volume subs))
  given = sealed.given (mounted (bare_volume subs)) fresh.given

  taken : All (IsTaken new) reach
  unfolding reach
  taken =
      All-append (IsTaken new) (tree_reach new root) (states_reach new states) (reach_taken root.level new true root.root.0 sealed.made.tree.shape)
      (all_joined (IsTaken new) (λ (state : SubState). sub_reach new state.tree) states (λ k d within. let part = given.each k d within in subvolume_taken new (slice_index_or states k d).tree part.sub.sub part.gives.gives))

  slots : length new.slots ≡ blocks
  slots = sealed.kept.size ∙ size

  order_taken : All (IsTaken new) order
  unfolding order
  order_taken = each (IsTaken new) order (λ at there. All-contains (IsTaken new) reach at taken (in_reach at there))

  -- there are no more than the table has
  pub pairs_fit : length pairs ≤ blocks
  unfolding order
  pairs_fit =
      let many : length pairs ≡ length sealed.written.order = ap (λ (l : List AtBlock). length l) sealed.written.handed ∙ length-map sealed.written.order (as_handed new) in
      omega (arith, many, slots, taken_fit new sealed.written.order order_taken sealed.written.once)

  few_states : length states ≡ subs
  few_states = fresh_count old states subs fresh

  few_blocks : length reach ≤ 3 + 5 * subs
  unfolding reach
  few_blocks =
      let later : length (states_reach new states) ≤ 5 * subs = subst (λ (l : List ℕ). length l ≤ 5 * subs) (sym sealed.reach) fresh.few in
      let first = sealed.made.few in
      omega (arith, later, first, length-append (tree_reach new root) (states_reach new states))

  has_blocks : (image : Image) → All (HasBlock image) pairs → HasBlocks image new reach
  unfolding order reach
  has_blocks image has = each (λ (at : ℕ). slice_get image (at / 4096) ≡ Some (block_at new at).bytes) reach (λ at there.
      All-contains (HasBlock image) pairs (as_handed new at) has (subst (λ (l : List AtBlock). Contains l (as_handed new at)) (sym sealed.written.handed) (handed_in new sealed.written.order at (in_order at there))))

  module _ (least : 4096 ≤ blocks) (some : 1 ≤ subs) (few : subs ≤ 16) (spell : (disk_blocks : ℕ) → length new.slots ≤ disk_blocks → IsSuper (super_bytes (super_at new root fsid 1 used)) disk_blocks (super_at new root fsid 1 used)) where
    super : SuperValue
    super = super_at new root fsid 1 used

    stands : (image : Image) → blocks ≤ length image → HasNew (super_bytes super) pairs image → StandsBy image (bare_volume subs) reach
    unfolding reach super
    stands image within has =
        let read : super_block image ≡ super_bytes super = get_or_from_slice_get image 16 (super_bytes super) (zeros 4096) has.super in
        let is_super : IsSuper (super_block image) (length image) super = subst (λ (bytes : List ℕ). IsSuper bytes (length image) super) (sym read) (spell (length image) (omega (arith, within, slots))) in
        let room : mount_need ≤ free_of (length new.slots) (length (tree_reach new root ++ states_reach new states)) = omega (arith, few_blocks, slots, least, few) in
        subst (λ (volume : Volume). StandsBy image volume reach) (volume_of_mounted (bare_volume subs))
        (stands_now old new states (mounted (bare_volume subs)) root fsid 1 used pairs image given sealed (omega (arith, some, few_states)) (omega (arith, few, few_states)) (fresh.ids ∙ ap subvolume_ids (sym few_states)) is_super (has_blocks image has.blocks) room)

    pub is_new : used ≡ length pairs → (superblock : List ℕ) → superblock ≡ super_bytes (super_at new root fsid 1 used) → IsNewVolume fsid blocks subs superblock pairs
    unfolding order reach super
    is_new counted superblock spelled = record {
      super = super;
      says = record { fsid_is = refl; generation_is = refl; no_log = refl; no_log_level = refl; blocks_are = slots; used_is = counted };
      spelled = spelled;
      reach = reach;
      same = λ at. (λ there. subst (λ (l : List ℕ). Contains l at) (sym addresses) (in_order at there), λ there. in_reach at (subst (λ (l : List ℕ). Contains l at) addresses there));
      allowed = subst (λ (l : List ℕ). All (IsAllowed blocks) l) (sym addresses) (each (IsAllowed blocks) order (λ at there. subst (λ (n : ℕ). IsAllowed n at) slots (All-contains (IsTaken new) order at order_taken there).allowed));
      once = subst NoneTwice (sym addresses) sealed.written.once;
      stands = λ image is within has. stands image within (record { super = has.super ∙ ap Some spelled; blocks = has.blocks });
    }
