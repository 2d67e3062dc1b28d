-- An image that goes with a volume that was mounted, and the superblock that leads to it.
use Rattle.std.proofs.Common.{◌≡◌, ◌≤◌, ◌<◌, ◌/◌, ◌%◌, ◌-◌, ◌==◌, ◌++◌, if◌then◌else◌, ℕ, true, List, [], length, map, replicate, Option, Some, None, refl, sym, ap, subst, ◌∙◌, arith, inl, inr}
use Rattle.std.specs.Prelude.{Contains, slice_get, slice_index_or}
use Rattle.std.proofs.lemmas.List.{get_or_append_left, get_or-map, length-append, length-map, length-replicate}
use Rattle.std.proofs.lemmas.List.Elements.{All-contains, Contains-append_cases}
use Rattle.std.proofs.lemmas.Option.{slice_get-get_or}
use Rattle.blk_base.specs.Bytes.{Image}
use Rattle.blk_base.specs.Superblock.{SuperValue}
use Rattle.block_table.specs.Slot.{BlockSlot, free_slot}
use Rattle.block_table.specs.Table.{Table}
use Rattle.block_table.specs.TreeIn.{IsTaken, block_at}
use Rattle.commit_blocks.specs.Keeps.{numbered_at}
use Rattle.commit_blocks.specs.Mounting.{IsMountOf, mount_commit}
use Rattle.commit_blocks.proofs.MountStands.{it_is_of_the_mount, it_stands, the_image_has_it}
use Rattle.commit_images.specs.Scene.{HasCommit, StandsFor}
use Rattle.disk_model.specs.Disk.{IfTold}
use Rattle.flat_model.specs.Coherent.{IsCoherentVolume}
use Rattle.flat_model.specs.Volume.{RunVolume, Volume, mounted, volume_of}
use Rattle.flat_model.proofs.Histories.{volume_of_mounted}
use Rattle.image_order.specs.FirstFault.{volume_in}
use Rattle.table_volume.specs.Running.{GiveVolume}
use Rattle.tree_frame.proofs.Reading.{reach_taken}
use Rattle.tree_load.specs.Loaded.{HasBytes}
use Rattle.tree_mount.specs.declared.mounted.Mounted.{Mounted as Found}
use Rattle.tree_mount.specs.Mounted.{IsMountedAs, IsReadyMount, mount_reach}
use Rattle.tree_range.specs.Shape.{tree_reach}
use Rattle.volume_image.specs.Stands.{Stands, StandsBy}
use Rattle.volume_image.proofs.Members.{in_map}
use Rattle.volume_seal.specs.Sealed.{states_reach}
use Rattle.volume_seal.proofs.States.{all_taken}
use Rattle.script_runner.specs.Run.{HasBlocks, Mounts}

-- ---- an image of the table's blocks

-- the bytes of the table's blocks, and none in the disk's blocks behind them
abbrev table_image : Table → ℕ → Image
table_image table count = map (λ (slot : BlockSlot). slot.bytes) table.slots ++ replicate (count - length table.slots) []

table_image_size : (table : Table) (count : ℕ) → length table.slots ≤ count → length (table_image table count) ≡ count
table_image_size table count fits =
    let near = length-map table.slots (λ (slot : BlockSlot). slot.bytes) in
    let far = length-replicate {A = List ℕ} (count - length table.slots) [] in
    length-append (map (λ (slot : BlockSlot). slot.bytes) table.slots) (replicate (count - length table.slots) []) ∙ omega (arith, near, far, fits)

table_image_has : (table : Table) (count at : ℕ) → at % 4096 ≡ 0 → at / 4096 < length table.slots → slice_index_or (table_image table count) (at / 4096) [] ≡ (block_at table at).bytes
table_image_has table count at aligned inside =
    get_or_append_left (map (λ (slot : BlockSlot). slot.bytes) table.slots) (replicate (count - length table.slots) []) [] (at / 4096) (let near = length-map table.slots (λ (slot : BlockSlot). slot.bytes) in omega (arith, near, inside))
    ∙ get_or-map (λ (slot : BlockSlot). slot.bytes) table.slots (at / 4096) free_slot [] inside
    ∙ sym (ap (λ (n : ℕ). (if n == 0 then slice_index_or table.slots (at / 4096) free_slot else free_slot).bytes) aligned)

module _ (m : Found) (count : ℕ) (ready : IsReadyMount m count) where
  fits : length m.table.slots ≤ count
  fits = subst (λ (n : ℕ). n ≤ count) (sym ready.size) ready.on_disk

  pub taken : (run : RunVolume) → GiveVolume m.table m.states.items run → (at : ℕ) → Contains (mount_reach m) at → IsTaken m.table at
  taken run gives at there = elim (Contains-append_cases (tree_reach m.table m.root) (states_reach m.table m.states.items) at there) [
    | inl root ↦ All-contains (IsTaken m.table) (tree_reach m.table m.root) at (reach_taken m.root.level m.table true m.root.root.0 ready.root.shape) root
    | inr state ↦ All-contains (IsTaken m.table) (states_reach m.table m.states.items) at (all_taken m.table m.states.items run gives) state
  ]

  -- the image has the superblock and all that it reaches
  pub has_commit : (image : Image) (run : RunVolume) (volume : Volume) → length m.table.slots ≤ length image → GiveVolume m.table m.states.items run → HasBytes image m.table (mount_reach m)
      → HasCommit image (mount_commit image m volume)
  has_commit image run volume long gives bytes = record {
    superblock = refl;
    blocks = λ block there.
        let one : (at : ℕ) × Contains (mount_reach m) at × (numbered_at m.table at ≡ block) = in_map (numbered_at m.table) (mount_reach m) block there in
        subst (λ (b : ℕ × List ℕ). slice_get image b.0 ≡ Some b.1) one.2 (read_there one.0 one.1);
  }
    where
      read_there : (at : ℕ) → Contains (mount_reach m) at → slice_get image (at / 4096) ≡ Some (block_at m.table at).bytes
      read_there at there =
          let inside = (taken run gives at there).allowed.inside in
          slice_get-get_or image (at / 4096) [] (omega (arith, inside, long)) ∙ ap Some (bytes at there)

  table_bytes : HasBytes (table_image m.table count) m.table (mount_reach m)
  table_bytes at there =
      let allowed = (taken ready.run ready.given at there).allowed in
      table_image_has m.table count at allowed.aligned allowed.inside

-- ---- the image that is chosen

-- An image of so many blocks goes with a volume that was mounted: it has the superblock and all that it reaches; and where the disk tells its image, it is this one,
-- mounts to the volume, and has as many blocks as the superblock that was read says.
pub record GoesWithMount (m : Found) (count : ℕ) (seen : Option Image) (image : Image) (run : RunVolume) (volume : Volume) : Type 0 where
  pub size : length image ≡ count
  pub is_volume : volume_of run ≡ volume
  pub begun : run ≡ mounted (volume_of run)
  pub coherent : IsCoherentVolume volume
  pub of_mount : IsMountOf image m run (mount_commit image m volume)
  pub has : HasCommit image (mount_commit image m volume)
  pub mounts : IfTold seen (λ told. (told ≡ image) × Mounts told volume)
  pub blocks : IfTold seen (λ told. HasBlocks told m.superblock.blocks)
  pub by_reach : IfTold seen (λ told. StandsBy told volume (mount_reach m))
  pub stands : IfTold seen (λ told. StandsFor Stands count (mount_commit image m volume))

untold : (m : Found) (count : ℕ) (ready : IsReadyMount m count) → GoesWithMount m count None (table_image m.table count) ready.run (volume_of ready.run)
untold m count ready =
    let image = table_image m.table count in
    let size = table_image_size m.table count (fits m count ready) in
    let long : length m.table.slots ≤ length image = subst (λ (n : ℕ). length m.table.slots ≤ n) (sym size) (fits m count ready) in
    let bytes = table_bytes m count ready in
    record {
      size = size;
      is_volume = refl;
      begun = ready.begun;
      coherent = ready.coherent;
      of_mount = record { on_image = long; gives = ready.given; bytes = bytes; blocks = refl };
      has = has_commit m count ready image ready.run (volume_of ready.run) long ready.given bytes;
      mounts = tt;
      blocks = tt;
      by_reach = tt;
      stands = tt;
    }

told : (m : Found) (count : ℕ) (image : Image) → IsReadyMount m count → length image ≡ count → (is : IsMountedAs image m)
    → GoesWithMount m count (Some image) image (mounted (volume_in image is.found)) (volume_in image is.found)
told m count image ready size is =
    let volume = volume_in image is.found in
    let here : IsReadyMount m (length image) = subst (IsReadyMount m) (sym size) ready in
    let same : volume_of (mounted volume) ≡ volume = volume_of_mounted volume in
    record {
      size = size;
      is_volume = same;
      begun = ap mounted (sym same);
      coherent = is.stands.committed.coherent;
      of_mount = it_is_of_the_mount image m here is;
      has = the_image_has_it image m here is;
      mounts = (refl, record { stands = record { reach = mount_reach m; by_reach = is.stands }; found = is.found; no_fault = is.standing; no_log = is.no_log; gives = refl });
      blocks = (is.found, is.standing, ap (λ (super : SuperValue). super.blocks) is.superblock);
      by_reach = is.stands;
      stands = subst (λ (n : ℕ). StandsFor Stands n (mount_commit image m volume)) size (it_stands image m here is);
    }

-- there is such an image
pub goes_with_mount : (m : Found) (count : ℕ) (seen : Option Image) → IsReadyMount m count → IfTold seen (λ image. IsMountedAs image m) → IfTold seen (λ image. length image ≡ count)
    → (image : Image) × (run : RunVolume) × (volume : Volume) × GoesWithMount m count seen image run volume
goes_with_mount m count None ready is size = (table_image m.table count, ready.run, volume_of ready.run, untold m count ready)
goes_with_mount m count (Some image) ready is size = (image, mounted (volume_in image is.found), volume_in image is.found, told m count image ready size is)
