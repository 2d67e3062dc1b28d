-- Which commit stands for a mounted volume.
use Rattle.std.proofs.Common.{◌≡◌, ◌≤◌, ◌<◌, ◌/◌, ℕ, true, List, [], length, Some, refl, sym, ap, subst, ◌∙◌, arith, inl, inr}
use Rattle.std.specs.Prelude.{Contains, slice_get}
use Rattle.std.proofs.lemmas.List.Elements.{All-contains, Contains-append_cases}
use Rattle.std.proofs.lemmas.Option.{slice_get-get_or}
use Rattle.blk_base.specs.Bytes.{Image}
use Rattle.block_table.specs.TreeIn.{IsTaken, block_at}
use Rattle.commit_images.specs.Scene.{Commit, HasCommit, StandsFor}
use Rattle.flat_model.specs.Volume.{Volume, mounted}
use Rattle.image_order.specs.FirstFault.{volume_in}
use Rattle.tree_frame.proofs.Reading.{reach_taken}
use Rattle.tree_mount.specs.declared.mounted.Mounted.{Mounted}
use Rattle.tree_mount.specs.Mounted.{IsMountedAs, IsReadyMount, mount_reach}
use Rattle.tree_range.specs.Shape.{tree_reach}
use Rattle.volume_image.specs.Stands.{AgreesOn, Stands}
use Rattle.volume_image.proofs.Members.{in_map, map_in}
use Rattle.volume_image.proofs.Standing.{stands_local}
use Rattle.volume_seal.specs.Sealed.{states_reach}
use Rattle.volume_seal.proofs.States.{all_taken}
use Rattle.commit_blocks.specs.Keeps.{numbered_at}
use Rattle.commit_blocks.specs.Mounting.{IsMountOf, mount_commit}
use Rattle.commit_blocks.proofs.Read.{each}

module _ (image : Image) (m : Mounted) (ready : IsReadyMount m (length image)) (is : IsMountedAs image m) where
  abbrev volume : Volume
  volume = volume_in image is.found

  abbrev commit : Commit
  commit = mount_commit image m volume

  on_image : length m.table.slots ≤ length image
  on_image = subst (λ (n : ℕ). n ≤ length image) (sym ready.size) ready.on_disk

  taken : (at : ℕ) → Contains (mount_reach m) at → IsTaken m.table at
  taken at there = elim (Contains-append_cases (tree_reach m.table m.root) (states_reach m.table m.states.items) at there) [
    | inl root ↦ All-contains (IsTaken m.table) (tree_reach m.table m.root) at (reach_taken m.root.level m.table true m.root.root.0 ready.root.shape) root
    | inr state ↦ All-contains (IsTaken m.table) (states_reach m.table m.states.items) at (all_taken m.table m.states.items (mounted volume) is.gives) state
  ]

  read_there : (at : ℕ) → Contains (mount_reach m) at → slice_get image (at / 4096) ≡ Some (block_at m.table at).bytes
  read_there at there =
      let inside = (taken at there).allowed.inside in
      let fits = on_image in
      slice_get-get_or image (at / 4096) [] (omega (arith, inside, fits)) ∙ ap Some (is.bytes at there)

  pub the_image_has_it : HasCommit image commit
  the_image_has_it = record {
    superblock = refl;
    blocks = λ block there.
        let one : (at : ℕ) × Contains (mount_reach m) at × (numbered_at m.table at ≡ block) = in_map (numbered_at m.table) (mount_reach m) block there in
        subst (λ (b : ℕ × List ℕ). slice_get image b.0 ≡ Some b.1) one.2 (read_there one.0 one.1);
  }

  agrees : (other : Image) → length other ≡ length image → HasCommit other commit → AgreesOn (mount_reach m) image other
  agrees other size has = record {
    size = sym size;
    super =
        let long : 16 < length image = (let fits = on_image in let least = ready.least in let blocks = ready.size in omega (arith, fits, least, blocks)) in
        slice_get-get_or image 16 [] long ∙ ap Some (sym has.superblock) ∙ sym (slice_get-get_or other 16 [] (omega (arith, long, size)));
    blocks = each (λ (at : ℕ). slice_get image (at / 4096) ≡ slice_get other (at / 4096)) (mount_reach m) (λ at there. read_there at there ∙ sym (has.blocks (numbered_at m.table at) (map_in (numbered_at m.table) (mount_reach m) at there)));
  }

  pub it_stands : StandsFor Stands (length image) commit
  it_stands other blocks size has = record { reach = mount_reach m; by_reach = stands_local image other volume (mount_reach m) is.stands (agrees other size has) }

  pub it_is_of_the_mount : IsMountOf image m (mounted volume) commit
  it_is_of_the_mount = record { on_image = on_image; gives = is.gives; bytes = is.bytes; blocks = refl }
