-- How a run begins, right behind the mount, and what a crash may leave of it.
use Rattle.std.proofs.Common.{◌≡◌, ◌≤◌, ◌<◌, ◌/◌, ℕ, [], ◌∷◌, List, length, Option, Some, None, Result, refl, sym, ap, subst, ◌∙◌, arith}
use Rattle.std.specs.Prelude.{Contains, slice_get, slice_index_or}
use Rattle.std.proofs.lemmas.List.Elements.{All-contains}
use Rattle.std.proofs.lemmas.Option.{slice_get-get_or}
use Rattle.blk_base.specs.declared.key.Marks.{Marks}
use Rattle.blk_base.specs.Bytes.{Image}
use Rattle.call_steps.specs.Orderly.{IsOrderly}
use Rattle.call_steps.specs.Standing.{IsOver}
use Rattle.commit_blocks.specs.Keeps.{numbered_at}
use Rattle.commit_blocks.specs.Mounting.{IsMountOf, mount_commit}
use Rattle.commit_core.specs.Coming.{call_in}
use Rattle.commit_device.specs.Calls.{HoldsAtLeast}
use Rattle.commit_device.specs.Moments.{EachMomentStands}
use Rattle.commit_images.specs.Images.{IsMountedBy}
use Rattle.commit_images.specs.Scene.{Commit, Happening, HasCommit, Mounted, Scene, StandsFor, first_scene}
use Rattle.commit_images.proofs.FoundBy.{found_is_durable}
use Rattle.device_side.specs.Device.{Device, new_device}
use Rattle.disk_model.specs.Disk.{Held, IfTold, Leaves, Told, held_now, image_now, known}
use Rattle.disk_model.proofs.CrashLaws.{held_now-goes_on, known_as_told}
use Rattle.flat_model.specs.Coherent.{IsCoherentVolume}
use Rattle.flat_model.specs.Volume.{RunVolume, Volume, mounted as run_begun, volume_of}
use Rattle.flat_model.specs.declared.request.Line.{Line}
use Rattle.flat_model.proofs.Maps.{some_same}
use Rattle.image_order.proofs.Finding.{is_found}
use Rattle.tree_mount.specs.declared.mounted.Mounted.{Mounted as Found}
use Rattle.tree_mount.specs.Mounted.{IsMountedAs, IsReadyMount, mount_reach}
use Rattle.volume_calls.specs.Between.{Between, IsBetween, IsDiskAt, TellsStill}
use Rattle.volume_image.specs.Stands.{AgreesOn, Stands, StandsBy}
use Rattle.volume_image.proofs.Members.{in_map, map_in}
use Rattle.volume_image.proofs.Standing.{stands_local}
use Rattle.commit_core.specs.Sealed.{StandsWhole}
use Rattle.commit_blocks.proofs.Read.{each as each_of}
use Rattle.commit_history.specs.declared.event.Event.{Event}
use Rattle.script_lines.specs.declared.fault.RunFault.{RunFault}
use Rattle.script_lines.specs.Happened.{AllHappened}
use Rattle.script_lines.specs.Lines.{HasRun}
use Rattle.script_runner.specs.Run.{EndsSettled, FindsWholeVolume, HasLostNone, IsRunOn, IsSettled, Mounts, Outside, outside}
use Rattle.run_history.specs.Recorded.{IsRecorded}
use Rattle.run_history.specs.declared.recorder.Recorder.{Recorder}
use Rattle.volume_core.specs.declared.volume.Volume.{Volume as Volume_}
use Rattle.volume_core.specs.Keeps.{IsVolume}
use Rattle.script_runner.proofs.Ending.{ends_settled}
use Rattle.script_runner.proofs.Mounting.{GoesWithMount, goes_with_mount, taken}

-- ---- the begin

-- the disk's record, or one of an image alone where the disk tells none
abbrev pub start_told : Option Told → Image → Told
start_told None image = record { first = image; supers = []; calls = [] }
start_told (Some told) image = told

abbrev pub start_held : Option Told → Image → Held
start_held told image = held_now (start_told told image)

abbrev pub start_at : Option Told → ℕ → Image → Commit → ℕ → Between
start_at told faults image first blocks = record { scene = first_scene (start_held told image) first; told = start_told told image; faults = faults; blocks = blocks }

-- what holds of what a disk tells holds of what is known of it
known_holds : (P : Image → Type 0) (seen : Option Image) (lost : List ℕ) → IfTold seen P → IfTold (known seen lost) P
known_holds P seen [] holds = holds
known_holds P seen (at ∷ lost) holds = tt

-- the image that a disk tells has as many blocks as the disk
told_size : (seen : Option Image) (told : Option Told) (count : ℕ) → IfTold told (λ one. seen ≡ Some (image_now one)) → IfTold seen (λ image. length image ≡ count) → IfTold told (λ one. length (image_now one) ≡ count)
told_size seen None count same size = tt
told_size seen (Some told) count same size = subst (λ (s : Option Image). IfTold s (λ image. length image ≡ count)) same size

start_size : (told : Option Told) (image : Image) (count : ℕ) → length image ≡ count → IfTold told (λ one. length (image_now one) ≡ count) → length (image_now (start_told told image)) ≡ length image
start_size None image count size same = refl
start_size (Some told) image count size same = same ∙ sym size

start_is : (told : Option Told) (image : Image) → IfTold told (λ now. now ≡ start_told told image)
start_is None image = tt
start_is (Some told) image = refl

at_the_start : (told : Option Told) (faults : ℕ) (image : Image) (first : Commit) (blocks : ℕ) → IsDiskAt told faults (start_at told faults image first blocks)
at_the_start told faults image first blocks = record { told = start_is told image; faults = refl }

pub holds_itself : (held : Held) → HoldsAtLeast held held
holds_itself held = record { image = refl; pending = refl; lost = refl; supers = λ bytes c. c }

-- what is known of a new core of a volume that was mounted, and of the device beside it
pub record IsNewVolume (Has : Mounted → Scene → Type 0) (blocks : ℕ) (marks : Marks) (device : Device) (m : Found) : Type 0 where
  pub has : (image : Image) (run : RunVolume) (held : Held) (commit : Commit) → IsMountOf image m run commit → IsCoherentVolume (volume_of run) → run ≡ run_begun (volume_of run)
      → Has (record { volume = volume_of run; image = image }) (first_scene held commit)
  pub size : blocks ≡ length m.table.slots
  pub at_zero : marks ≡ record { done = 0; tried = 0; full = 0 }
  pub untouched : device ≡ new_device

-- such a core is a recorder over a new volume
pub recorded_new : (m : Found) (volume : Volume_) (core : Recorder Volume_) (device : Device) → core.core ≡ volume
    → ((mounted : Mounted) (held : Held) (commit : Commit) → IsVolume volume mounted (first_scene held commit) → IsRecorded (IsVolume core.core) core.run mounted (first_scene held commit))
    → ((image : Image) (run : RunVolume) (held : Held) (commit : Commit) → IsMountOf image m run commit → IsCoherentVolume (volume_of run) → run ≡ run_begun (volume_of run)
    → IsVolume volume (record { volume = volume_of run; image = image }) (first_scene held commit))
    → length volume.kept.table.slots ≡ length m.table.slots → volume.marks ≡ record { done = 0; tried = 0; full = 0 } → device ≡ new_device
    → IsNewVolume (IsRecorded (IsVolume core.core) core.run) (length core.core.kept.table.slots) core.core.marks device m
recorded_new m volume core device same recorded has size marks untouched = record {
  has = λ image run held commit of_mount coherent begun. recorded (record { volume = volume_of run; image = image }) held commit (has image run held commit of_mount coherent begun);
  size = ap (λ (v : Volume_). length v.kept.table.slots) same ∙ size;
  at_zero = ap (λ (v : Volume_). v.marks) same ∙ marks;
  untouched = untouched;
}

-- what is known of the disk right behind the mount
pub record StartsWith (m : Found) (count : ℕ) (seen : Option Image) (told : Option Told) : Type 0 where
  pub ready : IsReadyMount m count
  pub mounted_as : IfTold seen (λ image. IsMountedAs image m)
  pub sizes : IfTold seen (λ image. length image ≡ count)
  pub told_sizes : IfTold told (λ one. length (image_now one) ≡ count)
  pub same : IfTold told (λ old. HasLostNone old → seen ≡ Some (image_now old))
  pub left : IfTold told (λ old. Leaves (held_now old) (image_now old))

pub starts_with : (m : Found) (count : ℕ) (seen : Option Image) (lost : List ℕ) (told : Option Told) → IsReadyMount m count → IfTold (known seen lost) (λ image. IsMountedAs image m)
    → IfTold told (λ one. seen ≡ Some (image_now one)) → IfTold told (λ one. lost ≡ (held_now one).lost) → IfTold seen (λ image. length image ≡ count) → IfTold told (λ one. Leaves (held_now one) (image_now one))
    → StartsWith m count (known seen lost) told
starts_with m count seen lost told ready mounted_as as_told lost_told sizes left = record {
  ready = ready;
  mounted_as = mounted_as;
  sizes = known_holds (λ image. length image ≡ count) seen lost sizes;
  told_sizes = told_size seen told count as_told sizes;
  same = known_as_told seen lost told as_told lost_told;
  left = left;
}

-- ---- what a crash may leave at first

-- each block of a superblock stands at one of these byte addresses
abbrev pub StandAt : List ℕ → Commit → Type 0
StandAt reach first = (block : ℕ × List ℕ) → Contains first.blocks block → (at : ℕ) × Contains reach at × (block.0 ≡ at / 4096)

-- an image that agrees with another on all that the superblock reaches has it, too
agreeing : (image other : Image) (reach : List ℕ) (first : Commit) → 16 < length image → StandAt reach first → HasCommit image first → AgreesOn reach image other → HasCommit other first
agreeing image other reach first long stand has agrees =
    let others : 16 < length other = (let same = agrees.size in omega (arith, long, same)) in
    record {
      superblock =
          some_same (slice_index_or other 16 []) (slice_index_or image 16 []) (sym (slice_get-get_or other 16 [] others) ∙ sym agrees.super ∙ slice_get-get_or image 16 [] long) ∙ has.superblock;
      blocks = λ block there.
          let one = stand block there in
          let same : slice_get image (one.0 / 4096) ≡ slice_get other (one.0 / 4096) = All-contains (λ (at : ℕ). slice_get image (at / 4096) ≡ slice_get other (at / 4096)) reach one.0 agrees.blocks one.1 in
          ap (slice_get other) one.2 ∙ sym same ∙ ap (slice_get image) (sym one.2) ∙ has.blocks block there;
    }

-- a superblock that the image has, and each image that a crash may leave, is the only one that a crash may find
pub mounted_by : (old : Told) (image : Image) (volume : Volume) (reach : List ℕ) (first : Commit) → image_now old ≡ image → 16 < length image → first.volume ≡ volume → StandAt reach first → HasCommit image first
    → ((at : ℕ) → Contains reach at → 17 ≤ at / 4096) → StandsBy image volume reach → StandsFor Stands (length image) first → Leaves (held_now old) (image_now old) → FindsWholeVolume old
    → IsMountedBy Stands (record { volume = volume; image = image }) (held_now old) first
mounted_by old image volume reach first same long is_volume stand has behind by_reach stands left finds = found_is_durable Stands (record { volume = volume; image = image }) (held_now old) first (record {
  volume = is_volume;
  image = same;
  size = long;
  apart = λ block there is. (let one = stand block there in let far = behind one.0 one.1 in let place = one.2 in omega (arith, far, place, is));
  as_it_reads = left;
  found = λ other leaves.
      agreeing image other reach first long stand has
      (subst (λ (i : Image). AgreesOn reach i other) same (finds volume reach (subst (λ (i : Image). StandsBy i volume reach) (sym same) by_reach) other leaves));
  stands = stands;
})

-- of the volume that was mounted
module _ (m : Found) (count : ℕ) (ready : IsReadyMount m count) (image : Image) (run : RunVolume) (volume : Volume) where
  by_the_mount : (old : Told) → image_now old ≡ image → GoesWithMount m count (Some image) image run volume → Leaves (held_now old) (image_now old) → FindsWholeVolume old
      → IsMountedBy Stands (record { volume = volume; image = image }) (held_now old) (mount_commit image m volume)
  by_the_mount old same goes left finds =
      mounted_by old image volume (mount_reach m) (mount_commit image m volume) same long refl stand goes.has
      (λ at there. (taken m count ready run goes.of_mount.gives at there).allowed.behind_super) goes.by_reach
      (subst (λ (n : ℕ). StandsFor Stands n (mount_commit image m volume)) (sym goes.size) goes.stands) left finds
    where
      long : 16 < length image
      long = let size = goes.size in let least = ready.least in let fits = ready.on_disk in omega (arith, size, least, fits)

      stand : StandAt (mount_reach m) (mount_commit image m volume)
      stand block there =
          let one : (at : ℕ) × Contains (mount_reach m) at × (numbered_at m.table at ≡ block) = in_map (numbered_at m.table) (mount_reach m) block there in
          (one.0, one.1, ap (λ (b : ℕ × List ℕ). b.0) (sym one.2))

-- ---- what a crash may leave of the run

-- what stands for a volume mounts to it
pub stands_mounts : (image : Image) (volume : Volume) → Stands image volume → Mounts image volume
stands_mounts image volume stands =
    let found = is_found image volume stands in
    record { stands = stands; found = found.0; no_fault = found.1; no_log = found.2; gives = found.3 }

pub moments_mount : (volume : Volume) (scene : Scene) (happenings : List Happening) (old new : Told)
    → EachMomentStands Stands volume scene happenings old new → EachMomentStands Mounts volume scene happenings old new
moments_mount volume scene happenings old new all = record {
  each = λ moment image since leaves.
      let it = all.each moment image since leaves in
      record {
        first = it.first;
        rest = it.rest;
        are = it.are;
        told = it.told;
        stands = record { volume = it.stands.volume; stands = stands_mounts image it.stands.volume it.stands.stands; possible = it.stands.possible; survives = it.stands.survives };
      };
}

-- the laws on runs
abbrev pub RunsHappen : Type 0
RunsHappen =
    (mounted : Mounted) (lines : List Line) (before after : Between) (taken now : Option (List ℕ)) (result : Result (Unit {0}) RunFault)
    → HasRun mounted lines before after taken now result → AllHappened mounted before after

abbrev pub RunsStand : Type 0
RunsStand =
    (mounted : Mounted) (held : Held) (first : Commit) (before after : Between) → IsCoherentVolume mounted.volume
    → IsMountedBy Stands mounted held first → before.scene ≡ first_scene held first → HoldsAtLeast (held_now before.told) held
    → (run : AllHappened mounted before after)
    → EachMomentStands Stands mounted.volume (first_scene held first) run.happenings before.told after.told

module _ (m : Found) (count : ℕ) (ready : IsReadyMount m count) (image : Image) (run : RunVolume) (volume : Volume) where
  abbrev commit : Commit
  commit = mount_commit image m volume

  abbrev the_mounted : Mounted
  the_mounted = record { volume = volume; image = image }

  crash : (stand : RunsStand) (seen : Option Image) (told : Option Told) (faults : ℕ) (next : Between) → GoesWithMount m count seen image run volume
      → IfTold told (λ old. HasLostNone old → seen ≡ Some (image_now old)) → IfTold told (λ old. Leaves (held_now old) (image_now old))
      → (happened : AllHappened the_mounted (start_at told faults image commit m.superblock.blocks) next)
      → IfTold told (λ old. HasLostNone old → FindsWholeVolume old → EachMomentStands Mounts volume (start_at told faults image commit m.superblock.blocks).scene happened.happenings old next.told)
  crash stand seen None faults next goes same left happened = tt
  crash stand seen (Some old) faults next goes same left happened = λ none finds.
      let here : GoesWithMount m count (Some (image_now old)) image run volume = subst (λ (s : Option Image). GoesWithMount m count s image run volume) (same none) goes in
      let is : image_now old ≡ image = here.mounts.0 in
      let there : GoesWithMount m count (Some image) image run volume = subst (λ (i : Image). GoesWithMount m count (Some i) image run volume) is here in
      let by = by_the_mount m count ready image run volume old is there left finds in
      moments_mount volume (first_scene (held_now old) commit) happened.happenings old next.told
      (stand the_mounted (held_now old) commit (start_at (Some old) faults image commit m.superblock.blocks) next there.coherent by refl (holds_itself (held_now old)) happened)

  -- an image that has the superblock of the mount, and all that it reaches, stands by that
  whole : GoesWithMount m count (Some image) image run volume → StandsWhole (length image) commit
  whole goes other blocks same has =
      let long : 16 < length image = (let size = goes.size in let least = ready.least in let fits = ready.on_disk in omega (arith, size, least, fits)) in
      let far : 16 < length other = omega (arith, long, same) in
      record {
        reach = mount_reach m;
        by_reach = stands_local image other volume (mount_reach m) goes.by_reach (record {
          size = sym same;
          super = slice_get-get_or image 16 [] long ∙ ap Some (goes.has.superblock ∙ sym has.superblock) ∙ sym (slice_get-get_or other 16 [] far);
          blocks = each_of (λ (at : ℕ). slice_get image (at / 4096) ≡ slice_get other (at / 4096)) (mount_reach m) (λ at there.
              let here = map_in (numbered_at m.table) (mount_reach m) at there in
              goes.has.blocks (numbered_at m.table at) here ∙ sym (has.blocks (numbered_at m.table at) here));
        });
        within = λ at there. (numbered_at m.table at, map_in (numbered_at m.table) (mount_reach m) at there, refl);
      }

  -- a next run may begin
  settles : (seen : Option Image) (told told_now : Option Told) (faults : ℕ) (next : Between) → GoesWithMount m count seen image run volume
      → IfTold told (λ old. HasLostNone old → seen ≡ Some (image_now old)) → IfTold told (λ old. Leaves (held_now old) (image_now old))
      → IfTold told_now (λ now. Leaves (held_now now) (image_now now)) → IfTold told_now (λ now. now ≡ next.told) → TellsStill told told_now
      → AllHappened the_mounted (start_at told faults image commit m.superblock.blocks) next → IfTold told (λ old. IsSettled old → EndsSettled next.told)
  settles seen None told_now faults next goes same left left_now last tells happened = tt
  settles seen (Some old) None faults next goes same left left_now last tells happened = absurd tells
  settles seen (Some old) (Some now) faults next goes same left left_now last tells happened = λ settled.
      let here : GoesWithMount m count (Some (image_now old)) image run volume = subst (λ (s : Option Image). GoesWithMount m count s image run volume) (same settled.none_lost) goes in
      let is : image_now old ≡ image = here.mounts.0 in
      let there : GoesWithMount m count (Some image) image run volume = subst (λ (i : Image). GoesWithMount m count (Some i) image run volume) is here in
      let by = by_the_mount m count ready image run volume old is there left settled.finds in
      ends_settled the_mounted (held_now old) commit old next.told next.scene there.coherent by (whole there) happened.happenings happened.added (holds_itself (held_now old))
      happened.admissible happened.behind happened.commits happened.told (held_now-goes_on old next.told happened.added happened.goes_on)
      (subst (λ (t : Told). Leaves (held_now t) (image_now t)) last left_now)

  first_told : (told : Option Told) → IfTold told (λ one. (start_told told image ≡ one) × (start_held told image ≡ held_now one))
  first_told None = tt
  first_told (Some told) = (refl, refl)

  -- a new core and its device are between two calls
  begins_between : (Has : Mounted → Scene → Type 0) (blocks : ℕ) (marks : Marks) (device : Device) (seen : Option Image) (told : Option Told) (faults : ℕ) → GoesWithMount m count seen image run volume
      → IsNewVolume Has blocks marks device m → IfTold told (λ one. length (image_now one) ≡ count)
      → IsOrderly the_mounted (first_scene (start_held told image) commit) → ((caller : ℕ) → IsOver (call_in the_mounted (first_scene (start_held told image) commit) caller))
      → IsBetween Has blocks marks device count the_mounted (start_at told faults image commit m.superblock.blocks)
  begins_between Has blocks marks device seen told faults goes new size orderly over = record {
    has = subst (λ (v : Volume). Has (record { volume = v; image = image }) (first_scene (start_held told image) commit)) goes.is_volume
        (new.has image run (start_held told image) commit goes.of_mount (subst IsCoherentVolume (sym goes.is_volume) goes.coherent) goes.begun);
    goes = record {
      orderly = orderly;
      over = over;
      idle = refl;
      held = holds_itself (start_held told image);
      knows = ap (λ (d : Device). d.failed) new.untouched;
      size = start_size told image count goes.size size;
    };
    done = ap (λ (m : Marks). m.done) new.at_zero ∙ ap (λ (d : Device). d.marks.done) (sym new.untouched);
    tried = ap (λ (m : Marks). m.tried) new.at_zero ∙ ap (λ (d : Device). d.marks.tried) (sym new.untouched);
    blocks = sym (new.size ∙ ready.size);
    has_super = (let size = new.size in let is = ready.size in let least = ready.least in omega (arith, size, is, least));
    fits = (let size = new.size in let is = ready.size in let fits = ready.on_disk in omega (arith, size, is, fits));
    whole = goes.size;
  }

  run_on : (happen : RunsHappen) (stand : RunsStand) (lines : List Line) (before after : Outside) (result : Result (Unit {0}) RunFault) (faults : ℕ) (next : Between) → GoesWithMount m count before.seen image run volume
      → IfTold before.told (λ old. HasLostNone old → before.seen ≡ Some (image_now old)) → IfTold before.told (λ old. Leaves (held_now old) (image_now old))
      → before.disk_faults ≤ faults → IsDiskAt after.told after.disk_faults next → TellsStill before.told after.told
      → IfTold after.told (λ now. Leaves (held_now now) (image_now now)) → after.history ≡ next.scene.events
      → HasRun the_mounted lines (start_at before.told faults image commit m.superblock.blocks) next before.taken after.taken result → IsRunOn lines before after result
  run_on happen stand lines before after result faults next goes same left counted last tells left_now history ran =
      let happened = happen the_mounted lines (start_at before.told faults image commit m.superblock.blocks) next before.taken after.taken result ran in
      record {
        mounted = the_mounted;
        first = commit;
        held = start_held before.told image;
        start = start_at before.told faults image commit m.superblock.blocks;
        next = next;
        mounts = told_is before.seen goes.mounts;
        blocks = goes.blocks;
        coherent = goes.coherent;
        by = goes.has;
        begins = refl;
        first_told = first_told before.told;
        counted = counted;
        last_told = last;
        tells = tells;
        ran = ran;
        happened = happened;
        history = history;
        crash = crash stand before.seen before.told faults next goes same left happened;
        settles = settles before.seen before.told after.told faults next goes same left left_now last.told tells happened;
      }
    where
      told_is : (seen : Option Image) → IfTold seen (λ told. (told ≡ image) × Mounts told volume) → IfTold seen (λ told. (told ≡ image) × Mounts told volume)
      told_is seen mounts = mounts

-- ---- all of it, of a volume that was mounted

module _ (m : Found) (count : ℕ) (seen : Option Image) (told : Option Told) (starts : StartsWith m count seen told) where
  chosen : (image : Image) × (run : RunVolume) × (volume : Volume) × GoesWithMount m count seen image run volume
  chosen = goes_with_mount m count seen starts.ready starts.mounted_as starts.sizes

  pub the_volume : Mounted
  the_volume = record { volume = chosen.2; image = chosen.0 }

  pub the_first : Commit
  the_first = mount_commit chosen.0 m chosen.2

  pub the_start : ℕ → Between
  the_start faults = start_at told faults chosen.0 the_first m.superblock.blocks

  pub starts_at : (faults : ℕ) → IsDiskAt told faults (the_start faults)
  unfolding the_start
  starts_at faults = at_the_start told faults chosen.0 the_first m.superblock.blocks

  pub starts_between : (Has : Mounted → Scene → Type 0) (blocks : ℕ) (marks : Marks) (device : Device) (faults : ℕ) → IsNewVolume Has blocks marks device m
      → ((mounted : Mounted) (held : Held) (first : Commit) → IsCoherentVolume mounted.volume → IsOrderly mounted (first_scene held first))
      → ((mounted : Mounted) (held : Held) (first : Commit) (caller : ℕ) → IsOver (call_in mounted (first_scene held first) caller))
      → IsBetween Has blocks marks device count the_volume (the_start faults)
  unfolding the_volume the_start the_first
  starts_between Has blocks marks device faults new orderly over =
      let held = start_held told chosen.0 in
      begins_between m count starts.ready chosen.0 chosen.1 chosen.2 Has blocks marks device seen told faults chosen.3 new starts.told_sizes (orderly the_volume held the_first chosen.3.coherent) (over the_volume held the_first)

  pub starts_on : (happen : RunsHappen) (stand : RunsStand) (lines : List Line) (taken : Option (List ℕ)) (disk_faults sink_faults : ℕ) (events : List Event) (after : Outside) (result : Result (Unit {0}) RunFault) (faults : ℕ) (next : Between)
      → disk_faults ≤ faults → IsDiskAt after.told after.disk_faults next → TellsStill told after.told → IfTold after.told (λ now. Leaves (held_now now) (image_now now))
      → after.history ≡ next.scene.events → HasRun the_volume lines (the_start faults) next taken after.taken result
      → IsRunOn lines (outside seen told taken disk_faults sink_faults events) after result
  unfolding the_volume the_start the_first
  starts_on happen stand lines taken disk_faults sink_faults events after result faults next counted last tells left_now history ran =
      run_on m count starts.ready chosen.0 chosen.1 chosen.2 happen stand lines (outside seen told taken disk_faults sink_faults events) after result faults next chosen.3 starts.same starts.left counted last tells left_now history ran
