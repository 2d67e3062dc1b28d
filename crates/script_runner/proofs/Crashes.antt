-- What a crash may leave of a command `run`, whatever it answers.
use Rattle.std.proofs.Common.{◌≡◌, ◌<◌, ◌/◌, ℕ, [], List, length, map, Option, Some, None, Result, append-nil, refl, sym, ap, subst, ◌∙◌, arith}
use Rattle.std.specs.Prelude.{Contains, slice_get, slice_index_or}
use Rattle.std.proofs.lemmas.List.Elements.{All-contains}
use Rattle.std.proofs.lemmas.Option.{slice_get-get_or}
use Rattle.blk_base.specs.Address.{IsAllowed}
use Rattle.blk_base.specs.Bytes.{Image}
use Rattle.commit_blocks.proofs.Read.{each as each_of}
use Rattle.commit_device.specs.Moments.{EachMomentStands}
use Rattle.commit_device.proofs.Moments.{told_stand}
use Rattle.commit_images.specs.Admissible.{AreAdmissible}
use Rattle.commit_images.specs.Images.{IsMountedBy}
use Rattle.commit_images.specs.Scene.{Commit, HasCommit, Mounted, Scene, StandsFor, first_scene}
use Rattle.commit_images.proofs.Events.{each_stands, first_sound}
use Rattle.disk_model.specs.Disk.{Held, IfTold, Leaves, Told, held_now, image_now}
use Rattle.flat_model.specs.Volume.{Volume}
use Rattle.flat_model.specs.declared.request.Line.{Line}
use Rattle.flat_model.proofs.Maps.{some_none, some_same}
use Rattle.volume_calls.specs.Between.{TellsStill}
use Rattle.volume_image.specs.Stands.{AgreesOn, Stands, StandsBy}
use Rattle.volume_image.proofs.Lists.{in_nothing}
use Rattle.volume_image.proofs.Members.{in_map, map_in}
use Rattle.volume_image.proofs.Standing.{reach_all_allowed, stands_local, stands_once}
use Rattle.script_lines.specs.declared.fault.RunFault.{RunFault}
use Rattle.script_runner.specs.declared.status.Status.{Status}
use Rattle.script_runner.specs.Run.{AllRun, CrashMounts, DiskFailed, EndsSettled, FindsWholeVolume, FromSource, HasLostNone, IsUntouched, IsLinesAnswer, IsRunAnswer, IsRunOn, IsSettled, KeepsSettled, LacksMemory, MemoryLacked, Mounts, MountsThroughout, NoMemory, NotMounted, NotParsed, NotRead, Outside, Parsed, SinkFailed}
use Rattle.script_runner.proofs.Beginning.{StandAt, holds_itself, moments_mount, mounted_by}

-- ---- a disk that stays as it was

-- the superblock of an image, with the blocks at these byte addresses
abbrev reach_commit : Image → List ℕ → Volume → Commit
reach_commit image reach volume =
    record { superblock = slice_index_or image 16 []; blocks = map (λ (at : ℕ). (at / 4096, slice_index_or image (at / 4096) [])) reach; volume = volume }

module _ (old : Told) (volume : Volume) (reach : List ℕ) (stands : StandsBy (image_now old) volume reach) where
  abbrev image : Image
  image = image_now old

  abbrev commit : Commit
  commit = reach_commit image reach volume

  long : 16 < length image
  long = let least = stands.spelled.smallest in let fits = stands.spelled.on_disk in omega (arith, least, fits)

  allowed : (at : ℕ) → Contains reach at → IsAllowed stands.super.blocks at
  allowed at there = All-contains (IsAllowed stands.super.blocks) reach at (reach_all_allowed image volume reach stands) there

  stand : StandAt reach commit
  stand block there =
      let one : (at : ℕ) × Contains reach at × ((at / 4096, slice_index_or image (at / 4096) []) ≡ block) = in_map (λ (at : ℕ). (at / 4096, slice_index_or image (at / 4096) [])) reach block there in
      (one.0, one.1, ap (λ (b : ℕ × List ℕ). b.0) (sym one.2))

  read_there : (at : ℕ) → Contains reach at → slice_get image (at / 4096) ≡ Some (slice_index_or image (at / 4096) [])
  read_there at there =
      let inside = (allowed at there).inside in let fits = stands.spelled.on_disk in
      slice_get-get_or image (at / 4096) [] (omega (arith, inside, fits))

  has : HasCommit image commit
  has = record {
    superblock = refl;
    blocks = λ block there.
        let one : (at : ℕ) × Contains reach at × ((at / 4096, slice_index_or image (at / 4096) []) ≡ block) = in_map (λ (at : ℕ). (at / 4096, slice_index_or image (at / 4096) [])) reach block there in
        subst (λ (b : ℕ × List ℕ). slice_get image b.0 ≡ Some b.1) one.2 (read_there one.0 one.1);
  }

  agrees : (other : Image) → length other ≡ length image → HasCommit other commit → AgreesOn reach image other
  agrees other size it = record {
    size = sym size;
    super =
        let far : 16 < length other = (let near = long in omega (arith, near, size)) in
        slice_get-get_or image 16 [] long ∙ ap Some (sym it.superblock) ∙ sym (slice_get-get_or other 16 [] far);
    blocks = each_of (λ (at : ℕ). slice_get image (at / 4096) ≡ slice_get other (at / 4096)) reach
        (λ at there. read_there at there ∙ sym (it.blocks (at / 4096, slice_index_or image (at / 4096) []) (map_in (λ (at : ℕ). (at / 4096, slice_index_or image (at / 4096) [])) reach at there)));
  }

  the_stands : StandsFor Stands (length image) commit
  the_stands other blocks size it = record { reach = reach; by_reach = stands_local image other volume reach stands (agrees other size it) }

  the_mounted : Leaves (held_now old) image → FindsWholeVolume old → IsMountedBy Stands (record { volume = volume; image = image }) (held_now old) commit
  the_mounted left finds = mounted_by old image volume reach commit refl long refl stand has (λ at there. (allowed at there).behind_super) stands the_stands left finds

  still_mounts : Leaves (held_now old) image → FindsWholeVolume old → MountsThroughout volume old old
  still_mounts left finds =
      let scene = first_scene (held_now old) commit in
      let sound = first_sound Stands (record { volume = volume; image = image }) (held_now old) commit (the_mounted left finds) in
      let each = each_stands Stands (record { volume = volume; image = image }) (length image) stands.committed.coherent [] scene sound tt (λ event blocks one c. absurd (in_nothing _ c)) in
      record {
        first = commit;
        happenings = [];
        by = has;
        admissible = tt;
        each = moments_mount volume scene [] old old
            (told_stand Stands volume scene [] old old [] (holds_itself (held_now old)) (record { first = refl; supers = refl; calls = sym (append-nil old.calls) }) refl each);
      }

-- ---- a run of lines

module _ (lines : List Line) (before after : Outside) (result : Result (Unit {0}) RunFault) (run : IsRunOn lines before after result) where
  run_mounts : (old new : Told) → before.told ≡ Some old → after.told ≡ Some new → before.seen ≡ Some (image_now old) → HasLostNone old → FindsWholeVolume old
      → (volume : Volume) → Stands (image_now old) volume → MountsThroughout volume old new
  run_mounts old new old_is new_is seen_is none finds volume stands = record {
    first = run.first;
    happenings = run.happened.happenings;
    by = subst (λ (i : Image). HasCommit i run.first) (sym image_is) run.by;
    admissible =
        subst (λ (m : Mounted). AreAdmissible m (first_scene (held_now old) run.first) run.happened.happenings) mounted_is
        (subst (λ (s : Scene). AreAdmissible run.mounted s run.happened.happenings) scene_is run.happened.admissible);
    each =
        subst (λ (n : Told). EachMomentStands Mounts volume (first_scene (held_now old) run.first) run.happened.happenings old n) (sym last_is)
        (subst (λ (v : Volume). EachMomentStands Mounts v (first_scene (held_now old) run.first) run.happened.happenings old run.next.told) volume_is
        (subst (λ (s : Scene). EachMomentStands Mounts run.mounted.volume s run.happened.happenings old run.next.told) scene_is crash));
  }
    where
      mounts : (image_now old ≡ run.mounted.image) × Mounts (image_now old) run.mounted.volume
      mounts = subst (λ (s : Option Image). IfTold s (λ image. (image ≡ run.mounted.image) × Mounts image run.mounted.volume)) seen_is run.mounts

      image_is : image_now old ≡ run.mounted.image
      image_is = mounts.0

      volume_is : run.mounted.volume ≡ volume
      volume_is = stands_once (image_now old) run.mounted.volume volume mounts.1.stands stands

      mounted_is : run.mounted ≡ record { volume = volume; image = image_now old }
      mounted_is = ap (λ (v : Volume). record { volume = v; image = run.mounted.image }) volume_is ∙ ap (λ (i : Image). record { volume = volume; image = i }) (sym image_is)

      told_first : (run.start.told ≡ old) × (run.held ≡ held_now old)
      told_first = subst (λ (t : Option Told). IfTold t (λ told. (run.start.told ≡ told) × (run.held ≡ held_now told))) old_is run.first_told

      scene_is : run.start.scene ≡ first_scene (held_now old) run.first
      scene_is = run.begins ∙ ap (λ (held : Held). first_scene held run.first) told_first.1

      last_is : new ≡ run.next.told
      last_is = subst (λ (t : Option Told). IfTold t (λ now. now ≡ run.next.told)) new_is run.last_told.told

      crash : EachMomentStands Mounts run.mounted.volume run.start.scene run.happened.happenings old run.next.told
      crash = subst (λ (t : Option Told). IfTold t (λ told. HasLostNone told → FindsWholeVolume told → EachMomentStands Mounts run.mounted.volume run.start.scene run.happened.happenings told run.next.told)) old_is run.crash none finds

-- ---- all of it

module _ (before after : Outside) (same : IfTold before.told (λ old. HasLostNone old → before.seen ≡ Some (image_now old))) (left : IfTold before.told (λ old. Leaves (held_now old) (image_now old))) where
  abbrev IsLeft : Type 0
  IsLeft = (old new : Told) → before.told ≡ Some old → after.told ≡ Some new → HasLostNone old → FindsWholeVolume old → (volume : Volume) → Stands (image_now old) volume → MountsThroughout volume old new

  left_still : IsUntouched before after → IsLeft
  left_still still old new old_is new_is none finds volume stands =
      let one : old ≡ new = some_same old new (sym old_is ∙ sym still.told ∙ new_is) in
      subst (MountsThroughout volume old) one
      (still_mounts old volume stands.reach stands.by_reach (subst (λ (t : Option Told). IfTold t (λ told. Leaves (held_now told) (image_now told))) old_is left) finds)

  seen_is : (old : Told) → before.told ≡ Some old → HasLostNone old → before.seen ≡ Some (image_now old)
  seen_is old old_is none = subst (λ (t : Option Told). IfTold t (λ told. HasLostNone told → before.seen ≡ Some (image_now told))) old_is same none

  left_by_lines : (lines : List Line) (status : Status) (text : List ℕ) → IsLinesAnswer lines before after status text → IsLeft
  left_by_lines lines _ _ (AllRun run) = λ old new old_is new_is none. run_mounts lines before after _ run old new old_is new_is (seen_is old old_is none) none
  left_by_lines lines _ _ (SinkFailed run risen) = λ old new old_is new_is none. run_mounts lines before after _ run old new old_is new_is (seen_is old old_is none) none
  left_by_lines lines _ _ (MemoryLacked taken run front) = λ old new old_is new_is none.
      run_mounts lines before (record after { taken = taken }) _ run old new old_is new_is (seen_is old old_is none) none
  left_by_lines lines _ _ (NotMounted fault found still) = left_still still
  left_by_lines lines _ _ (DiskFailed risen still) = left_still still
  left_by_lines lines _ _ (NoMemory still) = left_still still

  left_by_run : (given rest : FromSource) (status : Status) (text : List ℕ) → IsRunAnswer given rest before after status text → IsLeft
  left_by_run given rest _ _ (Parsed status text bytes lines read script answer) = left_by_lines lines status text answer
  left_by_run given rest _ _ (NotParsed bytes line kind read bad still) = left_still still
  left_by_run given rest _ _ (NotRead taken cut still) = left_still still
  left_by_run given rest _ _ (LacksMemory some still) = left_still still

-- ---- whether the record is told at the end

tells_now : (before after : Option Told) → after ≡ before → TellsStill before after
tells_now None None same = tt
tells_now None (Some now) same = absurd (some_none now same)
tells_now (Some told) None same = absurd (some_none told (sym same))
tells_now (Some told) (Some now) same = tt

told_by_lines : (before after : Outside) (lines : List Line) (status : Status) (text : List ℕ) → IsLinesAnswer lines before after status text → TellsStill before.told after.told
told_by_lines before after lines _ _ (AllRun run) = run.tells
told_by_lines before after lines _ _ (SinkFailed run risen) = run.tells
told_by_lines before after lines _ _ (MemoryLacked taken run front) = run.tells
told_by_lines before after lines _ _ (NotMounted fault found still) = tells_now before.told after.told still.told
told_by_lines before after lines _ _ (DiskFailed risen still) = tells_now before.told after.told still.told
told_by_lines before after lines _ _ (NoMemory still) = tells_now before.told after.told still.told

told_by_run : (given rest : FromSource) (before after : Outside) (status : Status) (text : List ℕ) → IsRunAnswer given rest before after status text → TellsStill before.told after.told
told_by_run given rest before after _ _ (Parsed status text bytes lines read script answer) = told_by_lines before after lines status text answer
told_by_run given rest before after _ _ (NotParsed bytes line kind read bad still) = tells_now before.told after.told still.told
told_by_run given rest before after _ _ (NotRead taken cut still) = tells_now before.told after.told still.told
told_by_run given rest before after _ _ (LacksMemory some still) = tells_now before.told after.told still.told

told_crash : (told now : Option Told) → TellsStill told now
    → ((old new : Told) → told ≡ Some old → now ≡ Some new → HasLostNone old → FindsWholeVolume old → (volume : Volume) → Stands (image_now old) volume → MountsThroughout volume old new)
    → CrashMounts told now
told_crash None None tells has = tt
told_crash None (Some new) tells has = absurd tells
told_crash (Some old) None tells has = absurd tells
told_crash (Some old) (Some new) tells has = λ settled volume stands. has old new refl refl settled.none_lost settled.finds volume stands

pub run_crash : (given rest : FromSource) (before after : Outside) (status : Status) (text : List ℕ) → IfTold before.told (λ old. HasLostNone old → before.seen ≡ Some (image_now old))
    → IfTold before.told (λ old. Leaves (held_now old) (image_now old)) → IsRunAnswer given rest before after status text → CrashMounts before.told after.told
run_crash given rest before after status text same left answer =
    told_crash before.told after.told (told_by_run given rest before after status text answer) (left_by_run before after same left given rest status text answer)

-- ---- whether a next run may begin

-- a disk whose record didn't go on is as settled as before
pub settled_still : (told : Option Told) → KeepsSettled told told
settled_still None = tt
settled_still (Some told) = λ settled none reads. settled

untouched_settled : (before after : Option Told) → after ≡ before → KeepsSettled before after
untouched_settled before after same = subst (KeepsSettled before) (sym same) (settled_still before)

run_keeps : (before after : Option Told) (last : Told) → IfTold after (λ now. now ≡ last) → TellsStill before after → IfTold before (λ old. IsSettled old → EndsSettled last) → KeepsSettled before after
run_keeps None None last is tells settles = tt
run_keeps None (Some now) last is tells settles = absurd tells
run_keeps (Some old) None last is tells settles = absurd tells
run_keeps (Some old) (Some now) last is tells settles = λ settled. subst EndsSettled (sym is) (settles settled)

settled_by_lines : (before after : Outside) (lines : List Line) (status : Status) (text : List ℕ) → IsLinesAnswer lines before after status text → KeepsSettled before.told after.told
settled_by_lines before after lines _ _ (AllRun run) = run_keeps before.told after.told run.next.told run.last_told.told run.tells run.settles
settled_by_lines before after lines _ _ (SinkFailed run risen) = run_keeps before.told after.told run.next.told run.last_told.told run.tells run.settles
settled_by_lines before after lines _ _ (MemoryLacked taken run front) = run_keeps before.told after.told run.next.told run.last_told.told run.tells run.settles
settled_by_lines before after lines _ _ (NotMounted fault found still) = untouched_settled before.told after.told still.told
settled_by_lines before after lines _ _ (DiskFailed risen still) = untouched_settled before.told after.told still.told
settled_by_lines before after lines _ _ (NoMemory still) = untouched_settled before.told after.told still.told

pub run_settled : (given rest : FromSource) (before after : Outside) (status : Status) (text : List ℕ) → IsRunAnswer given rest before after status text → KeepsSettled before.told after.told
run_settled given rest before after _ _ (Parsed status text bytes lines read script answer) = settled_by_lines before after lines status text answer
run_settled given rest before after _ _ (NotParsed bytes line kind read bad still) = untouched_settled before.told after.told still.told
run_settled given rest before after _ _ (NotRead taken cut still) = untouched_settled before.told after.told still.told
run_settled given rest before after _ _ (LacksMemory some still) = untouched_settled before.told after.told still.told
