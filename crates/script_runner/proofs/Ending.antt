-- How a run ends: what a crash may leave then, and when a next run may begin.
use Rattle.std.proofs.Common.{◌≡◌, ◌<◌, ◌/◌, ℕ, Bool, true, false, cond, List, [], ◌∷◌, length, Option, Some, None, refl, sym, ap, subst, ◌∙◌, inl, inr, arith}
use Rattle.std.specs.Prelude.{Contains, slice_get, slice_index_or}
use Rattle.std.proofs.lemmas.Option.{slice_get-get_or}
use Rattle.blk_base.specs.Bytes.{Image, zeros}
use Rattle.commit_blocks.proofs.Read.{each as each_of}
use Rattle.commit_core.specs.Sealed.{CommitsStandWhole, StandsWhole, StandsWithin}
use Rattle.commit_device.specs.Calls.{AreTold, HoldsAtLeast, calls_of}
use Rattle.commit_device.proofs.Joined.{held_behind}
use Rattle.commit_device.proofs.Told.{Covers, covers, covers_after, covers_untold, left_covered}
use Rattle.commit_history.specs.declared.event.Event.{Event}
use Rattle.commit_history.specs.State.{State}
use Rattle.commit_images.specs.Admissible.{AreAdmissible}
use Rattle.commit_images.specs.Images.{IsMountedBy}
use Rattle.commit_images.specs.Scene.{Batch, Comes, Commit, Flushes, Handed, Happening, HasCommit, Mounted, Nothing, Part, Scene, StandsFor, Writes, WritesAgain, WritesSuper, batch_after, first_scene, scene_after, scene_after_again, scene_after_super, scene_behind, state_in}
use Rattle.commit_images.proofs.Events.{SoundIn, first_sound, step_sound}
use Rattle.disk_model.specs.Disk.{Call, Held, Leaves, Told, after_call, after_calls, held_now, image_now}
use Rattle.disk_model.proofs.CrashLaws.{Contains-cons_cases, Contains-here, Contains-single, Contains-there}
use Rattle.flat_model.specs.Coherent.{IsCoherentVolume}
use Rattle.flat_model.specs.Volume.{Volume}
use Rattle.flat_model.proofs.Maps.{some_none, some_same}
use Rattle.volume_image.specs.Stands.{Stands, super_block}
use Rattle.volume_image.proofs.Standing.{one_reach}
use Rattle.script_runner.specs.Run.{EndsSettled}

-- ---- superblocks that a crash may find, and the commit that runs

record AllWhole (size : ℕ) (scene : Scene) : Type 0 where
  pub found : (commit : Commit) → Contains scene.found commit → StandsWhole size commit
  pub batch : (commit : Commit) → scene.batch ≡ Some commit → StandsWhole size commit

batch_whole : (size : ℕ) (batch : Option Commit) (next : List Volume) (handed : Handed) → ((commit : Commit) → batch ≡ Some commit → StandsWhole size commit)
    → ((blocks : List (ℕ × List ℕ)) (commit : Commit) → handed ≡ Batch blocks commit → StandsWhole size commit) → (commit : Commit) → batch_after batch next handed ≡ Some commit → StandsWhole size commit
batch_whole size batch [] Nothing before new commit is = absurd (some_none commit (sym is))
batch_whole size batch (volume ∷ volumes) Nothing before new commit is = before commit is
batch_whole size batch [] (Part blocks) before new commit is = absurd (some_none commit (sym is))
batch_whole size batch (volume ∷ volumes) (Part blocks) before new commit is = before commit is
batch_whole size batch next (Batch blocks made) before new commit is = subst (StandsWhole size) (some_same made commit is) (new blocks made refl)

one_more : (size : ℕ) (ok : Bool) (commit : Commit) (found : List Commit) → StandsWhole size commit → ((one : Commit) → Contains found one → StandsWhole size one)
    → (one : Commit) → Contains (cond ok (commit ∷ []) (commit ∷ found)) one → StandsWhole size one
one_more size true commit found whole before one there = subst (StandsWhole size) (sym (Contains-single commit one there)) whole
one_more size false commit found whole before one there = elim (Contains-cons_cases commit found one there) [
  | inl same ↦ subst (StandsWhole size) same whole
  | inr earlier ↦ before one earlier
]

super_whole : (size : ℕ) (state : State) (scene : Scene) (batch : Option Commit) (ok : Bool) (left : List ℕ) → scene.batch ≡ batch → AllWhole size scene → AllWhole size (scene_after_super state scene batch ok left)
super_whole size state scene None ok left is all = all
super_whole size state scene (Some commit) ok left is all = record { found = one_more size ok commit scene.found (all.batch commit is) all.found; batch = all.batch }

again_whole : (size : ℕ) (scene : Scene) (found : List Commit) (ok : Bool) (left : List ℕ) → scene.found ≡ found → AllWhole size scene → AllWhole size (scene_after_again scene found ok left)
again_whole size scene [] ok left is all = all
again_whole size scene (commit ∷ found) ok left is all = record {
  found = one_more size ok commit found (all.found commit (subst (λ (cs : List Commit). Contains cs commit) (sym is) (Contains-here commit found)))
      (λ one there. all.found one (subst (λ (cs : List Commit). Contains cs one) (sym is) (Contains-there commit found one there)));
  batch = all.batch;
}

step_whole : (size : ℕ) (volume : Volume) (scene : Scene) (happening : Happening) → AllWhole size scene
    → ((came : Event) (blocks : List (ℕ × List ℕ)) (commit : Commit) → happening ≡ Comes came (Batch blocks commit) → StandsWhole size commit) → AllWhole size (scene_after volume scene happening)
step_whole size volume scene (Comes came handed) all new = record {
  found = all.found;
  batch = batch_whole size scene.batch _ handed all.batch (λ blocks commit is. new came blocks commit (ap (Comes came) is));
}
step_whole size volume scene (Writes at bytes ok left) all new = record { found = all.found; batch = all.batch }
step_whole size volume scene (Flushes ok) all new = record { found = all.found; batch = all.batch }
step_whole size volume scene (WritesSuper ok left) all new = super_whole size (state_in volume scene) scene scene.batch ok left refl all
step_whole size volume scene (WritesAgain ok left) all new = again_whole size scene scene.found ok left refl all

-- ---- behind all that happened

stands_of : (size : ℕ) (commit : Commit) → StandsWhole size commit → StandsFor Stands size commit
stands_of size commit whole = λ image blocks same has. (let it = whole image blocks same has in record { reach = it.reach; by_reach = it.by_reach })

module _ (mounted : Mounted) (size : ℕ) (coherent : IsCoherentVolume mounted.volume) where
  all_sound : (happenings : List Happening) (scene : Scene) → SoundIn Stands size mounted.volume scene → AllWhole size scene → AreAdmissible mounted scene happenings → CommitsStandWhole size happenings
      → SoundIn Stands size mounted.volume (scene_behind mounted.volume scene happenings) × AllWhole size (scene_behind mounted.volume scene happenings)
  all_sound [] scene sound whole may stand = (sound, whole)
  all_sound (happening ∷ happenings) scene sound whole may stand =
      let here : (came : Event) (blocks : List (ℕ × List ℕ)) (commit : Commit) → happening ≡ Comes came (Batch blocks commit) → StandsWhole size commit =
      λ came blocks commit is. stand came blocks commit (subst (Contains (happening ∷ happenings)) is (Contains-here happening happenings)) in
      all_sound happenings (scene_after mounted.volume scene happening)
      (step_sound Stands mounted size coherent scene happening sound may.0 (λ came blocks commit is. stands_of size commit (here came blocks commit is)))
      (step_whole size mounted.volume scene happening whole here) may.1
      (λ came blocks commit there. stand came blocks commit (Contains-there happening happenings _ there))

-- what a disk holds by its record is covered by what happened
told_covers : (calls added : List Call) (told held : Held) → Covers told held → AreTold calls added → Covers (after_calls told added) (after_calls held calls)
told_covers [] added told held is are = subst (λ (cs : List Call). Covers (after_calls told cs) held) (sym are) is
told_covers (call ∷ calls) added told held is (inl are) =
    subst (λ (cs : List Call). Covers (after_calls told cs) (after_calls (after_call held call) calls)) (sym are.1)
    (told_covers calls are.0 (after_call told call) (after_call held call) (covers_after told held call is) are.2)
told_covers (call ∷ calls) added told held is (inr are) = told_covers calls added told (after_call held call) (covers_untold told held call are.0 is) are.1

-- ---- the end

module _ (mounted : Mounted) (held : Held) (first : Commit) (start : Told) (next : Told) (scene : Scene) (coherent : IsCoherentVolume mounted.volume) (by : IsMountedBy Stands mounted held first)
    (whole : StandsWhole (length mounted.image) first) (happenings : List Happening) (added : List Call) (holds : HoldsAtLeast (held_now start) held)
    (admissible : AreAdmissible mounted (first_scene held first) happenings) (behind : scene ≡ scene_behind mounted.volume (first_scene held first) happenings)
    (commits : CommitsStandWhole (length mounted.image) happenings) (told : AreTold (calls_of mounted.volume (first_scene held first) happenings) added)
    (now_is : held_now next ≡ after_calls (held_now start) added) where
  abbrev size : ℕ
  size = length mounted.image

  first_whole : AllWhole size (first_scene held first)
  first_whole = record {
    found = λ commit there. subst (StandsWhole size) (sym (Contains-single first commit there)) whole;
    batch = λ commit is. absurd (some_none commit (sym is));
  }

  both : SoundIn Stands size mounted.volume scene × AllWhole size scene
  both =
      subst (λ (s : Scene). SoundIn Stands size mounted.volume s × AllWhole size s) (sym behind)
      (all_sound mounted size coherent happenings (first_scene held first) (first_sound Stands mounted held first by) first_whole admissible commits)

  covered : Covers (held_now next) scene.held
  covered =
      subst (λ (h : Held). Covers h scene.held) (sym now_is)
      (subst (λ (h : Held). Covers (after_calls (held_now start) added) h) (sym (ap (λ (s : Scene). s.held) behind ∙ held_behind mounted.volume (first_scene held first) happenings))
      (told_covers (calls_of mounted.volume (first_scene held first) happenings) added (held_now start) held (covers (held_now start) held holds) told))

  -- an image of a crash then has all that a superblock reaches which has its bytes
  has_commit : (image : Image) → Leaves (held_now next) image → (commit : Commit) → Contains scene.found commit → slice_index_or image 16 [] ≡ commit.superblock → HasCommit image commit
  has_commit image leaves commit there same = record {
    superblock = same;
    blocks = λ block inside.
        let settled = both.0.durable commit there block inside in
        let left : Leaves scene.held image = left_covered (held_now next) scene.held covered image leaves in
        left.others block.0 settled.not_super settled.settled ∙ settled.reads;
  }

  long : (image : Image) → Leaves (held_now next) image → 16 < length image
  long image leaves =
      let left : Leaves scene.held image = left_covered (held_now next) scene.held covered image leaves in
      let size_is = left.size ∙ both.0.size_is in
      let big = both.0.big in
      omega (arith, size_is, big)

  super_read : (image : Image) → 16 < length image → slice_get image 16 ≡ Some (super_block image)
  super_read image far = slice_get-get_or image 16 (zeros 4096) far

  pub ends_settled : Leaves (held_now next) (image_now next) → EndsSettled next
  ends_settled now none reads = record {
    none_lost = none;
    finds = λ volume reach stands image leaves.
        let here : Leaves scene.held (image_now next) = left_covered (held_now next) scene.held covered (image_now next) now in
        let far = long (image_now next) now in
        let far_image = long image leaves in
        let found = both.0.supers (slice_index_or (image_now next) 16 []) here.super (here.blocks 16 [] far) in
        let same_super : slice_get (image_now next) 16 ≡ slice_get image 16 = super_read (image_now next) far ∙ ap Some (sym (reads image leaves)) ∙ sym (super_read image far_image) in
        let same_bytes : slice_index_or image 16 [] ≡ found.0.superblock =
        some_same (slice_index_or image 16 []) (slice_index_or (image_now next) 16 []) (sym (slice_get-get_or image 16 [] far_image) ∙ sym same_super ∙ slice_get-get_or (image_now next) 16 [] far) ∙ found.2 in
        let has_now = has_commit (image_now next) now found.0 found.1 found.2 in
        let has_image = has_commit image leaves found.0 found.1 same_bytes in
        let it : StandsWithin (image_now next) found.0 = both.1.found found.0 found.1 (image_now next) here.blocks (here.size ∙ both.0.size_is) has_now in
        let is : reach ≡ it.reach = one_reach (image_now next) volume found.0.volume reach it.reach stands it.by_reach in
        record {
          size = sym leaves.size;
          super = same_super;
          blocks = each_of (λ (at : ℕ). slice_get (image_now next) (at / 4096) ≡ slice_get image (at / 4096)) reach (λ at inside.
              let block = it.within at (subst (λ (r : List ℕ). Contains r at) is inside) in
              subst (λ (n : ℕ). slice_get (image_now next) n ≡ slice_get image n) block.2 (has_now.blocks block.0 block.1 ∙ sym (has_image.blocks block.0 block.1)));
        };
  }
