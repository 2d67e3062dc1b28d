-- Lists of happenings, one behind the other.
use Rattle.std.proofs.Common.{◌≡◌, ℕ, Bool, List, [], ◌∷◌, ◌++◌, All, Option, Some, None, refl, sym, ap, ◌∙◌, append_assoc, inl, inr}
use Rattle.std.proofs.lemmas.List.Elements.{All-contains, All-head, All-tail, Contains-append_cases}
use Rattle.disk_model.specs.Disk.{Call, Held, Image, after_calls}
use Rattle.disk_model.proofs.CrashLaws.{after_calls-append}
use Rattle.flat_model.specs.Volume.{Volume}
use Rattle.commit_history.specs.State.{State}
use Rattle.commit_images.specs.Scene.{Batch, Commit, Happening, Comes, Writes, Flushes, WritesSuper, WritesAgain, Mounted, Scene, first_of, scene_after, scene_after_again, scene_after_super, scene_behind, state_in}
use Rattle.commit_images.specs.Admissible.{AreAdmissible, CommitsStand, MayHappen}
use Rattle.commit_images.specs.Images.{EachImageStands}
use Rattle.commit_core.specs.Coming.{IsDeviceCall}
use Rattle.commit_device.specs.Calls.{calls_of, device_call_of, super_calls}

pub behind_joined : (volume : Volume) (scene : Scene) (one two : List Happening) → scene_behind volume scene (one ++ two) ≡ scene_behind volume (scene_behind volume scene one) two
behind_joined volume scene [] two = refl
behind_joined volume scene (x ∷ one) two = behind_joined volume (scene_after volume scene x) one two

pub admissible_joined : (mounted : Mounted) (scene : Scene) (one two : List Happening) → AreAdmissible mounted scene one → AreAdmissible mounted (scene_behind mounted.volume scene one) two → AreAdmissible mounted scene (one ++ two)
admissible_joined mounted scene [] two first second = second
admissible_joined mounted scene (x ∷ one) two first second = (first.0, admissible_joined mounted (scene_after mounted.volume scene x) one two first.1 second)

pub calls_joined : (volume : Volume) (scene : Scene) (one two : List Happening) → calls_of volume scene (one ++ two) ≡ calls_of volume scene one ++ calls_of volume (scene_behind volume scene one) two
calls_joined volume scene [] two = refl
calls_joined volume scene (x ∷ one) two =
    let next : Scene = scene_after volume scene x in
    ap (λ (calls : List Call). device_call_of scene x ++ calls) (calls_joined volume next one two)
    ∙ sym (append_assoc (device_call_of scene x) (calls_of volume next one) (calls_of volume (scene_behind volume next one) two))

module _ (Stands : Image → Volume → Type 0) where
  pub commits_joined : (size : ℕ) (one two : List Happening) → CommitsStand Stands size one → CommitsStand Stands size two → CommitsStand Stands size (one ++ two)
  commits_joined size one two first second = λ e blocks commit c. elim (Contains-append_cases one two (Comes e (Batch blocks commit)) c) [
    | inl before ↦ first e blocks commit before
    | inr later ↦ second e blocks commit later
  ]

  pub no_commit : (size : ℕ) (happenings : List Happening) → All IsDeviceCall happenings → CommitsStand Stands size happenings
  no_commit size happenings alone = λ e blocks commit c. absurd (All-contains IsDeviceCall happenings (Comes e (Batch blocks commit)) alone c)

  pub images_joined : (volume : Volume) (scene : Scene) (one two : List Happening) → EachImageStands Stands volume scene one → EachImageStands Stands volume (scene_behind volume scene one) two → EachImageStands Stands volume scene (one ++ two)
  images_joined volume scene [] two first second = second
  images_joined volume scene (x ∷ one) two first second = (first.0, first.1, images_joined volume (scene_after volume scene x) one two first.2 second)

  -- what stands before all that happens
  stands_first : (volume : Volume) (scene : Scene) (happenings : List Happening) → EachImageStands Stands volume scene happenings → EachImageStands Stands volume scene []
  stands_first volume scene [] each = each
  stands_first volume scene (x ∷ happenings) each = each.0

  pub images_apart : (volume : Volume) (scene : Scene) (one two : List Happening) → EachImageStands Stands volume scene (one ++ two) → EachImageStands Stands volume scene one × EachImageStands Stands volume (scene_behind volume scene one) two
  images_apart volume scene [] two each = (stands_first volume scene two each, each)
  images_apart volume scene (x ∷ one) two each =
      let rest = images_apart volume (scene_after volume scene x) one two each.2 in
      ((each.0, each.1, rest.0), rest.1)

-- ---- what happenings leave

super_held : (state : State) (scene : Scene) (batch : Option Commit) (ok : Bool) (left : List ℕ) → (scene_after_super state scene batch ok left).held ≡ after_calls scene.held (super_calls batch ok left)
super_held state scene None ok left = refl
super_held state scene (Some commit) ok left = refl

again_held : (scene : Scene) (found : List Commit) (ok : Bool) (left : List ℕ) → (scene_after_again scene found ok left).held ≡ after_calls scene.held (super_calls (first_of found) ok left)
again_held scene [] ok left = refl
again_held scene (commit ∷ found) ok left = refl

-- what the disk holds behind a happening
pub held_after : (volume : Volume) (scene : Scene) (happening : Happening) → (scene_after volume scene happening).held ≡ after_calls scene.held (device_call_of scene happening)
held_after volume scene (Comes e handed) = refl
held_after volume scene (Writes at bytes ok left) = refl
held_after volume scene (Flushes ok) = refl
held_after volume scene (WritesSuper ok left) = super_held (state_in volume scene) scene scene.batch ok left
held_after volume scene (WritesAgain ok left) = again_held scene scene.found ok left

-- and behind all
pub held_behind : (volume : Volume) (scene : Scene) (happenings : List Happening) → (scene_behind volume scene happenings).held ≡ after_calls scene.held (calls_of volume scene happenings)
held_behind volume scene [] = refl
held_behind volume scene (x ∷ happenings) =
    let next : Scene = scene_after volume scene x in
    held_behind volume next happenings ∙ ap (λ (held : Held). after_calls held (calls_of volume next happenings)) (held_after volume scene x)
    ∙ sym (after_calls-append scene.held (device_call_of scene x) (calls_of volume next happenings))

-- no event came, and the same commit runs
pub record IsSameRun (before behind : Scene) : Type 0 where
  pub events : behind.events ≡ before.events
  pub batch : behind.batch ≡ before.batch

super_run : (state : State) (scene : Scene) (batch : Option Commit) (ok : Bool) (left : List ℕ) → IsSameRun scene (scene_after_super state scene batch ok left)
super_run state scene None ok left = record { events = refl; batch = refl }
super_run state scene (Some commit) ok left = record { events = refl; batch = refl }

again_run : (scene : Scene) (found : List Commit) (ok : Bool) (left : List ℕ) → IsSameRun scene (scene_after_again scene found ok left)
again_run scene [] ok left = record { events = refl; batch = refl }
again_run scene (commit ∷ found) ok left = record { events = refl; batch = refl }

same_run : (volume : Volume) (scene : Scene) (happening : Happening) → IsDeviceCall happening → IsSameRun scene (scene_after volume scene happening)
same_run volume scene (Comes e handed) device = absurd device
same_run volume scene (Writes at bytes ok left) device = record { events = refl; batch = refl }
same_run volume scene (Flushes ok) device = record { events = refl; batch = refl }
same_run volume scene (WritesSuper ok left) device = super_run (state_in volume scene) scene scene.batch ok left
same_run volume scene (WritesAgain ok left) device = again_run scene scene.found ok left

pub same_run_behind : (volume : Volume) (scene : Scene) (happenings : List Happening) → All IsDeviceCall happenings → IsSameRun scene (scene_behind volume scene happenings)
same_run_behind volume scene [] alone = record { events = refl; batch = refl }
same_run_behind volume scene (x ∷ happenings) alone =
    let one = same_run volume scene x (All-head IsDeviceCall x happenings alone) in
    let rest = same_run_behind volume (scene_after volume scene x) happenings (All-tail IsDeviceCall x happenings alone) in
    record { events = rest.events ∙ one.events; batch = rest.batch ∙ one.batch }

-- what each call of the device keeps holds behind all of them
pub calls_keep : (Has : Mounted → Scene → Type 0) → ((mounted : Mounted) (scene : Scene) (happening : Happening) → Has mounted scene → IsDeviceCall happening → MayHappen mounted scene happening → Has mounted (scene_after mounted.volume scene happening))
    → (mounted : Mounted) (scene : Scene) (happenings : List Happening) → Has mounted scene → All IsDeviceCall happenings → AreAdmissible mounted scene happenings → Has mounted (scene_behind mounted.volume scene happenings)
calls_keep Has each mounted scene [] has alone may = has
calls_keep Has each mounted scene (x ∷ happenings) has alone may =
    calls_keep Has each mounted (scene_after mounted.volume scene x) happenings (each mounted scene x has (All-head IsDeviceCall x happenings alone) may.0) (All-tail IsDeviceCall x happenings alone) may.1
