-- A call of the device that may happen changes nothing of what a volume keeps.
use Rattle.std.proofs.Common.{◌≡◌, ℕ, Bool, true, false, cond, List, [], ◌∷◌, Option, Some, refl, sym, ap, subst}
use Rattle.std.specs.Prelude.{Contains}
use Rattle.blk_base.specs.Bytes.{Image}
use Rattle.commit_core.specs.Coming.{IsDeviceCall}
use Rattle.commit_history.specs.State.{State}
use Rattle.commit_images.specs.Admissible.{MayHappen, MayWriteSuper}
use Rattle.commit_images.specs.Scene.{Comes, Commit, Flushes, Happening, HasFailed, IsWritten, Mounted, Scene, Writes, WritesAgain, WritesSuper, scene_after, scene_after_again, scene_after_super, state_in}
use Rattle.disk_model.proofs.CrashLaws.{Contains-here, Contains-none, Contains-single}
use Rattle.flat_model.specs.Volume.{RunVolume}
use Rattle.commit_blocks.specs.declared.kept.Kept.{Kept}
use Rattle.commit_blocks.specs.Keeps.{KeepsBlocks}
use Rattle.commit_blocks.proofs.DeviceSuper.{FindsFirst, TriesSuper, again_keeps, tried_keeps}
use Rattle.commit_blocks.proofs.SameScene.{same_blocks}

-- what is found once the superblock of a commit was tried, beside the commit
pub others_of : Bool → Commit → List Commit
others_of true first = []
others_of false first = first ∷ []

module _ (state : State) (scene : Scene) (ok : Bool) (left : List ℕ) where
  tries : (may : MayWriteSuper scene ok left) → (is_ok : Bool) → ok ≡ is_ok → TriesSuper scene (scene_after_super state scene (Some may.commit) is_ok left) may.commit may.first (others_of is_ok may.first)
  unfolding others_of
  tries may true is = record {
    runs = may.runs;
    was = may.alone;
    first_time = may.first_time;
    found = refl;
    fewer = λ other there. absurd (Contains-none other there);
    tried = λ not. cc;
    written = λ it. refl;
    batch = refl;
    handed = refl;
  }
  tries may false is = record {
    runs = may.runs;
    was = may.alone;
    first_time = may.first_time;
    found = ap (λ (l : List Commit). may.commit ∷ l) may.alone;
    fewer = λ other there. Contains-single may.first other there;
    tried = λ not. cc;
    written = λ it. (let wrong : HasFailed ≡ IsWritten = it in absurd cc);
    batch = refl;
    handed = refl;
  }

finds : (scene : Scene) (ok : Bool) (left : List ℕ) (commit other : Commit) (others : List Commit) → scene.found ≡ commit ∷ other ∷ others
    → FindsFirst scene (scene_after_again scene (commit ∷ other ∷ others) ok left) commit (other ∷ others) (cond ok [] (other ∷ others))
finds scene true left commit other others found = record {
  was = found;
  found = refl;
  fewer = λ one there. subst (λ (c : Commit). Contains (commit ∷ other ∷ others) c) (sym (Contains-single commit one there)) (Contains-here commit (other ∷ others));
  alone = λ none. refl;
  batch = refl;
  progress = refl;
  handed = refl;
}
finds scene false left commit other others found = record {
  was = found;
  found = refl;
  fewer = λ one there. there;
  alone = λ none. none;
  batch = refl;
  progress = refl;
  handed = refl;
}

pub device_keeps : (kept : Kept) (image : Image) (run : RunVolume) (mounted : Mounted) (scene : Scene) (happening : Happening) → KeepsBlocks kept image run scene → IsDeviceCall happening → MayHappen mounted scene happening
    → KeepsBlocks kept image run (scene_after mounted.volume scene happening)
device_keeps kept image run mounted scene (Comes event handed) keeps call may = absurd call
device_keeps kept image run mounted scene (Writes at bytes ok left) keeps call may =
    same_blocks kept image run scene (scene_after mounted.volume scene (Writes at bytes ok left)) (record { found = refl; batch = refl; progress = refl; handed = refl }) keeps
device_keeps kept image run mounted scene (Flushes ok) keeps call may =
    same_blocks kept image run scene (scene_after mounted.volume scene (Flushes ok)) (record { found = refl; batch = refl; progress = refl; handed = refl }) keeps
device_keeps kept image run mounted scene (WritesSuper ok left) keeps call may =
    let state = state_in mounted.volume scene in
    subst (λ (batch : Option Commit). KeepsBlocks kept image run (scene_after_super state scene batch ok left)) (sym may.runs)
    (tried_keeps kept image run scene (scene_after_super state scene (Some may.commit) ok left) may.commit may.first (others_of ok may.first) (tries state scene ok left may ok refl) keeps)
device_keeps kept image run mounted scene (WritesAgain ok left) keeps call may =
    subst (λ (found : List Commit). KeepsBlocks kept image run (scene_after_again scene found ok left)) (sym may.found)
    (again_keeps kept image run scene (scene_after_again scene (may.commit ∷ may.other ∷ may.others) ok left) may.commit (may.other ∷ may.others) (cond ok [] (may.other ∷ may.others)) (finds scene ok left may.commit may.other may.others may.found) keeps)
