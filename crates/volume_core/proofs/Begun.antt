-- What a volume that has just been mounted keeps.
use Rattle.std.proofs.Common.{◌≡◌, [], Option, None, refl, sym, ap, subst, ◌∙◌, arith}
use Rattle.blk_base.specs.Bytes.{Image}
use Rattle.block_table.specs.declared.tree.Tree.{Tree}
use Rattle.commit_history.specs.declared.event.Event.TheVariants as event
use Rattle.commit_history.specs.State.{FullCommit, mounted_state}
use Rattle.commit_images.specs.Scene.{Commit, first_scene}
use Rattle.commit_callers.specs.GoWith.{GoWith}
use Rattle.commit_blocks.specs.Keeps.{KeepsBlocks}
use Rattle.disk_model.specs.Disk.{Held}
use Rattle.flat_model.specs.Volume.{RunVolume, Volume as FlatVolume, mounted as run_begun}
use Rattle.volume_core.specs.declared.volume.Volume.{Volume}
use Rattle.volume_core.specs.Keeps.{HasSpares, IsVolume, RunsAlike, running_count}
use Rattle.volume_core.proofs.JustSealed.{none_last}

current_at_mount : (volume : FlatVolume) → (mounted_state volume).current ≡ run_begun volume
unfolding mounted_state
current_at_mount volume = refl

full_at_mount : (volume : FlatVolume) → (mounted_state volume).full ≡ None
unfolding mounted_state
full_at_mount volume = refl

failures_at_mount : (volume : FlatVolume) → (mounted_state volume).failures ≡ 0
unfolding mounted_state
failures_at_mount volume = refl

pub begun : (new : Volume) (image : Image) (run : RunVolume) (volume : FlatVolume) (held : Held) (commit : Commit) → run ≡ run_begun volume → KeepsBlocks new.kept image run (first_scene held commit) → GoWith new.callers volume []
    → new.kept.sealed ≡ None → new.failures ≡ 0 → HasSpares None new.spares → IsVolume new (record { volume = volume; image = image }) (first_scene held commit)
begun new image run volume held commit is keeps callers none failures spares = record {
  kept = subst (λ (r : RunVolume). KeepsBlocks new.kept image r (first_scene held commit)) (is ∙ sym (current_at_mount volume)) keeps;
  callers = callers;
  turn = subst (λ (o : Option FullCommit). RunsAlike o new.kept.sealed) (sym (full_at_mount volume)) (subst (RunsAlike None) (sym none) tt);
  failures = failures ∙ sym (failures_at_mount volume);
  counted = let count : running_count new.kept.sealed ≡ 0 = ap running_count none in omega (arith, failures, count);
  spares = subst (λ (o : Option Tree). HasSpares o new.spares) (sym none) spares;
  just = λ caller sealed. absurd (none_last sealed.0 (event.SealFull caller) sealed.1);
}
