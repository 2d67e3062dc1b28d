use Rattle.commit_core.specs.Coming.{state_of}
use Rattle.volume_core.proofs.Accounted.{last_in_use}
use Rattle.volume_core.proofs.laws.blocks_in_use_behind_a_full_commit.Goals as goal

pub returns : goal.returns
returns c = λ volume mounted scene h none only. last_in_use volume.kept mounted.image (state_of mounted scene).current scene h.kept none only
