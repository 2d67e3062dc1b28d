use Rattle.commit_core.specs.Coming.{state_of}
use Rattle.volume_core.proofs.Accounted.{all_in_use}
use Rattle.volume_core.proofs.laws.blocks_in_use_have_a_use.Goals as goal

pub returns : goal.returns
returns c = λ volume mounted scene h. all_in_use volume.kept mounted.image (state_of mounted scene).current scene h.kept
