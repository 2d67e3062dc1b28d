use Rattle.commit_device.proofs.Finishing.{by_result}
use Rattle.commit_device.proofs.finish.finishing_is_admissible.Goals as goal

pub returns : goal.returns
returns c = by_result
