use Rattle.commit_device.proofs.Joined.{calls_keep}
use Rattle.commit_device.proofs.happenings.device_calls_keep.Goals as goal

pub returns : goal.returns
returns g c core mounted scene happenings has alone may = calls_keep (g.C.Core.has core) (g.met.C.Core.goes_on core) mounted scene happenings has alone may
