-- What is proved of these definitions, each sentence by its name.
use Rattle.std.specs.Prelude.{ℕ, Bool, IsTrue}
use Rattle.flat_model.specs.Volume.{Subvolume}
use Rattle.logged_volume.specs.Agreement.{is_there}
use Rattle.logged_volume.specs.FlatLog.{FlatLog}
use Rattle.logged_volume.specs.Written.{IsWritten}
use Rattle.log_rows.specs.Written.{written_log}

-- where F has the target, this log is one that the step writes
abbrev pub StepHasLog : Type 0
StepHasLog =
    (committed current logged : Subvolume) (target : ℕ) (datasync : Bool) (log : FlatLog)
    → IsTrue (is_there current target)
    → IsWritten committed current logged target datasync log (written_log committed current logged target datasync log)
