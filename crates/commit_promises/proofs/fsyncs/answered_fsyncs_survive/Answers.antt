use Rattle.std.proofs.Common.{false, refl}
use Rattle.commit_promises.proofs.Surviving.{fsync_record, fsync_names, fsync_entries}
use Rattle.commit_promises.proofs.fsyncs.answered_fsyncs_survive.Goals as goal

pub returns-clause-records : goal.returns-clause-records
returns-clause-records c volume front back caller sub ino end datasync answer coherent answered durable = fsync_record volume coherent front back caller sub ino end datasync answer answered durable

pub returns-clause-names : goal.returns-clause-names
returns-clause-names c volume front back caller sub ino end answer coherent answered durable = fsync_names volume coherent front back caller sub ino end false answer answered durable refl

pub returns-clause-entries : goal.returns-clause-entries
returns-clause-entries c volume front back caller sub dir end answer coherent answered durable = fsync_entries volume coherent front back caller sub dir end false answer answered durable refl
