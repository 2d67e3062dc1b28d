use Rattle.flat_model.specs.declared.op.Op.TheVariants.{Rename, Rmdir, Truncate, Unlink}
use Rattle.volume_ops.proofs.Asking.{ask}
use Rattle.volume_ops.proofs.within.change_within.Goals as goal

pub unlink-requires : goal.unlink-requires
unlink-requires c = record { given = ask c.args.table.now c.args.sub.now c.args.op.now (Unlink c.in-Unlink.place) c.in-Unlink.is c.requires.given }

pub rmdir-requires : goal.rmdir-requires
rmdir-requires c = record { given = ask c.args.table.now c.args.sub.now c.args.op.now (Rmdir c.in-Rmdir.place) c.in-Rmdir.is c.requires.given }

pub rename-requires : goal.rename-requires
rename-requires c = record { given = ask c.args.table.now c.args.sub.now c.args.op.now (Rename c.in-Rename.old c.in-Rename.new) c.in-Rename.is c.requires.given }

pub truncate-requires : goal.truncate-requires
truncate-requires c = record { given = ask c.args.table.now c.args.sub.now c.args.op.now (Truncate c.in-Truncate.place c.in-Truncate.size) c.in-Truncate.is c.requires.given }
