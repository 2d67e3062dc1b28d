-- In a coherent subvolume each name leads to an inode.
use Rattle.std.proofs.Common.{sym}
use Rattle.name_walk.specs.Ends.{name_held}
use Rattle.file_ops.proofs.Placed.{at_name, at_root}
use Rattle.file_ops.proofs.place.find.Goals as goal

pub returns-in-Root : goal.returns-in-Root
returns-in-Root c = λ run gives.
    let end = c.in-Root.ensures.end run.sub (record { gives = gives.gives; coherent = gives.sound.coherent }) in
    at_root run.sub gives.sound.coherent c.args.path.now (sym end)

pub returns-in-Taken : goal.returns-in-Taken
returns-in-Taken c = λ run gives.
    let end = c.in-Taken.ensures.end run.sub (record { gives = gives.gives; coherent = gives.sound.coherent }) in
    at_name run.sub gives.sound.coherent c.args.path.now c.in-Taken.dir c.in-Taken.name.now (name_held c.in-Taken.dir c.in-Taken.name.now c.in-Taken.held) (sym end)
