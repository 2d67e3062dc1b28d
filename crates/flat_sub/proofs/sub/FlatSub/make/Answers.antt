use Rattle.std.proofs.Common.{◌+◌, ap}
use Rattle.flat_model.specs.declared.answer.Answer.TheVariants.{NoEnt, NotDir, Exists}
use Rattle.flat_model.specs.Records.{InodeRecord}
use Rattle.flat_model.specs.Names.{FlatName}
use Rattle.flat_model.specs.Volume.{RunSub}
use Rattle.flat_model.specs.Walk.{walk}
use Rattle.flat_model.specs.Operations.{make, make_rows, make_done, new_name, first_answer}
use Rattle.flat_sub.specs.View.{sub_view}
use Rattle.flat_sub.proofs.Refusals.{refused}
use Rattle.flat_sub.proofs.sub.FlatSub.make.Goals as goal

pub returns-in-Missing-clause-done : goal.returns-in-Missing-clause-done
unfolding make
returns-in-Missing-clause-done c =
    let run : RunSub = sub_view c.args.self.now in
    let inode : InodeRecord = c.args.inode in
    let place = walk run.sub c.args.path.now in
    let name : FlatName = new_name run.sub.names place (run.numbers.last_index + 1) (run.numbers.last_ino + 1) in
    refused run (make_rows run place name) (make_done run inode name) NoEnt (ap (λ w. first_answer (make_rows run w name)) c.in-Missing.ensures)

pub returns-in-Blocked-clause-done : goal.returns-in-Blocked-clause-done
unfolding make
returns-in-Blocked-clause-done c =
    let run : RunSub = sub_view c.args.self.now in
    let inode : InodeRecord = c.args.inode in
    let place = walk run.sub c.args.path.now in
    let name : FlatName = new_name run.sub.names place (run.numbers.last_index + 1) (run.numbers.last_ino + 1) in
    refused run (make_rows run place name) (make_done run inode name) NotDir (ap (λ w. first_answer (make_rows run w name)) c.in-Blocked.ensures)

pub returns-in-Root-clause-done : goal.returns-in-Root-clause-done
unfolding make
returns-in-Root-clause-done c =
    let run : RunSub = sub_view c.args.self.now in
    let inode : InodeRecord = c.args.inode in
    let place = walk run.sub c.args.path.now in
    let name : FlatName = new_name run.sub.names place (run.numbers.last_index + 1) (run.numbers.last_ino + 1) in
    refused run (make_rows run place name) (make_done run inode name) Exists (ap (λ w. first_answer (make_rows run w name)) c.in-Root.ensures)

pub returns-in-Taken-clause-done : goal.returns-in-Taken-clause-done
unfolding make
returns-in-Taken-clause-done c =
    let run : RunSub = sub_view c.args.self.now in
    let inode : InodeRecord = c.args.inode in
    let place = walk run.sub c.args.path.now in
    let name : FlatName = new_name run.sub.names place (run.numbers.last_index + 1) (run.numbers.last_ino + 1) in
    refused run (make_rows run place name) (make_done run inode name) Exists (ap (λ w. first_answer (make_rows run w name)) c.in-Taken.ensures.slot)
