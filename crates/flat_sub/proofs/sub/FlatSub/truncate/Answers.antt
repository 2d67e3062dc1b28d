use Rattle.std.proofs.lemmas.Bool.{lt-ltb, le-ltb}
use Rattle.flat_model.specs.Volume.{RunSub}
use Rattle.flat_model.specs.Walk.{WalkEnd, walk}
use Rattle.flat_sub.specs.View.{sub_view}
use Rattle.flat_sub.proofs.Contents.{truncate_refused, truncate_too_large, truncate_finishes, other_there}
use Rattle.flat_sub.proofs.sub.FlatSub.truncate.Goals as goal

pub returns-in-Some-clause-done : goal.returns-in-Some-clause-done
returns-in-Some-clause-done c =
    let run : RunSub = sub_view c.args.self.now in
    let end : WalkEnd = walk run.sub c.args.path.now in
    truncate_refused run c.args.path.now c.args.size c.in-Some.answer (c.in-Some.ensures run.sub.names end c.walk-end.ensures)

pub returns-then-size-gt-MOST_FILE_BYTES-clause-done : goal.returns-then-size-gt-MOST_FILE_BYTES-clause-done
returns-then-size-gt-MOST_FILE_BYTES-clause-done c =
    let run : RunSub = sub_view c.args.self.now in
    let end : WalkEnd = walk run.sub c.args.path.now in
    truncate_too_large run c.args.path.now c.args.size (c.in_default.ensures run.sub.names end c.walk-end.ensures) (lt-ltb _ c.args.size c.if-size-gt-MOST_FILE_BYTES.true)

pub truncate_at-requires-clause-no_dir : goal.truncate_at-requires-clause-no_dir
truncate_at-requires-clause-no_dir c =
    let run : RunSub = sub_view c.args.self.now in
    let end : WalkEnd = walk run.sub c.args.path.now in
    (other_there run c.args.path.now (c.in_default.ensures run.sub.names end c.walk-end.ensures) c.ino.result (c.ino.ensures run.sub.names end c.walk-end.ensures)).0

pub truncate_at-requires-clause-no_link : goal.truncate_at-requires-clause-no_link
truncate_at-requires-clause-no_link c =
    let run : RunSub = sub_view c.args.self.now in
    let end : WalkEnd = walk run.sub c.args.path.now in
    (other_there run c.args.path.now (c.in_default.ensures run.sub.names end c.walk-end.ensures) c.ino.result (c.ino.ensures run.sub.names end c.walk-end.ensures)).1

pub returns-clause-done : goal.returns-clause-done
returns-clause-done c =
    let run : RunSub = sub_view c.args.self.now in
    let end : WalkEnd = walk run.sub c.args.path.now in
    truncate_finishes run c.args.path.now c.args.size (c.in_default.ensures run.sub.names end c.walk-end.ensures) (le-ltb _ c.args.size c.if-size-gt-MOST_FILE_BYTES.false)
    c.ino.result (sub_view c.truncate_at.new.self) (c.ino.ensures run.sub.names end c.walk-end.ensures) c.truncate_at.ensures.view
