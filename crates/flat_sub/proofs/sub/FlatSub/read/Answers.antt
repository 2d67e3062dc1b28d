use Rattle.flat_model.specs.Volume.{RunSub}
use Rattle.flat_model.specs.Walk.{WalkEnd, walk}
use Rattle.flat_sub.specs.View.{sub_view}
use Rattle.flat_sub.proofs.Contents.{read_refused, read_finishes}
use Rattle.flat_sub.proofs.sub.FlatSub.read.Goals as goal

pub returns-in-Some : goal.returns-in-Some
returns-in-Some c =
    let run : RunSub = sub_view c.args.self.now in
    let end : WalkEnd = walk run.sub c.args.path.now in
    read_refused run c.args.path.now c.args.offset c.args.count c.in-Some.answer (c.in-Some.ensures run.sub.names end c.walk-end.ensures)

pub returns : goal.returns
returns c =
    let run : RunSub = sub_view c.args.self.now in
    let end : WalkEnd = walk run.sub c.args.path.now in
    read_finishes run c.args.path.now c.args.offset c.args.count (c.in_default.ensures run.sub.names end c.walk-end.ensures) c.ino.result c.in_ok-text.text (c.ino.ensures run.sub.names end c.walk-end.ensures) c.in_ok-text.ensures
