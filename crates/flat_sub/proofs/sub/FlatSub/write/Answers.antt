use Rattle.std.proofs.Common.{◌∙◌}
use Rattle.flat_model.specs.Volume.{RunSub}
use Rattle.flat_model.specs.Walk.{WalkEnd, walk}
use Rattle.flat_sub.specs.View.{sub_view}
use Rattle.flat_sub.proofs.Contents.{write_refused, write_too_large, write_finishes, other_there, past_limit}
use Rattle.flat_sub.proofs.sub.FlatSub.write.Goals as goal

pub returns-in-Some-clause-done : goal.returns-in-Some-clause-done
returns-in-Some-clause-done c =
    let run : RunSub = sub_view c.args.self.now in
    let end : WalkEnd = walk run.sub c.args.path.now in
    write_refused run c.args.path.now c.args.offset c.args.text.now c.in-Some.answer (c.in-Some.ensures run.sub.names end c.walk-end.ensures)

pub returns-then-ends_past_limit-clause-done : goal.returns-then-ends_past_limit-clause-done
returns-then-ends_past_limit-clause-done c =
    let run : RunSub = sub_view c.args.self.now in
    let end : WalkEnd = walk run.sub c.args.path.now in
    write_too_large run c.args.path.now c.args.offset c.args.text.now (c.in_default.ensures run.sub.names end c.walk-end.ensures) (past_limit c.args.offset c.len-count.result c.args.text.now c.ends_past_limit.result c.len-count.ensures.value c.ends_past_limit.ensures ∙ c.if-ends_past_limit.true)

pub write_at-requires-clause-no_dir : goal.write_at-requires-clause-no_dir
write_at-requires-clause-no_dir c =
    let run : RunSub = sub_view c.args.self.now in
    let end : WalkEnd = walk run.sub c.args.path.now in
    (other_there run c.args.path.now (c.in_default.ensures run.sub.names end c.walk-end.ensures) c.ino.result (c.ino.ensures run.sub.names end c.walk-end.ensures)).0

pub write_at-requires-clause-no_link : goal.write_at-requires-clause-no_link
write_at-requires-clause-no_link c =
    let run : RunSub = sub_view c.args.self.now in
    let end : WalkEnd = walk run.sub c.args.path.now in
    (other_there run c.args.path.now (c.in_default.ensures run.sub.names end c.walk-end.ensures) c.ino.result (c.ino.ensures run.sub.names end c.walk-end.ensures)).1

pub returns-clause-done : goal.returns-clause-done
returns-clause-done c =
    let run : RunSub = sub_view c.args.self.now in
    let end : WalkEnd = walk run.sub c.args.path.now in
    write_finishes run c.args.path.now c.args.offset c.args.text.now (c.in_default.ensures run.sub.names end c.walk-end.ensures) (past_limit c.args.offset c.len-count.result c.args.text.now c.ends_past_limit.result c.len-count.ensures.value c.ends_past_limit.ensures ∙ c.if-ends_past_limit.false)
    c.ino.result c.len-count.result (sub_view c.write_at.new.self) (c.ino.ensures run.sub.names end c.walk-end.ensures) c.len-count.ensures.value c.in_ok-write_at.ensures.ok
