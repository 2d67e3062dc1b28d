use Rattle.std.proofs.Common.{sym, ◌∙◌}
use Rattle.flat_model.specs.Volume.{RunSub}
use Rattle.flat_model.specs.Walk.{WalkEnd, walk}
use Rattle.flat_sub.specs.View.{sub_view}
use Rattle.flat_sub.proofs.Contents.{get_absent, get_blocked, get_missing, get_finishes}
use Rattle.flat_sub.proofs.sub.FlatSub.get_attribute.Goals as goal

pub returns-then-is_absent : goal.returns-then-is_absent
returns-then-is_absent c =
    let run : RunSub = sub_view c.args.self.now in
    let end : WalkEnd = walk run.sub c.args.path.now in
    let met = sym (c.is_absent.ensures run.sub.names end c.walk-end.ensures) ∙ c.if-is_absent.true in
    get_absent run c.args.path.now c.args.name.now met

pub returns-then-is_blocked : goal.returns-then-is_blocked
returns-then-is_blocked c =
    let run : RunSub = sub_view c.args.self.now in
    let end : WalkEnd = walk run.sub c.args.path.now in
    let met = sym (c.is_absent.ensures run.sub.names end c.walk-end.ensures) ∙ c.if-is_absent.false in
    let unblocked = sym (c.is_blocked.ensures run.sub.names end c.walk-end.ensures) ∙ c.if-is_blocked.true in
    get_blocked run c.args.path.now c.args.name.now met unblocked

pub returns-in-Some : goal.returns-in-Some
returns-in-Some c =
    let run : RunSub = sub_view c.args.self.now in
    let end : WalkEnd = walk run.sub c.args.path.now in
    let met = sym (c.is_absent.ensures run.sub.names end c.walk-end.ensures) ∙ c.if-is_absent.false in
    let unblocked = sym (c.is_blocked.ensures run.sub.names end c.walk-end.ensures) ∙ c.if-is_blocked.false in
    get_finishes run c.args.path.now c.args.name.now met unblocked c.ino.result (c.ino.ensures run.sub.names end c.walk-end.ensures) c.in-Some.value (sym c.in-Some.is ∙ c.in_ok-value.ensures)

pub returns-in-None : goal.returns-in-None
returns-in-None c =
    let run : RunSub = sub_view c.args.self.now in
    let end : WalkEnd = walk run.sub c.args.path.now in
    let met = sym (c.is_absent.ensures run.sub.names end c.walk-end.ensures) ∙ c.if-is_absent.false in
    let unblocked = sym (c.is_blocked.ensures run.sub.names end c.walk-end.ensures) ∙ c.if-is_blocked.false in
    get_missing run c.args.path.now c.args.name.now met unblocked c.ino.result (c.ino.ensures run.sub.names end c.walk-end.ensures) (sym c.in-None.is ∙ c.in_ok-value.ensures)
