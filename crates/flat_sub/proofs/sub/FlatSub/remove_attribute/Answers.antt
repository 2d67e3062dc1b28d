use Rattle.std.proofs.Common.{sym, ◌∙◌}
use Rattle.flat_model.specs.Volume.{RunSub}
use Rattle.flat_model.specs.Walk.{WalkEnd, walk}
use Rattle.flat_sub.specs.View.{sub_view}
use Rattle.flat_sub.proofs.Contents.{remove_absent, remove_blocked, remove_missing, remove_finishes}
use Rattle.flat_sub.proofs.sub.FlatSub.remove_attribute.Goals as goal

pub returns-then-is_absent-clause-done : goal.returns-then-is_absent-clause-done
returns-then-is_absent-clause-done c =
    let run : RunSub = sub_view c.args.self.now in
    let end : WalkEnd = walk run.sub c.args.path.now in
    let met = sym (c.is_absent.ensures run.sub.names end c.walk-end.ensures) ∙ c.if-is_absent.true in
    remove_absent run c.args.path.now c.args.name.now met

pub returns-then-is_blocked-clause-done : goal.returns-then-is_blocked-clause-done
returns-then-is_blocked-clause-done c =
    let run : RunSub = sub_view c.args.self.now in
    let end : WalkEnd = walk run.sub c.args.path.now in
    let met = sym (c.is_absent.ensures run.sub.names end c.walk-end.ensures) ∙ c.if-is_absent.false in
    let unblocked = sym (c.is_blocked.ensures run.sub.names end c.walk-end.ensures) ∙ c.if-is_blocked.true in
    remove_blocked run c.args.path.now c.args.name.now met unblocked

pub returns-then-not-has_attribute-clause-done : goal.returns-then-not-has_attribute-clause-done
returns-then-not-has_attribute-clause-done c =
    let run : RunSub = sub_view c.args.self.now in
    let end : WalkEnd = walk run.sub c.args.path.now in
    let met = sym (c.is_absent.ensures run.sub.names end c.walk-end.ensures) ∙ c.if-is_absent.false in
    let unblocked = sym (c.is_blocked.ensures run.sub.names end c.walk-end.ensures) ∙ c.if-is_blocked.false in
    remove_missing run c.args.path.now c.args.name.now met unblocked c.ino-ino.result (c.ino-ino.ensures run.sub.names end c.walk-end.ensures) (sym c.has_attribute.ensures ∙ c.if-not-has_attribute.true)

pub returns-clause-done : goal.returns-clause-done
returns-clause-done c =
    let run : RunSub = sub_view c.args.self.now in
    let end : WalkEnd = walk run.sub c.args.path.now in
    let met = sym (c.is_absent.ensures run.sub.names end c.walk-end.ensures) ∙ c.if-is_absent.false in
    let unblocked = sym (c.is_blocked.ensures run.sub.names end c.walk-end.ensures) ∙ c.if-is_blocked.false in
    remove_finishes run c.args.path.now c.args.name.now met unblocked c.ino-ino.result (c.ino-ino.ensures run.sub.names end c.walk-end.ensures) (sym c.has_attribute.ensures ∙ c.if-not-has_attribute.false) (sub_view c.remove_attribute_at.new.self) c.remove_attribute_at.ensures.view
