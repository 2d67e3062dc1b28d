use Rattle.std.proofs.Common.{sym, ap, ◌∙◌}
use Rattle.std.specs.Bool.{nat_lt}
use Rattle.std.proofs.lemmas.Bool.{lt-ltb, le-ltb}
use Rattle.flat_model.specs.Volume.{RunSub}
use Rattle.flat_model.specs.Walk.{WalkEnd, walk}
use Rattle.flat_sub.specs.View.{sub_view}
use Rattle.flat_sub.proofs.Contents.{set_absent, set_blocked, set_too_large, set_collides, set_finishes}
use Rattle.flat_sub.proofs.sub.FlatSub.set_attribute.Goals as goal

pub returns-then-is_absent-clause-done : goal.returns-then-is_absent-clause-done
returns-then-is_absent-clause-done c =
    let run : RunSub = sub_view c.args.self.now in
    let end : WalkEnd = walk run.sub c.args.path.now in
    let met = sym (c.is_absent.ensures run.sub.names end c.walk-end.ensures) ∙ c.if-is_absent.true in
    set_absent run c.args.path.now c.args.name.now c.args.value.now met

pub returns-then-is_blocked-clause-done : goal.returns-then-is_blocked-clause-done
returns-then-is_blocked-clause-done c =
    let run : RunSub = sub_view c.args.self.now in
    let end : WalkEnd = walk run.sub c.args.path.now in
    let met = sym (c.is_absent.ensures run.sub.names end c.walk-end.ensures) ∙ c.if-is_absent.false in
    let unblocked = sym (c.is_blocked.ensures run.sub.names end c.walk-end.ensures) ∙ c.if-is_blocked.true in
    set_blocked run c.args.path.now c.args.name.now c.args.value.now met unblocked

pub returns-then-len-gt-MOST_VALUE_BYTES-clause-done : goal.returns-then-len-gt-MOST_VALUE_BYTES-clause-done
returns-then-len-gt-MOST_VALUE_BYTES-clause-done c =
    let run : RunSub = sub_view c.args.self.now in
    let end : WalkEnd = walk run.sub c.args.path.now in
    let met = sym (c.is_absent.ensures run.sub.names end c.walk-end.ensures) ∙ c.if-is_absent.false in
    let unblocked = sym (c.is_blocked.ensures run.sub.names end c.walk-end.ensures) ∙ c.if-is_blocked.false in
    set_too_large run c.args.path.now c.args.name.now c.args.value.now met unblocked (sym (ap (nat_lt 1024) c.len.ensures.value) ∙ lt-ltb 1024 c.len.result c.if-len-gt-MOST_VALUE_BYTES.true)

pub returns-then-is_attribute_crowded-clause-done : goal.returns-then-is_attribute_crowded-clause-done
returns-then-is_attribute_crowded-clause-done c =
    let run : RunSub = sub_view c.args.self.now in
    let end : WalkEnd = walk run.sub c.args.path.now in
    let met = sym (c.is_absent.ensures run.sub.names end c.walk-end.ensures) ∙ c.if-is_absent.false in
    let unblocked = sym (c.is_blocked.ensures run.sub.names end c.walk-end.ensures) ∙ c.if-is_blocked.false in
    let small = sym (ap (nat_lt 1024) c.len.ensures.value) ∙ le-ltb 1024 c.len.result c.if-len-gt-MOST_VALUE_BYTES.false in
    set_collides run c.args.path.now c.args.name.now c.args.value.now met unblocked small c.ino-ino.result (c.ino-ino.ensures run.sub.names end c.walk-end.ensures) (sym c.if-is_attribute_crowded.true ∙ c.is_attribute_crowded.ensures)

pub returns-clause-done : goal.returns-clause-done
returns-clause-done c =
    let run : RunSub = sub_view c.args.self.now in
    let end : WalkEnd = walk run.sub c.args.path.now in
    let met = sym (c.is_absent.ensures run.sub.names end c.walk-end.ensures) ∙ c.if-is_absent.false in
    let unblocked = sym (c.is_blocked.ensures run.sub.names end c.walk-end.ensures) ∙ c.if-is_blocked.false in
    let small = sym (ap (nat_lt 1024) c.len.ensures.value) ∙ le-ltb 1024 c.len.result c.if-len-gt-MOST_VALUE_BYTES.false in
    set_finishes run c.args.path.now c.args.name.now c.args.value.now met unblocked small c.ino-ino.result (c.ino-ino.ensures run.sub.names end c.walk-end.ensures) (sym c.if-is_attribute_crowded.false ∙ c.is_attribute_crowded.ensures) (sub_view c.set_attribute_at.new.self) c.in_ok-set_attribute_at.ensures.ok
