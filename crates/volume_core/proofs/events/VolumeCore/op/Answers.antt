use Rattle.std.proofs.Common.{refl, ◌∙◌}
use Rattle.commit_core.specs.Coming.{state_of}
use Rattle.commit_blocks.specs.Operating.{HasRoomFor}
use Rattle.volume_core.proofs.Came.{on_err, same_sealed, with_kept}
use Rattle.volume_core.proofs.JustSealed.{more_just, same_just}
use Rattle.volume_core.proofs.Operated.{answered_done, given_listed, room_for, short_done}
use Rattle.volume_core.proofs.events.VolumeCore.op.Goals as goal

pub need-need-requires-clause-given : goal.need-need-requires-clause-given
need-need-requires-clause-given c =
    let kept = c.args.self.now.kept in
    let run = (state_of c.requires.has.0 c.requires.has.1).current in
    (run, given_listed kept.table c.deref.result.now kept.states.items run c.deref.ensures.value c.requires.has.2.kept.current.given)

pub returns-then-free-need-clause-came : goal.returns-then-free-need-clause-came
returns-then-free-need-clause-came c = λ mounted scene h.
    let kept = c.args.self.now.kept in
    let run = (state_of mounted scene).current in
    let is = c.need-need.ensures run (given_listed kept.table c.deref.result.now kept.states.items run c.deref.ensures.value h.kept.current.given) in
    short_done c.args.self.now _ mounted scene h c.args.caller c.args.op.now c.args.again c.read_op.ensures c.requires.limits refl refl refl refl c.free-free.result c.need-need.result refl is c.if-free-need.true
    (c.operated.ensures mounted.volume scene.events c.args.op.now _ _ refl h.callers)

pub returns-in_err-reserve-clause-memory : goal.returns-in_err-reserve-clause-memory
returns-in_err-reserve-clause-memory c = λ mounted scene h.
    let old = c.args.self.now in
    on_err c.from_residual.result (with_kept old c.reserve.new.self mounted scene (same_sealed old.kept c.reserve.new.self c.reserve.ensures.more) (more_just old.kept c.reserve.new.self c.reserve.ensures.more)
    (c.reserve.ensures.keeps mounted.image (state_of mounted scene).current scene h.kept) h)

pub operate-requires-clause-given : goal.operate-requires-clause-given
operate-requires-clause-given c =
    let old = c.args.self.now in
    let has = c.requires.has in
    let run = (state_of has.0 has.1).current in
    let is = c.need-need.ensures run (given_listed old.kept.table c.deref.result.now old.kept.states.items run c.deref.ensures.value has.2.kept.current.given) in (
      has.0.image,
      run,
      has.1,
      c.reserve.ensures.keeps has.0.image run has.1 has.2.kept,
      room_for old.kept c.reserve.new.self run c.args.op.now c.need-need.result c.free-free.result c.saturating_sub.result c.reserve.ensures.more is c.if-free-need.false c.free-free.ensures c.saturating_sub.ensures c.in_ok-reserve.ensures.ok,
    )

pub returns-in_err-answer-clause-memory : goal.returns-in_err-answer-clause-memory
returns-in_err-answer-clause-memory c = λ mounted scene h.
    let old = c.args.self.now in
    let keeps = c.reserve.ensures.keeps mounted.image (state_of mounted scene).current scene h.kept in
    on_err c.from_residual-in_err-answer.result (with_kept old c.operate.new.self mounted scene (c.operate.ensures.sealed ∙ same_sealed old.kept c.reserve.new.self c.reserve.ensures.more)
    (λ just. same_just c.reserve.new.self c.operate.new.self c.in_err-answer.ensures.unchanged.0 c.in_err-answer.ensures.unchanged.1 c.operate.ensures.noted c.operate.ensures.sealed
    (more_just old.kept c.reserve.new.self c.reserve.ensures.more just))
    (c.in_err-answer.ensures.memory mounted.image (state_of mounted scene).current scene keeps) h)

pub returns-clause-came : goal.returns-clause-came
returns-clause-came c = λ mounted scene h.
    let old = c.args.self.now in
    let reserved = c.reserve.new.self in
    let run = (state_of mounted scene).current in
    let is = c.need-need.ensures run (given_listed old.kept.table c.deref.result.now old.kept.states.items run c.deref.ensures.value h.kept.current.given) in
    let keeps = c.reserve.ensures.keeps mounted.image run scene h.kept in
    let room : HasRoomFor reserved.table run c.args.op.now = room_for old.kept reserved run c.args.op.now c.need-need.result c.free-free.result c.saturating_sub.result c.reserve.ensures.more is c.if-free-need.false c.free-free.ensures c.saturating_sub.ensures c.in_ok-reserve.ensures.ok in
    answered_done old _ mounted scene h c.args.caller c.args.op.now c.args.again c.read_op.ensures c.requires.limits (c.operate.ensures.sealed ∙ same_sealed old.kept reserved c.reserve.ensures.more) refl refl refl
    reserved c.in_ok-answer.answer c.made_indexes-self.result c.next_index-before.result c.next_index.result (c.in_ok-answer.ensures.done mounted.image run scene keeps room)
    (c.next_index-before.ensures reserved.table run (given_listed reserved.table c.deref-2.result.now reserved.states.items run c.deref-2.ensures.value keeps.current.given))
    (λ next given. c.next_index.ensures c.operate.new.self.table next (given_listed c.operate.new.self.table c.deref-3.result.now c.operate.new.self.states.items next c.deref-3.ensures.value given))
    c.made_indexes-self.ensures (λ indexes. c.operated-2.ensures mounted.volume scene.events c.args.op.now _ indexes refl h.callers)

pub returns-clause-out : goal.returns-clause-out
returns-clause-out c = λ batch out.
    let same = c.operate.ensures.sealed ∙ same_sealed c.args.self.now.kept c.reserve.new.self c.reserve.ensures.more in
    record {
      running = (out.running.0, same ∙ out.running.1);
      list = c.operate.ensures.list batch.blocks (c.reserve.ensures.list batch.blocks out.list);
      parts = out.parts;
    }
