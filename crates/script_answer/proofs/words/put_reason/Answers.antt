use Rattle.std.proofs.Common.{OnOk, OnErr, sym, subst}
use Rattle.io_edge.specs.Edge.{Takes, TakesFront}
use Rattle.flat_model.specs.declared.answer.Reason.{Reason}
use Rattle.script_answer.specs.Words.{reason_words}
use Rattle.script_answer.proofs.words.put_reason.Goals as goal

pub returns-in-GoneDir-clause-front : goal.returns-in-GoneDir-clause-front
returns-in-GoneDir-clause-front g c =
    let call = c.put_number-in-GoneDir in
    subst (λ (reason : Reason). OnErr call.result (TakesFront (g.K.Sink.taken c.args.to.now) (reason_words reason) (g.K.Sink.taken call.new.to))) (sym c.in-GoneDir.is) call.ensures.front

pub returns-in-Space-clause-whole : goal.returns-in-Space-clause-whole
returns-in-Space-clause-whole g c =
    let call = c.put_space in
    subst (λ (reason : Reason). OnOk call.result (Takes (g.K.Sink.taken c.args.to.now) (reason_words reason) (g.K.Sink.taken call.new.to))) (sym c.in-Space.is) call.ensures.whole

pub returns-in-Space-clause-front : goal.returns-in-Space-clause-front
returns-in-Space-clause-front g c =
    let call = c.put_space in
    subst (λ (reason : Reason). OnErr call.result (TakesFront (g.K.Sink.taken c.args.to.now) (reason_words reason) (g.K.Sink.taken call.new.to))) (sym c.in-Space.is) call.ensures.front

pub returns-in-FailedLog-clause-whole : goal.returns-in-FailedLog-clause-whole
returns-in-FailedLog-clause-whole g c =
    let call = c.put_number-in-FailedLog in
    subst (λ (reason : Reason). OnOk call.result (Takes (g.K.Sink.taken c.args.to.now) (reason_words reason) (g.K.Sink.taken call.new.to))) (sym c.in-FailedLog.is) call.ensures.whole

pub returns-in-FailedLog-clause-front : goal.returns-in-FailedLog-clause-front
returns-in-FailedLog-clause-front g c =
    let call = c.put_number-in-FailedLog in
    subst (λ (reason : Reason). OnErr call.result (TakesFront (g.K.Sink.taken c.args.to.now) (reason_words reason) (g.K.Sink.taken call.new.to))) (sym c.in-FailedLog.is) call.ensures.front
