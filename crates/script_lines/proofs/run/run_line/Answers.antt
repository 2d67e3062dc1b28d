use Rattle.std.proofs.Common.{Result, refl, subst, sym}
use Rattle.script_lines.specs.declared.fault.RunFault.{RunFault}
use Rattle.script_lines.specs.declared.fault.RunFault.TheVariants as faults
use Rattle.script_lines.specs.Lines.{HasRunLine, LineCut, LineDone, LineLeft}
use Rattle.script_lines.proofs.Running.{err_is, none_at_err}
use Rattle.script_lines.proofs.run.run_line.Goals as goal

pub returns-in_err-answer-clause-ran : goal.returns-in_err-answer-clause-ran
returns-in_err-answer-clause-ran g c = λ mounted at between disk.
    let it = c.in_err-answer.ensures.left mounted at between disk in
    let is = err_is c.from_residual.result faults.OutOfMemory c.from_residual.ensures.1 in
    let taken = g.K.Sink.taken c.args.to.now in (
      it.0,
      subst (λ (r : Result (Unit {0}) RunFault). HasRunLine mounted c.args.line at it.0 taken taken r) (sym is) (LineLeft c.plain_of-caller.result.0 c.plain_of-caller.result.1 c.plain_of-caller.ensures it.1 refl),
      it.2,
      it.3,
      none_at_err c.from_residual.result faults.OutOfMemory _ is,
    )

pub returns-in_err-put_answer-clause-ran : goal.returns-in_err-put_answer-clause-ran
returns-in_err-put_answer-clause-ran g c = λ mounted at between disk.
    let it = c.in_ok-answer.ensures.called mounted at between disk in
    let is = err_is c.from_residual-in_err-put_answer.result faults.Sink c.from_residual-in_err-put_answer.ensures.1 in
    let taken = g.K.Sink.taken c.args.to.now in
    let now = g.K.Sink.taken c.put_answer.new.to in (
      it.0,
      subst (λ (r : Result (Unit {0}) RunFault). HasRunLine mounted c.args.line at it.0 taken now r) (sym is) (LineCut c.plain_of-caller.result.0 c.plain_of-caller.result.1 c.in_ok-answer.answer c.plain_of-caller.ensures it.1 c.in_err-put_answer.ensures.front),
      it.2.has,
      it.3,
      none_at_err c.from_residual-in_err-put_answer.result faults.Sink _ is,
    )

pub returns-clause-ran : goal.returns-clause-ran
returns-clause-ran g c = λ mounted at between disk.
    let it = c.in_ok-answer.ensures.called mounted at between disk in
    (it.0, LineDone c.plain_of-caller.result.0 c.plain_of-caller.result.1 c.in_ok-answer.answer c.plain_of-caller.ensures it.1 c.in_ok-put_answer.ensures.whole, it.2.has, it.3, it.2)
