use Rattle.std.proofs.Common.{List, Ok, ◌≡◌, ◌∙◌, ap, refl, subst, sym}
use Rattle.io_edge.specs.Edge.{Takes, TakesFront}
use Rattle.blk_base.specs.Causes.{HasRisen}
use Rattle.script_text.specs.Script.{script_of}
use Rattle.flat_model.specs.declared.request.Line.{Line}
use Rattle.script_runner.specs.declared.status.Status.{Status}
use Rattle.script_runner.specs.Commands.{answer_line}
use Rattle.script_runner.specs.Run.{outside}
use Rattle.script_runner.proofs.FewLines.{few_lines}
use Rattle.script_runner.proofs.RunLemmas.{told_parsed, told_unparsed}
use Rattle.disk_model.specs.Disk.{known}
use Rattle.script_runner.proofs.run.run_bytes.Goals as goal

pub run_script-requires-clause-allowed : goal.run_script-requires-clause-allowed
run_script-requires-clause-allowed g c =
    c.a_script_is_allowed.ensures c.args.bytes.now c.into_lines.result.items (c.in-Ok.ensures ∙ ap (λ (ls : List Line). Ok ls) (sym c.into_lines.ensures))

pub run_script-requires-clause-few : goal.run_script-requires-clause-few
run_script-requires-clause-few g c =
    few_lines c.args.bytes.now c.into_lines.result.items (c.in-Ok.ensures ∙ ap (λ (ls : List Line). Ok ls) (sym c.into_lines.ensures))

pub returns-in-Ok-clause-answer : goal.returns-in-Ok-clause-answer
returns-in-Ok-clause-answer g c = λ given left read.
    let disk = c.args.disk.now in
    let next = c.run_script.new in
    let before = outside (known (g.D.Disk.seen disk) (g.D.Disk.lost disk)) (g.D.Disk.told disk) (g.K.Sink.taken c.args.to.now) (g.D.Disk.faults disk) (g.K.Sink.faults c.args.to.now) c.args.run.now.events in
    let after = outside (known (g.D.Disk.seen next.disk) (g.D.Disk.lost next.disk)) (g.D.Disk.told next.disk) (g.K.Sink.taken next.to) (g.D.Disk.faults next.disk) (g.K.Sink.faults next.to) next.run.events in
    let script : script_of c.args.bytes.now ≡ Ok c.into_lines.result.items = c.in-Ok.ensures ∙ ap (λ (ls : List Line). Ok ls) (sym c.into_lines.ensures) in
    told_parsed given left before after c.run_script.result c.args.bytes.now c.into_lines.result.items read script c.run_script.ensures.answer

pub returns-in-Err-clause-answer : goal.returns-in-Err-clause-answer
returns-in-Err-clause-answer g c = λ given left read.
    let disk = c.args.disk.now in
    let before = outside (known (g.D.Disk.seen disk) (g.D.Disk.lost disk)) (g.D.Disk.told disk) (g.K.Sink.taken c.args.to.now) (g.D.Disk.faults disk) (g.K.Sink.faults c.args.to.now) c.args.run.now.events in
    let after = outside (known (g.D.Disk.seen disk) (g.D.Disk.lost disk)) (g.D.Disk.told disk) (g.K.Sink.taken c.answer.new.to) (g.D.Disk.faults disk) (g.K.Sink.faults c.answer.new.to) c.args.run.now.events in
    let status = c.status_of_script.ensures in
    told_unparsed given left before after c.answer.result c.args.bytes.now c.in-Err.fault (c.answer.ensures.same ∙ status) read c.in-Err.ensures (record { seen = refl; told = refl; history = refl })
    (subst (λ (s : Status). TakesFront (g.K.Sink.taken c.args.to.now) (answer_line s) (g.K.Sink.taken c.answer.new.to)) status c.answer.ensures.front)
    (subst (λ (s : Status). (HasRisen (g.K.Sink.faults c.args.to.now) (g.K.Sink.faults c.answer.new.to) → ⊥) → Takes (g.K.Sink.taken c.args.to.now) (answer_line s) (g.K.Sink.taken c.answer.new.to)) status c.answer.ensures.whole)
