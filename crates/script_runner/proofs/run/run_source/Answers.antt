use Rattle.std.proofs.Common.{Err, ◌∙◌, ap, refl, subst}
use Rattle.io_edge.specs.Edge.{Takes, TakesFront}
use Rattle.blk_base.specs.Causes.{HasRisen}
use Rattle.io_edge.specs.declared.reading.ReadFault.{ReadFault}
use Rattle.script_runner.specs.declared.status.Status.{Status}
use Rattle.script_runner.specs.Commands.{answer_line}
use Rattle.script_runner.specs.Run.{outside}
use Rattle.script_runner.proofs.RunLemmas.{told_unread}
use Rattle.disk_model.specs.Disk.{known}
use Rattle.script_runner.proofs.run.run_source.Goals as goal

pub returns-in-Err-clause-answer : goal.returns-in-Err-clause-answer
returns-in-Err-clause-answer g c =
    let disk = c.args.disk.now in
    let before = outside (known (g.D.Disk.seen disk) (g.D.Disk.lost disk)) (g.D.Disk.told disk) (g.K.Sink.taken c.args.to.now) (g.D.Disk.faults disk) (g.K.Sink.faults c.args.to.now) c.args.run.now.events in
    let after = outside (known (g.D.Disk.seen disk) (g.D.Disk.lost disk)) (g.D.Disk.told disk) (g.K.Sink.taken c.answer.new.to) (g.D.Disk.faults disk) (g.K.Sink.faults c.answer.new.to) c.args.run.now.events in
    let status = c.status_of_source.ensures in
    told_unread _ _ before after c.answer.result c.in-Err.fault (c.answer.ensures.same ∙ status)
    (λ is. c.in-Err.ensures.memory (ap (λ (e : ReadFault). Err e) is)) (λ taken is. c.in-Err.ensures.failed taken (ap (λ (e : ReadFault). Err e) is)) (record { seen = refl; told = refl; history = refl })
    (subst (λ (s : Status). TakesFront (g.K.Sink.taken c.args.to.now) (answer_line s) (g.K.Sink.taken c.answer.new.to)) status c.answer.ensures.front)
    (subst (λ (s : Status). (HasRisen (g.K.Sink.faults c.args.to.now) (g.K.Sink.faults c.answer.new.to) → ⊥) → Takes (g.K.Sink.taken c.args.to.now) (answer_line s) (g.K.Sink.taken c.answer.new.to)) status c.answer.ensures.whole)
