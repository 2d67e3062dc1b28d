use Rattle.std.proofs.Common.{ℕ, List}
use Rattle.disk_model.specs.Disk.{known}
use Rattle.script_runner.specs.Commands.{IsPut}
use Rattle.script_runner.proofs.AnswerLemmas.{list_text, refused}
use Rattle.script_runner.proofs.list.list.Goals as goal

pub print-requires : goal.print-requires
print-requires g c = let ready = c.in-Ok.ensures.ready in record { given = (ready.run, ready.given) }

pub returns-in-Ok-clause-text : goal.returns-in-Ok-clause-text
returns-in-Ok-clause-text g c =
    list_text (known (g.D.Disk.seen c.args.disk.now) (g.D.Disk.lost c.args.disk.now)) c.in-Ok.mounted (g.D.Disk.count c.args.disk.now) c.print.result
    (λ (text : List ℕ). IsPut c.print.result text (g.K.Sink.taken c.args.to.now) (g.K.Sink.taken c.print.new.to) (g.K.Sink.faults c.args.to.now) (g.K.Sink.faults c.print.new.to))
    c.in-Ok.ensures.ready c.in-Ok.ensures.stands c.print.ensures.text

pub returns-in-Err-clause-complete : goal.returns-in-Err-clause-complete
returns-in-Err-clause-complete g c =
    refused (known (g.D.Disk.seen c.args.disk.now) (g.D.Disk.lost c.args.disk.now)) c.in-Err.fault c.answer.result _ _ c.in-Err.ensures.fault (λ is. c.in-Err.ensures.disk_fault (cc)) (cc)
