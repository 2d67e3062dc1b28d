use Rattle.std.proofs.Common.{Option, Err, ◌∙◌, ap, refl, subst}
use Rattle.io_edge.specs.Edge.{Takes, TakesFront}
use Rattle.blk_base.specs.Causes.{HasRisen}
use Rattle.tree_mount.specs.declared.fault.MountFault.{MountFault}
use Rattle.script_runner.specs.declared.status.Status.{Status}
use Rattle.script_runner.specs.Commands.{answer_line}
use Rattle.disk_model.specs.Disk.{known, Told}
use Rattle.volume_image.specs.Tree.{Image}
use Rattle.script_runner.specs.Run.{HasLinesAnswer, outside}
use Rattle.script_runner.proofs.RunLemmas.{told_unmounted}
use Rattle.disk_model.proofs.CrashLaws.{known_same}
use Rattle.script_runner.proofs.run.run_script.Goals as goal

pub returns-in-Ok-clause-answer : goal.returns-in-Ok-clause-answer
returns-in-Ok-clause-answer g c =
    let disk = c.args.disk.now in
    let mid = c.mount.new.disk in
    let next = c.run_mounted.new in
    let after = outside (known (g.D.Disk.seen next.disk) (g.D.Disk.lost next.disk)) (g.D.Disk.told next.disk) (g.K.Sink.taken next.to) (g.D.Disk.faults next.disk) (g.K.Sink.faults next.to) next.run.events in
    subst (λ (seen : Option Image). HasLinesAnswer c.args.lines.items (outside seen (g.D.Disk.told disk) (g.K.Sink.taken c.args.to.now) (g.D.Disk.faults disk) (g.K.Sink.faults c.args.to.now) c.args.run.now.events) after c.run_mounted.result) (known_same _ _ _ _ c.in-Ok.ensures.seen c.in-Ok.ensures.lost)
    (subst (λ (told : Option Told). HasLinesAnswer c.args.lines.items (outside (known (g.D.Disk.seen mid) (g.D.Disk.lost mid)) told (g.K.Sink.taken c.args.to.now) (g.D.Disk.faults disk) (g.K.Sink.faults c.args.to.now) c.args.run.now.events) after c.run_mounted.result) c.in-Ok.ensures.told
    (c.run_mounted.ensures.answer (g.D.Disk.faults disk) c.in-Ok.ensures.counted))

pub returns-in-Err-clause-answer : goal.returns-in-Err-clause-answer
returns-in-Err-clause-answer g c =
    let disk = c.args.disk.now in
    let next = c.mount.new.disk in
    let before = outside (known (g.D.Disk.seen disk) (g.D.Disk.lost disk)) (g.D.Disk.told disk) (g.K.Sink.taken c.args.to.now) (g.D.Disk.faults disk) (g.K.Sink.faults c.args.to.now) c.args.run.now.events in
    let after = outside (known (g.D.Disk.seen next) (g.D.Disk.lost next)) (g.D.Disk.told next) (g.K.Sink.taken c.answer.new.to) (g.D.Disk.faults next) (g.K.Sink.faults c.answer.new.to) c.args.run.now.events in
    let status = c.status_of.ensures in
    told_unmounted c.args.lines.items before after c.in-Err.fault c.answer.result (c.answer.ensures.same ∙ status) c.in-Err.ensures.fault (λ is. c.in-Err.ensures.disk_fault (ap (λ (e : MountFault). Err e) is))
    (record { seen = known_same _ _ _ _ c.in-Err.ensures.seen c.in-Err.ensures.lost; told = c.in-Err.ensures.told; history = refl })
    (subst (λ (s : Status). TakesFront (g.K.Sink.taken c.args.to.now) (answer_line s) (g.K.Sink.taken c.answer.new.to)) status c.answer.ensures.front)
    (subst (λ (s : Status). (HasRisen (g.K.Sink.faults c.args.to.now) (g.K.Sink.faults c.answer.new.to) → ⊥) → Takes (g.K.Sink.taken c.args.to.now) (answer_line s) (g.K.Sink.taken c.answer.new.to)) status c.answer.ensures.whole)
