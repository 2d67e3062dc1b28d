use Rattle.std.proofs.Common.{◌≡◌, Err, ap, refl, subst, sym, ◌∙◌}
use Rattle.disk_model.specs.Disk.{known}
use Rattle.script_lines.specs.declared.fault.RunFault.{RunFault}
use Rattle.script_lines.specs.declared.fault.RunFault.TheVariants as faults
use Rattle.script_lines.specs.Lines.{HasRun}
use Rattle.script_runner.specs.Run.{HasLinesAnswer, outside}
use Rattle.script_runner.proofs.Beginning.{recorded_new, starts_at, starts_between, starts_on, starts_with, the_start, the_volume}
use Rattle.script_runner.proofs.RunLemmas.{all_run, memory_lacked, sink_failed, told_no_memory}
use Rattle.script_runner.proofs.run.run_mounted.Goals as goal

pub returns-in_default-clause-answer : goal.returns-in_default-clause-answer
returns-in_default-clause-answer g c = λ first counted.
    let disk = c.args.disk.now in
    let before = outside (known (g.D.Disk.seen disk) (g.D.Disk.lost disk)) (g.D.Disk.told disk) (g.K.Sink.taken c.args.to.now) first (g.K.Sink.faults c.args.to.now) c.args.run.now.events in
    let after = outside (known (g.D.Disk.seen disk) (g.D.Disk.lost disk)) (g.D.Disk.told disk) (g.K.Sink.taken c.answer.new.to) (g.D.Disk.faults disk) (g.K.Sink.faults c.answer.new.to) c.args.run.now.events in
    subst (HasLinesAnswer c.args.lines.items before after) (sym c.answer.ensures.same)
    (told_no_memory c.args.lines.items before after (record { seen = refl; told = refl; history = refl }) c.answer.ensures.front c.answer.ensures.whole)

pub run_lines-ended-requires-clause-between : goal.run_lines-ended-requires-clause-between
run_lines-ended-requires-clause-between g c =
    let disk = c.args.disk.now in
    let seen = known (g.D.Disk.seen disk) (g.D.Disk.lost disk) in
    let told = g.D.Disk.told disk in
    let count = g.D.Disk.count disk in
    let starts = starts_with c.args.mounted count (g.D.Disk.seen disk) (g.D.Disk.lost disk) told c.requires.ready c.requires.stands (g.met.D.Disk.reads_as_told disk) (g.met.D.Disk.lost_as_told disk) (g.met.D.Disk.reads_all disk) (g.met.D.Disk.reads_as_left disk) in
    let volume = c.in-Ok.volume in
    let new = c.in-Ok.ensures in (
      the_volume c.args.mounted count seen told starts,
      the_start c.args.mounted count seen told starts (g.D.Disk.faults disk),
      starts_between c.args.mounted count seen told starts _ _ _ _ (g.D.Disk.faults disk) (recorded_new c.args.mounted volume c.new-core.result c.new-device.result c.new-core.ensures.core c.new-core.ensures.has new.has new.size new.marks c.new-device.ensures) c.mounting_is_orderly.ensures.orderly c.mounting_is_orderly.ensures.over,
      starts_at c.args.mounted count seen told starts (g.D.Disk.faults disk),
    )

pub returns-in-Ok-ended-clause-answer : goal.returns-in-Ok-ended-clause-answer
returns-in-Ok-ended-clause-answer g c = λ first counted.
    let disk = c.args.disk.now in
    let next = c.run_lines-ended.new in
    let seen = known (g.D.Disk.seen disk) (g.D.Disk.lost disk) in
    let told = g.D.Disk.told disk in
    let count = g.D.Disk.count disk in
    let starts = starts_with c.args.mounted count (g.D.Disk.seen disk) (g.D.Disk.lost disk) told c.requires.ready c.requires.stands (g.met.D.Disk.reads_as_told disk) (g.met.D.Disk.lost_as_told disk) (g.met.D.Disk.reads_all disk) (g.met.D.Disk.reads_as_left disk) in
    let volume = c.in-Ok.volume in
    let new = c.in-Ok.ensures in
    let between = starts_between c.args.mounted count seen told starts _ _ _ _ (g.D.Disk.faults disk) (recorded_new c.args.mounted volume c.new-core.result c.new-device.result c.new-core.ensures.core c.new-core.ensures.has new.has new.size new.marks c.new-device.ensures) c.mounting_is_orderly.ensures.orderly c.mounting_is_orderly.ensures.over in
    let ran = c.in-Ok-ended.ensures.ran _ _ between (starts_at c.args.mounted count seen told starts (g.D.Disk.faults disk)) in
    let after = outside (known (g.D.Disk.seen next.disk) (g.D.Disk.lost next.disk)) (g.D.Disk.told next.disk) (g.K.Sink.taken next.to) (g.D.Disk.faults next.disk) (g.K.Sink.faults next.to) c.into_parts-history.result.1.events in
    all_run c.args.lines.items (outside seen told (g.K.Sink.taken c.args.to.now) first (g.K.Sink.faults c.args.to.now) c.args.run.now.events) after
    (starts_on c.args.mounted count seen told starts c.a_run_has_happened.ensures c.images_of_a_run_stand.ensures c.args.lines.items (g.K.Sink.taken c.args.to.now) first (g.K.Sink.faults c.args.to.now) c.args.run.now.events after _ (g.D.Disk.faults disk) ran.0 counted ran.3 c.in-Ok-ended.ensures.tells (g.met.D.Disk.reads_as_left next.disk) (ap (λ parts. parts.1.events) c.into_parts-history.ensures ∙ ran.2.events) ran.1)

pub returns-in-Sink-clause-answer : goal.returns-in-Sink-clause-answer
returns-in-Sink-clause-answer g c = λ first counted.
    let disk = c.args.disk.now in
    let next = c.run_lines-ended.new in
    let seen = known (g.D.Disk.seen disk) (g.D.Disk.lost disk) in
    let told = g.D.Disk.told disk in
    let count = g.D.Disk.count disk in
    let starts = starts_with c.args.mounted count (g.D.Disk.seen disk) (g.D.Disk.lost disk) told c.requires.ready c.requires.stands (g.met.D.Disk.reads_as_told disk) (g.met.D.Disk.lost_as_told disk) (g.met.D.Disk.reads_all disk) (g.met.D.Disk.reads_as_left disk) in
    let volume = c.in-Ok.volume in
    let new = c.in-Ok.ensures in
    let between = starts_between c.args.mounted count seen told starts _ _ _ _ (g.D.Disk.faults disk) (recorded_new c.args.mounted volume c.new-core.result c.new-device.result c.new-core.ensures.core c.new-core.ensures.has new.has new.size new.marks c.new-device.ensures) c.mounting_is_orderly.ensures.orderly c.mounting_is_orderly.ensures.over in
    let ran = c.in-Err.ensures.ran _ _ between (starts_at c.args.mounted count seen told starts (g.D.Disk.faults disk)) in
    let after = outside (known (g.D.Disk.seen next.disk) (g.D.Disk.lost next.disk)) (g.D.Disk.told next.disk) (g.K.Sink.taken next.to) (g.D.Disk.faults next.disk) (g.K.Sink.faults next.to) c.into_parts-history.result.1.events in
    let fault : c.in-Err.fault ≡ faults.Sink = c.in-Sink.is in
    sink_failed c.args.lines.items (outside seen told (g.K.Sink.taken c.args.to.now) first (g.K.Sink.faults c.args.to.now) c.args.run.now.events) after
    (starts_on c.args.mounted count seen told starts c.a_run_has_happened.ensures c.images_of_a_run_stand.ensures c.args.lines.items (g.K.Sink.taken c.args.to.now) first (g.K.Sink.faults c.args.to.now) c.args.run.now.events after _ (g.D.Disk.faults disk) ran.0 counted ran.3 c.in-Err.ensures.tells (g.met.D.Disk.reads_as_left next.disk) (ap (λ parts. parts.1.events) c.into_parts-history.ensures ∙ ran.2.events)
    (subst (λ (e : RunFault). HasRun (the_volume c.args.mounted count seen told starts) c.args.lines.items (the_start c.args.mounted count seen told starts (g.D.Disk.faults disk)) ran.0 (g.K.Sink.taken c.args.to.now) (g.K.Sink.taken next.to) (Err e)) fault ran.1))
    (c.in-Err.ensures.sink_fault (ap (λ (e : RunFault). Err e) fault))

pub returns-in-OutOfMemory-clause-answer : goal.returns-in-OutOfMemory-clause-answer
returns-in-OutOfMemory-clause-answer g c = λ first counted.
    let disk = c.args.disk.now in
    let next = c.run_lines-ended.new in
    let seen = known (g.D.Disk.seen disk) (g.D.Disk.lost disk) in
    let told = g.D.Disk.told disk in
    let count = g.D.Disk.count disk in
    let starts = starts_with c.args.mounted count (g.D.Disk.seen disk) (g.D.Disk.lost disk) told c.requires.ready c.requires.stands (g.met.D.Disk.reads_as_told disk) (g.met.D.Disk.lost_as_told disk) (g.met.D.Disk.reads_all disk) (g.met.D.Disk.reads_as_left disk) in
    let volume = c.in-Ok.volume in
    let new = c.in-Ok.ensures in
    let between = starts_between c.args.mounted count seen told starts _ _ _ _ (g.D.Disk.faults disk) (recorded_new c.args.mounted volume c.new-core.result c.new-device.result c.new-core.ensures.core c.new-core.ensures.has new.has new.size new.marks c.new-device.ensures) c.mounting_is_orderly.ensures.orderly c.mounting_is_orderly.ensures.over in
    let ran = c.in-Err.ensures.ran _ _ between (starts_at c.args.mounted count seen told starts (g.D.Disk.faults disk)) in
    let after = outside (known (g.D.Disk.seen next.disk) (g.D.Disk.lost next.disk)) (g.D.Disk.told next.disk) (g.K.Sink.taken c.answer-in-OutOfMemory.new.to) (g.D.Disk.faults next.disk) (g.K.Sink.faults c.answer-in-OutOfMemory.new.to) c.into_parts-history.result.1.events in
    let before = outside seen told (g.K.Sink.taken c.args.to.now) first (g.K.Sink.faults c.args.to.now) c.args.run.now.events in
    let fault : c.in-Err.fault ≡ faults.OutOfMemory = c.in-OutOfMemory.is in
    subst (HasLinesAnswer c.args.lines.items before after) (sym c.answer-in-OutOfMemory.ensures.same)
    (memory_lacked c.args.lines.items before after (g.K.Sink.taken next.to) (g.K.Sink.faults next.to)
    (starts_on c.args.mounted count seen told starts c.a_run_has_happened.ensures c.images_of_a_run_stand.ensures c.args.lines.items (g.K.Sink.taken c.args.to.now) first (g.K.Sink.faults c.args.to.now) c.args.run.now.events (record after { taken = g.K.Sink.taken next.to }) _ (g.D.Disk.faults disk) ran.0 counted ran.3 c.in-Err.ensures.tells (g.met.D.Disk.reads_as_left next.disk) (ap (λ parts. parts.1.events) c.into_parts-history.ensures ∙ ran.2.events)
    (subst (λ (e : RunFault). HasRun (the_volume c.args.mounted count seen told starts) c.args.lines.items (the_start c.args.mounted count seen told starts (g.D.Disk.faults disk)) ran.0 (g.K.Sink.taken c.args.to.now) (g.K.Sink.taken next.to) (Err e)) fault ran.1))
    c.in-Err.ensures.counted c.answer-in-OutOfMemory.ensures.front c.answer-in-OutOfMemory.ensures.whole)
