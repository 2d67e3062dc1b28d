use Rattle.std.proofs.Common.{refl, sym, ap, ◌∙◌, subst, inl, inr, Option}
use Rattle.script_runner.specs.Run.{KeepsSettled}
use Rattle.std.proofs.lemmas.Bool.{false≢true}
use Rattle.disk_model.specs.Disk.{known, Told}
use Rattle.volume_mkfs.specs.Made.{CrashLeaves}
use Rattle.volume_mkfs.proofs.Written.{crash_same}
use Rattle.script_runner.specs.Mkfs.{IsOldOrAsked}
use Rattle.script_runner.proofs.MadeLemmas.{old_asked}
use Rattle.script_runner.specs.Commands.{bytes_of, made_line}
use Rattle.script_runner.proofs.AnswerLemmas.{made_text}
use Rattle.script_runner.proofs.Crashes.{run_crash, run_settled, settled_still}
use Rattle.script_runner.proofs.RunLemmas.{run_complete, run_no_volume}
use Rattle.disk_model.proofs.CrashLaws.{known_as_told}
use Rattle.script_runner.proofs.command.drive.Goals as goal

pub returns-then-is_only-clause-no_volume : goal.returns-then-is_only-clause-no_volume
returns-then-is_only-clause-no_volume g c = λ fault is. (inl (c.if-is_only.ensures.0 refl), c.list.ensures.no_volume fault is)

pub returns-then-is_only-clause-crash : goal.returns-then-is_only-clause-crash
returns-then-is_only-clause-crash g c = λ other.
    let told = g.D.Disk.told c.args.disk.now in
    subst (λ (after : Option Told). CrashLeaves told after (IsOldOrAsked (bytes_of c.args.words.now))) (sym c.list.ensures.told) (crash_same (IsOldOrAsked (bytes_of c.args.words.now)) told (old_asked (bytes_of c.args.words.now)))

pub returns-in-Done-clause-text : goal.returns-in-Done-clause-text
returns-in-Done-clause-text g c = λ other.
    let words = bytes_of c.args.words.now in
    (made_line words, made_text words (known (g.D.Disk.seen c.args.disk.now) (g.D.Disk.lost c.args.disk.now)) c.tell_made.result c.tell_made.ensures.answer (λ list. false≢true (sym c.if-is_only.false ∙ c.is_only.ensures.1 list)), c.tell_made.ensures.text)

pub returns-then-is_only-2-clause-run_complete : goal.returns-then-is_only-2-clause-run_complete
returns-then-is_only-2-clause-run_complete g c = λ _.
    let disk = c.args.disk.now in
    run_complete _ _ (known (g.D.Disk.seen disk) (g.D.Disk.lost disk)) (g.D.Disk.told disk) (g.K.Sink.taken c.args.to.now) (g.D.Disk.faults disk) (g.K.Sink.faults c.args.to.now) c.args.run.now.events _ c.run_source.result c.run_source.ensures.answer.0 c.run_source.ensures.answer.2

pub returns-then-is_only-2-clause-no_volume : goal.returns-then-is_only-2-clause-no_volume
returns-then-is_only-2-clause-no_volume g c = λ fault is. (inr (c.if-is_only-2.ensures.0 refl), run_no_volume _ _ _ _ c.run_source.result c.run_source.ensures.answer.0 fault c.run_source.ensures.answer.2 is)

pub returns-then-is_only-2-clause-run_crash : goal.returns-then-is_only-2-clause-run_crash
returns-then-is_only-2-clause-run_crash g c = λ _.
    let disk = c.args.disk.now in
    run_crash _ _ _ _ c.run_source.result c.run_source.ensures.answer.0 (known_as_told (g.D.Disk.seen disk) (g.D.Disk.lost disk) (g.D.Disk.told disk) (g.met.D.Disk.reads_as_told disk) (g.met.D.Disk.lost_as_told disk)) (g.met.D.Disk.reads_as_left disk) c.run_source.ensures.answer.2

pub returns-then-is_only-2-clause-keeps_settled : goal.returns-then-is_only-2-clause-keeps_settled
returns-then-is_only-2-clause-keeps_settled g c = λ _. run_settled _ _ _ _ c.run_source.result c.run_source.ensures.answer.0 c.run_source.ensures.answer.2

pub returns-then-is_only-clause-keeps_settled : goal.returns-then-is_only-clause-keeps_settled
returns-then-is_only-clause-keeps_settled g c = λ _.
    subst (λ (after : Option Told). KeepsSettled (g.D.Disk.told c.args.disk.now) after) (sym c.list.ensures.told) (settled_still (g.D.Disk.told c.args.disk.now))

pub returns-in_default-clause-keeps_settled : goal.returns-in_default-clause-keeps_settled
returns-in_default-clause-keeps_settled g c = λ other.
    subst (λ (after : Option Told). KeepsSettled (g.D.Disk.told c.args.disk.now) after)
    (sym (ap (λ disk. g.D.Disk.told disk) (c.execute-status.ensures.untouched (inl (c.execute-status.ensures.usage.1 other)))))
    (settled_still (g.D.Disk.told c.args.disk.now))
