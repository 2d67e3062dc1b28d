use Rattle.std.proofs.Common.{◌≡◌, subst, sym}
use Rattle.volume_calls.specs.Turns.{HandsBatch}
use Rattle.volume_calls.specs.Between.{IsDiskAt}
use Rattle.volume_calls.specs.Calls.{IsLeft}
use Rattle.volume_calls.proofs.Begun.{left_under, on_err}
use Rattle.volume_calls.proofs.Finishing.{called_so, leaves, left_so, may_seal, seals_alone, turn_back}
use Rattle.volume_calls.proofs.turns.commit.Goals as goal

pub step-requires-clause-may : goal.step-requires-clause-may
step-requires-clause-may g c =
    let may = c.requires.may in
    (may.0, may.2.scene, may.4.under.has, may_seal (g.C.Core.has c.args.core.now) (g.C.Core.size c.args.core.now) (g.C.Core.marks c.args.core.now) _ (g.D.Disk.count c.args.disk.now) may.0 c.args.call may.1 may.2 may.3 may.4 (g.C.Core.out c.args.core.now))

pub end-requires-clause-back : goal.end-requires-clause-back
end-requires-clause-back g c =
    let may = c.requires.may in
    let out = g.C.Core.out c.args.core.now in
    let back =
    turn_back (g.C.Core.has c.args.core.now) (g.C.Core.has c.step.new.core) (g.C.Core.out c.step.new.core) (g.C.Core.size c.args.core.now) (g.C.Core.size c.step.new.core) (g.C.Core.marks c.args.core.now) (g.C.Core.marks c.step.new.core) _ _ (g.D.Disk.count c.args.disk.now) (g.D.Disk.count c.finish-result.new.disk)
    may.0 c.args.call c.step.new.self may.1 may.2 may.3 may.4 (c.step.new.core ≡ c.args.core.now) _ (g.C.Core.made c.step.new.core) c.in_ok-next.next c.batch_of-batch.result
    (g.C.Core.fsid c.args.core.now) (g.C.Core.generation c.args.core.now) (g.C.Core.seals c.args.core.now)
    (c.in_ok-next.ensures.stepped may.0 may.2.scene may.4.under.has (may_seal (g.C.Core.has c.args.core.now) (g.C.Core.size c.args.core.now) (g.C.Core.marks c.args.core.now) _ (g.D.Disk.count c.args.disk.now) may.0 c.args.call may.1 may.2 may.3 may.4 out))
    c.in_ok-next.ensures.handed c.batch_of-batch.ensures c.step.ensures.size c.step.ensures.marks c.finish-result.ensures.size c.step.ensures.caller c.step.ensures.request
    c.finish-result.result (g.D.Disk.faults c.args.disk.now) (g.D.Disk.faults c.finish-result.new.disk) may.5.faults c.finish-result.ensures.cause
    (leaves _ _ c.batch_of-batch.result c.finish-result.result c.finish-result.ensures.ok c.finish-result.ensures.tried c.finish-result.ensures.untried) (g.met.C.Core.goes_on c.step.new.core)
    (g.D.Disk.told c.args.disk.now) (g.D.Disk.told c.finish-result.new.disk) may.5.told c.finish-result.ensures.goes_on in
    (_, g.D.Disk.count c.finish-result.new.disk, may.0, may.1, back.later, back.made, back.back)

pub batch_of-batch-requires : goal.batch_of-batch-requires
batch_of-batch-requires g c =
    let may = c.requires.may in
    let alone = seals_alone (g.C.Core.has c.args.core.now) (g.C.Core.size c.args.core.now) (g.C.Core.marks c.args.core.now) _ (g.D.Disk.count c.args.disk.now) may.0 c.args.call may.1 may.2 may.3 may.4 (g.C.Core.has c.step.new.core) (c.step.new.core ≡ c.args.core.now) c.step.new.self _ (g.C.Core.made c.step.new.core) c.in_ok-next.next
    (c.in_ok-next.ensures.stepped may.0 may.2.scene may.4.under.has (may_seal (g.C.Core.has c.args.core.now) (g.C.Core.size c.args.core.now) (g.C.Core.marks c.args.core.now) _ (g.D.Disk.count c.args.disk.now) may.0 c.args.call may.1 may.2 may.3 may.4 (g.C.Core.out c.args.core.now))) in
    subst HandsBatch (sym alone.1) tt

pub returns-clause-called : goal.returns-clause-called
returns-clause-called g c mounted at now happenings may disk =
    let out = g.C.Core.out c.args.core.now in
    let back =
    turn_back (g.C.Core.has c.args.core.now) (g.C.Core.has c.step.new.core) (g.C.Core.out c.step.new.core) (g.C.Core.size c.args.core.now) (g.C.Core.size c.step.new.core) (g.C.Core.marks c.args.core.now) (g.C.Core.marks c.step.new.core) _ _ (g.D.Disk.count c.args.disk.now) (g.D.Disk.count c.finish-result.new.disk)
    mounted c.args.call c.step.new.self at now happenings may (c.step.new.core ≡ c.args.core.now) _ (g.C.Core.made c.step.new.core) c.in_ok-next.next c.batch_of-batch.result
    (g.C.Core.fsid c.args.core.now) (g.C.Core.generation c.args.core.now) (g.C.Core.seals c.args.core.now)
    (c.in_ok-next.ensures.stepped mounted now.scene may.under.has (may_seal (g.C.Core.has c.args.core.now) (g.C.Core.size c.args.core.now) (g.C.Core.marks c.args.core.now) _ (g.D.Disk.count c.args.disk.now) mounted c.args.call at now happenings may out))
    c.in_ok-next.ensures.handed c.batch_of-batch.ensures c.step.ensures.size c.step.ensures.marks c.finish-result.ensures.size c.step.ensures.caller c.step.ensures.request
    c.finish-result.result (g.D.Disk.faults c.args.disk.now) (g.D.Disk.faults c.finish-result.new.disk) disk.faults c.finish-result.ensures.cause
    (leaves _ _ c.batch_of-batch.result c.finish-result.result c.finish-result.ensures.ok c.finish-result.ensures.tried c.finish-result.ensures.untried) (g.met.C.Core.goes_on c.step.new.core)
    (g.D.Disk.told c.args.disk.now) (g.D.Disk.told c.finish-result.new.disk) disk.told c.finish-result.ensures.goes_on in
    called_so _ mounted c.args.call c.step.new.self at back.later (g.D.Disk.told c.finish-result.new.disk) (g.D.Disk.faults c.finish-result.new.disk) c.end.result c.step.ensures.caller c.step.ensures.request back.told back.faults_are
    (c.end.ensures.called _ (g.D.Disk.count c.finish-result.new.disk) mounted at back.later back.made back.back)

pub returns-clause-left : goal.returns-clause-left
returns-clause-left g c mounted at now happenings may disk =
    let out = g.C.Core.out c.args.core.now in
    let back =
    turn_back (g.C.Core.has c.args.core.now) (g.C.Core.has c.step.new.core) (g.C.Core.out c.step.new.core) (g.C.Core.size c.args.core.now) (g.C.Core.size c.step.new.core) (g.C.Core.marks c.args.core.now) (g.C.Core.marks c.step.new.core) _ _ (g.D.Disk.count c.args.disk.now) (g.D.Disk.count c.finish-result.new.disk)
    mounted c.args.call c.step.new.self at now happenings may (c.step.new.core ≡ c.args.core.now) _ (g.C.Core.made c.step.new.core) c.in_ok-next.next c.batch_of-batch.result
    (g.C.Core.fsid c.args.core.now) (g.C.Core.generation c.args.core.now) (g.C.Core.seals c.args.core.now)
    (c.in_ok-next.ensures.stepped mounted now.scene may.under.has (may_seal (g.C.Core.has c.args.core.now) (g.C.Core.size c.args.core.now) (g.C.Core.marks c.args.core.now) _ (g.D.Disk.count c.args.disk.now) mounted c.args.call at now happenings may out))
    c.in_ok-next.ensures.handed c.batch_of-batch.ensures c.step.ensures.size c.step.ensures.marks c.finish-result.ensures.size c.step.ensures.caller c.step.ensures.request
    c.finish-result.result (g.D.Disk.faults c.args.disk.now) (g.D.Disk.faults c.finish-result.new.disk) disk.faults c.finish-result.ensures.cause
    (leaves _ _ c.batch_of-batch.result c.finish-result.result c.finish-result.ensures.ok c.finish-result.ensures.tried c.finish-result.ensures.untried) (g.met.C.Core.goes_on c.step.new.core)
    (g.D.Disk.told c.args.disk.now) (g.D.Disk.told c.finish-result.new.disk) disk.told c.finish-result.ensures.goes_on in
    left_so (λ x. g.C.Core.has c.end.new.core mounted x.scene) mounted c.args.call c.step.new.self at back.later (g.D.Disk.told c.finish-result.new.disk) (g.D.Disk.faults c.finish-result.new.disk) c.end.result c.step.ensures.caller c.step.ensures.request back.told back.faults_are
    (c.end.ensures.left _ (g.D.Disk.count c.finish-result.new.disk) mounted at back.later back.made back.back)

pub returns-in_err-next-clause-left : goal.returns-in_err-next-clause-left
returns-in_err-next-clause-left g c mounted at now happenings may disk =
    on_err c.from_residual.result (λ x. IsLeft mounted c.args.call.caller c.args.call.request at x) (λ x. g.C.Core.has c.step.new.core mounted x.scene)
    (λ x. IsDiskAt (g.D.Disk.told c.args.disk.now) (g.D.Disk.faults c.args.disk.now) x) now
    (left_under (g.C.Core.has c.args.core.now) (g.C.Core.size c.args.core.now) _ (g.D.Disk.count c.args.disk.now) mounted c.args.call at now happenings may.under)
    (c.in_err-next.ensures.memory mounted now.scene may.under.has) disk
