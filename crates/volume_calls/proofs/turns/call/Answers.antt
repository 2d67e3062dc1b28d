use Rattle.std.proofs.Common.{◌≡◌, ◌∷◌, [], ℕ, length, None, IfOk, OnErr, sym, subst, ◌∙◌, refl, inl, inr}
use Rattle.blk_base.specs.declared.key.Marks.{Marks}
use Rattle.call_steps.specs.declared.next.Next.{Next}
use Rattle.call_steps.specs.Steps.{HasMoved, HasStepped, IsLast}
use Rattle.commit_images.specs.Scene.{Comes, Nothing}
use Rattle.commit_room.specs.Room.{free_blocks}
use Rattle.flat_model.specs.declared.request.Request.{Request}
use Rattle.volume_calls.specs.Between.{Between, IsBetween, IsDiskAt}
use Rattle.volume_calls.specs.Calls.{IsCalled, IsLeft}
use Rattle.volume_calls.specs.Turns.{MayCommit}
use Rattle.volume_calls.proofs.Begun.{answered, left_at_once, may_begin, moved, no_wait, no_work, on_err, same_disk}
use Rattle.volume_calls.proofs.Happened.{with_event}
use Rattle.volume_calls.proofs.turns.call.Goals as goal

pub step-requires-clause-may : goal.step-requires-clause-may
step-requires-clause-may g c =
    let b = c.requires.between in
    let call = c.start-call.result in
    (b.0, b.1.scene, b.2.has, may_begin (g.C.Core.has c.args.core.now) (g.C.Core.has c.args.core.now) _ _ _ _ b.0 b.1 call b.2 (c.start-call.ensures.at _ (b.2.goes.over call.caller)) c.start-call.ensures.new (g.C.Core.out c.args.core.now))

pub unreachable-requires : goal.unreachable-requires
unreachable-requires g c =
    let b = c.requires.between in
    let call = c.start-call.result in
    let new = c.start-call.ensures.new in
    let stands = c.start-call.ensures.at _ (b.2.goes.over call.caller) in
    let Was = g.C.Core.has c.args.core.now in
    let Has = g.C.Core.has c.step.new.core in
    let Same = c.step.new.core ≡ c.args.core.now in
    let free = free_blocks (g.C.Core.size c.args.core.now) (length (g.C.Core.in_use c.args.core.now)) in
    let names = g.C.Core.made c.step.new.core in
    let may = may_begin Was Has _ _ _ _ b.0 b.1 call b.2 stands new (g.C.Core.out c.args.core.now) in
    let stepped = c.in_ok-answer.ensures.stepped b.0 b.1.scene b.2.has may in
    elim c.in-Work.is [
      | inl (work, is) ↦ no_work Was Has _ _ _ _ b.0 b.1 call b.2 stands new Same c.step.new.self free names work
          (subst (λ (n : Next). HasStepped Has Same b.0 b.1.scene call c.step.new.self None free names n) is stepped)
      | inr (turn, holder, is) ↦ no_wait Was Has _ _ _ _ b.0 b.1 call b.2 stands new Same c.step.new.self free names turn holder
          (subst (λ (n : Next). HasStepped Has Same b.0 b.1.scene call c.step.new.self None free names n) is stepped)
    ]

pub returns-in-Finished-clause-called : goal.returns-in-Finished-clause-called
returns-in-Finished-clause-called g c = λ mounted at between disk.
    let call = c.start-call.result in
    let new = c.start-call.ensures.new in
    let stands = c.start-call.ensures.at _ (between.goes.over call.caller) in
    let Was = g.C.Core.has c.args.core.now in
    let Has = g.C.Core.has c.step.new.core in
    let Same = c.step.new.core ≡ c.args.core.now in
    let free = free_blocks (g.C.Core.size c.args.core.now) (length (g.C.Core.in_use c.args.core.now)) in
    let names = g.C.Core.made c.step.new.core in
    let size = g.C.Core.size c.args.core.now in
    let marks = g.C.Core.marks c.args.core.now in
    let count = g.D.Disk.count c.args.disk.now in
    let answer = c.in-Finished.answer in
    let may = may_begin Was Has size marks c.args.device.now count mounted at call between stands new (g.C.Core.out c.args.core.now) in
    let stepped = subst (λ (n : Next). HasStepped Has Same mounted at.scene call c.step.new.self None free names n) c.in-Finished.is (c.in_ok-answer.ensures.stepped mounted at.scene between.has may) in
    let finished = c.in_ok-answer.ensures.finished.1 (subst IsLast (sym c.in-Finished.is) tt) in
    let it = answered Was Has size marks c.args.device.now count mounted at call between stands new Same c.step.new.self free names answer finished stepped in (
      it.0,
      subst (λ (r : Request). IsCalled mounted c.args.caller r answer at it.0) c.start-call.ensures.request
          (subst (λ (one : ℕ). IsCalled mounted one call.request answer at it.0) c.start-call.ensures.caller it.1),
      subst (λ (m : Marks). IsBetween Has (g.C.Core.size c.step.new.core) m c.args.device.now count mounted it.0) (sym c.step.ensures.marks)
          (subst (λ (n : ℕ). IsBetween Has n marks c.args.device.now count mounted it.0) (sym c.step.ensures.size) it.2),
      same_disk (g.D.Disk.told c.args.disk.now) (g.D.Disk.faults c.args.disk.now) at it.0 it.3 it.4 disk,
    )

pub commit-requires-clause-may : goal.commit-requires-clause-may
commit-requires-clause-may g c =
    let b = c.requires.between in
    let mounted = b.0 in
    let at = b.1 in
    let between = b.2 in
    let disk = b.3 in
    let call = c.start-call.result in
    let new = c.start-call.ensures.new in
    let stands = c.start-call.ensures.at _ (between.goes.over call.caller) in
    let Was = g.C.Core.has c.args.core.now in
    let Has = g.C.Core.has c.step.new.core in
    let Same = c.step.new.core ≡ c.args.core.now in
    let free = free_blocks (g.C.Core.size c.args.core.now) (length (g.C.Core.in_use c.args.core.now)) in
    let names = g.C.Core.made c.step.new.core in
    let size = g.C.Core.size c.args.core.now in
    let marks = g.C.Core.marks c.args.core.now in
    let count = g.D.Disk.count c.args.disk.now in
    let device = c.args.device.now in
    let next = c.step.new.self in
    let may = may_begin Was Has size marks device count mounted at call between stands new (g.C.Core.out c.args.core.now) in
    let it : HasMoved Has mounted at.scene call next None = subst (λ (n : Next). HasStepped Has Same mounted at.scene call next None free names n) c.in-Moved.is (c.in_ok-answer.ensures.stepped mounted at.scene between.has may) in
    let now = with_event mounted at it.event Nothing in
    let list = Comes it.event Nothing ∷ [] in
    let one = moved Was Has size marks device count mounted at call between stands new next c.step.ensures.caller c.step.ensures.request it in
    let waits = subst (λ (m : Marks). MayCommit Has (g.C.Core.size c.step.new.core) m device count mounted next at now list) (sym c.step.ensures.marks)
    (subst (λ (n : ℕ). MayCommit Has n marks device count mounted next at now list) (sym c.step.ensures.size) one) in
    let there = same_disk (g.D.Disk.told c.args.disk.now) (g.D.Disk.faults c.args.disk.now) at now refl refl disk in
    (mounted, at, now, list, waits, there)

pub returns-in-Moved-clause-called : goal.returns-in-Moved-clause-called
returns-in-Moved-clause-called g c = λ mounted at between disk.
    let call = c.start-call.result in
    let new = c.start-call.ensures.new in
    let stands = c.start-call.ensures.at _ (between.goes.over call.caller) in
    let Was = g.C.Core.has c.args.core.now in
    let Has = g.C.Core.has c.step.new.core in
    let Same = c.step.new.core ≡ c.args.core.now in
    let free = free_blocks (g.C.Core.size c.args.core.now) (length (g.C.Core.in_use c.args.core.now)) in
    let names = g.C.Core.made c.step.new.core in
    let size = g.C.Core.size c.args.core.now in
    let marks = g.C.Core.marks c.args.core.now in
    let count = g.D.Disk.count c.args.disk.now in
    let device = c.args.device.now in
    let next = c.step.new.self in
    let may = may_begin Was Has size marks device count mounted at call between stands new (g.C.Core.out c.args.core.now) in
    let it : HasMoved Has mounted at.scene call next None = subst (λ (n : Next). HasStepped Has Same mounted at.scene call next None free names n) c.in-Moved.is (c.in_ok-answer.ensures.stepped mounted at.scene between.has may) in
    let now = with_event mounted at it.event Nothing in
    let list = Comes it.event Nothing ∷ [] in
    let one = moved Was Has size marks device count mounted at call between stands new next c.step.ensures.caller c.step.ensures.request it in
    let waits = subst (λ (m : Marks). MayCommit Has (g.C.Core.size c.step.new.core) m device count mounted next at now list) (sym c.step.ensures.marks)
    (subst (λ (n : ℕ). MayCommit Has n marks device count mounted next at now list) (sym c.step.ensures.size) one) in
    let there = same_disk (g.D.Disk.told c.args.disk.now) (g.D.Disk.faults c.args.disk.now) at now refl refl disk in
    subst (λ (r : Request). IfOk c.commit.result (λ answer. (last : Between) × IsCalled mounted c.args.caller r answer at last
    × IsBetween (g.C.Core.has c.commit.new.core) (g.C.Core.size c.commit.new.core) (g.C.Core.marks c.commit.new.core) c.commit.new.device (g.D.Disk.count c.commit.new.disk) mounted last
    × IsDiskAt (g.D.Disk.told c.commit.new.disk) (g.D.Disk.faults c.commit.new.disk) last)) (c.step.ensures.request ∙ c.start-call.ensures.request)
    (subst (λ (by : ℕ). IfOk c.commit.result (λ answer. (last : Between) × IsCalled mounted by next.request answer at last
    × IsBetween (g.C.Core.has c.commit.new.core) (g.C.Core.size c.commit.new.core) (g.C.Core.marks c.commit.new.core) c.commit.new.device (g.D.Disk.count c.commit.new.disk) mounted last
    × IsDiskAt (g.D.Disk.told c.commit.new.disk) (g.D.Disk.faults c.commit.new.disk) last)) (c.step.ensures.caller ∙ c.start-call.ensures.caller)
    (c.commit.ensures.called mounted at now list waits there))

pub returns-in-Moved-clause-left : goal.returns-in-Moved-clause-left
returns-in-Moved-clause-left g c = λ mounted at between disk.
    let call = c.start-call.result in
    let new = c.start-call.ensures.new in
    let stands = c.start-call.ensures.at _ (between.goes.over call.caller) in
    let Was = g.C.Core.has c.args.core.now in
    let Has = g.C.Core.has c.step.new.core in
    let Same = c.step.new.core ≡ c.args.core.now in
    let free = free_blocks (g.C.Core.size c.args.core.now) (length (g.C.Core.in_use c.args.core.now)) in
    let names = g.C.Core.made c.step.new.core in
    let size = g.C.Core.size c.args.core.now in
    let marks = g.C.Core.marks c.args.core.now in
    let count = g.D.Disk.count c.args.disk.now in
    let device = c.args.device.now in
    let next = c.step.new.self in
    let may = may_begin Was Has size marks device count mounted at call between stands new (g.C.Core.out c.args.core.now) in
    let it : HasMoved Has mounted at.scene call next None = subst (λ (n : Next). HasStepped Has Same mounted at.scene call next None free names n) c.in-Moved.is (c.in_ok-answer.ensures.stepped mounted at.scene between.has may) in
    let now = with_event mounted at it.event Nothing in
    let list = Comes it.event Nothing ∷ [] in
    let one = moved Was Has size marks device count mounted at call between stands new next c.step.ensures.caller c.step.ensures.request it in
    let waits = subst (λ (m : Marks). MayCommit Has (g.C.Core.size c.step.new.core) m device count mounted next at now list) (sym c.step.ensures.marks)
    (subst (λ (n : ℕ). MayCommit Has n marks device count mounted next at now list) (sym c.step.ensures.size) one) in
    let there = same_disk (g.D.Disk.told c.args.disk.now) (g.D.Disk.faults c.args.disk.now) at now refl refl disk in
    subst (λ (r : Request). OnErr c.commit.result ((last : Between) × IsLeft mounted c.args.caller r at last × g.C.Core.has c.commit.new.core mounted last.scene
    × IsDiskAt (g.D.Disk.told c.commit.new.disk) (g.D.Disk.faults c.commit.new.disk) last)) (c.step.ensures.request ∙ c.start-call.ensures.request)
    (subst (λ (by : ℕ). OnErr c.commit.result ((last : Between) × IsLeft mounted by next.request at last × g.C.Core.has c.commit.new.core mounted last.scene
    × IsDiskAt (g.D.Disk.told c.commit.new.disk) (g.D.Disk.faults c.commit.new.disk) last)) (c.step.ensures.caller ∙ c.start-call.ensures.caller)
    (c.commit.ensures.left mounted at now list waits there))

pub returns-in_err-answer-clause-left : goal.returns-in_err-answer-clause-left
returns-in_err-answer-clause-left g c = λ mounted at between disk.
    on_err c.from_residual.result (λ x. IsLeft mounted c.args.caller c.args.request at x) (λ x. g.C.Core.has c.step.new.core mounted x.scene)
    (λ x. IsDiskAt (g.D.Disk.told c.args.disk.now) (g.D.Disk.faults c.args.disk.now) x) at
    (left_at_once mounted c.args.caller c.args.request at) (c.in_err-answer.ensures.memory mounted at.scene between.has) disk
