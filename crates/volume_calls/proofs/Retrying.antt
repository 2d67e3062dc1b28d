-- The second try of an operation, behind its own full commit.
use Rattle.std.proofs.Common.{◌≡◌, ◌≤◌, ◌<◌, ◌+◌, ◌||◌, ℕ, Bool, true, List, [], ◌∷◌, ◌++◌, Some, None, refl, sym, ap, subst, ◌∙◌, inl, inr, arith}
use Rattle.std.proofs.lemmas.Bool.{true≢false}
use Rattle.blk_base.specs.declared.key.Marks.{Marks}
use Rattle.block_table.specs.declared.batch.Batch.{Batch}
use Rattle.call_steps.proofs.Behind.{call_behind}
use Rattle.call_steps.proofs.Turns.{waiting_wants}
use Rattle.call_steps.proofs.Wanting.{IsWant, OfOp, OfSync, call_at, want_of}
use Rattle.call_steps.specs.declared.call.Call.{Call}
use Rattle.call_steps.specs.declared.call.Stage.TheVariants as stages
use Rattle.call_steps.specs.declared.next.Next.{Next}
use Rattle.call_steps.specs.declared.next.Next.TheVariants as nexts
use Rattle.call_steps.specs.Standing.{IsFinished}
use Rattle.call_steps.specs.Steps.{HasAnswered, HasHandedOut, HasMade, HasMoved, HasStepped, HasToWait, IsSaid, MayStep, answer_behind}
use Rattle.commit_core.specs.Coming.{call_in, state_of}
use Rattle.commit_core.specs.declared.work.Work.TheVariants as works
use Rattle.commit_history.specs.Calls as history
use Rattle.commit_history.specs.Calls.{AsksFirst, AsksForFull, Duty, FullFailed, FullWritten, GivesSlotUp, IsDone, Logs, Operates, OperatesAgain, PartFailed, PartGivenUp, PartWritten, Refuses, RootFailed, RootWritten, SealsFull, SealsLogs, SealsPart, SealsVolume, Syncs, TriesAgain, WasShort, answer_of, caller_of, duty}
use Rattle.commit_history.specs.Legal.{IsOpEnd, IsShort, MayCome, shown}
use Rattle.commit_history.specs.State.{State}
use Rattle.commit_history.specs.declared.event.Event.{Event}
use Rattle.commit_history.specs.declared.event.Event.TheVariants as event
use Rattle.commit_history.specs.declared.event.OpEnd.{OpEnd}
use Rattle.commit_history.specs.declared.event.OpEnd.TheVariants as ends
use Rattle.commit_history.specs.declared.event.Turn.{Turn}
use Rattle.commit_images.specs.Scene.{Comes, Happening, Mounted, Nothing, Scene}
use Rattle.commit_room.specs.Room.{free_blocks}
use Rattle.device_side.specs.Device.{Device}
use Rattle.disk_model.specs.Disk.{HasRisen}
use Rattle.flat_laws.proofs.Answered.{step_says}
use Rattle.flat_model.proofs.Maps.{some_none, some_same}
use Rattle.flat_model.specs.declared.answer.Answer.{Answer}
use Rattle.flat_model.specs.declared.answer.Answer.TheVariants as answers
use Rattle.flat_model.specs.declared.op.Op.{Op}
use Rattle.flat_model.specs.declared.request.Request.TheVariants as requests
use Rattle.flat_model.specs.Refusal.{is_done, is_refusal}
use Rattle.flat_model.specs.Needs.{need}
use Rattle.flat_model.specs.Step.{step}
use Rattle.flat_model.specs.Volume.{RunVolume}
use Rattle.volume_calls.specs.Between.{Between, IsBetween}
use Rattle.volume_calls.specs.Calls.{EndWith, IsCalled, LackedRoom, LacksRoom, Operated}
use Rattle.volume_calls.specs.Turns.{AreMarks, IsCommitted}
use Rattle.volume_calls.proofs.Ended.{begins_longer}
use Rattle.volume_calls.proofs.Happened.{event_more, hands_nothing, with_event}
use Rattle.volume_calls.proofs.Standing.{IsAround, ends_between, made_by}

-- an operation doesn't answer that the device failed
never_io : (run : RunVolume) (op : Op) (indexes : List ℕ) (answer : Answer) → answer ≡ (step run op indexes).answer → answer ≡ answers.Io → ⊥
never_io run op indexes answer is io =
    let same : answers.Io ≡ (step run op indexes).answer = sym io ∙ is in
    true≢false (sym (step_says run op indexes) ∙ ap (λ a. is_done a || is_refusal a) (sym same))

-- what an operation that was short shows
short_is : (current : RunVolume) (op : Op) (indexes : List ℕ) (free needed : ℕ) → IsOpEnd current op indexes (ends.Short free needed) → (free < needed) × (needed ≡ need current op)
short_is current op indexes free _ (IsShort own few) = (few, refl)

-- few blocks in use leave many free
few_used : (blocks size used free room : ℕ) → blocks ≡ size → free ≡ free_blocks size used → used ≤ room → blocks ≤ free + (82 + room)
few_used blocks size used free room same is few = omega (arith, same, is, few)

-- the second try of this operation
data IsRetry (caller : ℕ) (op : Op) (e : Event) : Type 0 where
  Retries : (end : OpEnd) (indexes : List ℕ) → e ≡ event.Op caller op true end indexes → IsRetry caller op e

same_op : (one two : Op) → TriesAgain one ≡ TriesAgain two → one ≡ two
same_op one two is = cc

retries_by : (state : State) (caller : ℕ) (does : Duty) (op : Op) (e : Event) → does ≡ TriesAgain op → IsDone state caller does e → IsRetry caller op e
retries_by state caller does op e is (Operates other end indexes) = absurd cc
retries_by state caller does op e is (Refuses answer) = absurd cc
retries_by state caller does op e is (Logs end datasync) = absurd cc
retries_by state caller does op e is AsksFirst = absurd cc
retries_by state caller does op e is (OperatesAgain other end indexes) = Retries end indexes (ap (λ o. event.Op caller o true end indexes) (same_op other op is))
retries_by state caller does op e is (PartWritten sub number none) = absurd cc
retries_by state caller does op e is (PartGivenUp sub number some) = absurd cc
retries_by state caller does op e is (PartFailed sub number) = absurd cc
retries_by state caller does op e is RootWritten = absurd cc
retries_by state caller does op e is (RootFailed tried) = absurd cc
retries_by state caller does op e is FullWritten = absurd cc
retries_by state caller does op e is (FullFailed tried) = absurd cc
retries_by state caller does op e is (SealsPart sub number) = absurd cc
retries_by state caller does op e is SealsLogs = absurd cc
retries_by state caller does op e is SealsVolume = absurd cc
retries_by state caller does op e is (GivesSlotUp sub number) = absurd cc
retries_by state caller does op e is AsksForFull = absurd cc

-- what the second try answers
abbrev answer_at : OpEnd → Answer
answer_at (ends.Answered told) = told
answer_at (ends.Short free need) = answers.NoSpace free need

retried : (state : State) (caller : ℕ) (past : history.Call) (op : Op) (end : OpEnd) (indexes : List ℕ) → answer_of (history.after_own state caller past (event.Op caller op true end indexes)) ≡ Some (answer_at end)
retried state caller past op (ends.Answered told) indexes = refl
retried state caller past op (ends.Short free need) indexes = refl

no_seal : (caller : ℕ) (op : Op) → IsRetry caller op (event.SealFull caller) → ⊥
no_seal caller op (Retries end indexes is) = absurd cc

module _ (Has : Mounted → Scene → Type 0) (size used : ℕ) (marks : Marks) (device : Device) (count : ℕ) (mounted : Mounted) (call : Call) (at now : Between) (happenings : List Happening)
    (is : IsCommitted Has size used marks device count mounted call at now happenings) where
  abbrev state : State
  state = state_of mounted now.scene

  abbrev past : history.Call
  past = call_in mounted now.scene call.caller

  -- the call is an operation
  record IsOp : Type 0 where
    pub op : Op
    pub sealed : Bool
    pub asked : call.request ≡ requests.Op op
    pub stage : past.stage ≡ WasShort op sealed

  is_op : IsOp
  is_op = of (want_of call.request past.stage (waiting_wants mounted now.scene call is.under.stands is.under.waits))
    where
      of : IsWant call.request past.stage → IsOp
      of (OfOp op sealed asked stage) = record { op = op; sealed = sealed; asked = asked; stage = stage }
      of (OfSync sealed asked stage) = absurd (some_none answers.Sync (sym (sym is.unanswered ∙ ap (λ s. answer_of (call_at s past.cover past.events)) stage
          ∙ ap (λ c. answer_of (call_at (Syncs sealed) c past.events)) is.covered)))

  tries : duty state past ≡ TriesAgain is_op.op
  tries = ap (λ s. duty state (call_at s past.cover past.events)) is_op.stage
      ∙ ap (λ c. duty state (call_at (WasShort is_op.op is_op.sealed) c past.events)) is.covered

  pub again_may_step : (Out : Batch → Type 0) → MayStep Out mounted now.scene call None
  again_may_step Out = record {
    orderly = is.under.orderly;
    at = is.under.stands;
    goes_on = λ finished. absurd (let both : stages.Wants ≡ stages.Finished = sym is.under.waits ∙ finished in cc);
    back = is.apart;
  }

  module _ (After : Mounted → Scene → Type 0) (next : Call) (e : Event) (made : HasMade After mounted now.scene call next None e Nothing) where
    own : caller_of e ≡ call.caller
    own = made_by After mounted now.scene call next None e Nothing made

    is_retry : IsRetry call.caller is_op.op e
    is_retry = retries_by state call.caller (duty state past) is_op.op e tries made.ruled

    -- the call has answered behind it
    says : (end : OpEnd) (indexes : List ℕ) → e ≡ event.Op call.caller is_op.op true end indexes → answer_behind mounted now.scene call.caller e ≡ Some (answer_at end)
    says end indexes same = ap answer_of (call_behind mounted now.scene e Nothing call.caller (sym own) ∙ ap (history.after_own state call.caller past) same) ∙ retried state call.caller past is_op.op end indexes

  -- ---- the answer

  -- that of the definition, or that there is too little room
  data HowAnswered (e : Event) (answer : Answer) : Type 0 where
    ByStep : (indexes : List ℕ) → answer ≡ (step state.current is_op.op indexes).answer → e ≡ event.Op call.caller is_op.op true (ends.Answered (shown answer)) indexes → HowAnswered e answer
    ByRoom : (free need : ℕ) (indexes : List ℕ) → answer ≡ answers.NoSpace free need → e ≡ event.Op call.caller is_op.op true (ends.Short free need) indexes → free ≡ free_blocks size used → HowAnswered e answer

  how_answered : (After : Mounted → Scene → Type 0) (next : Call) (free : ℕ) (names : List ℕ) (answer : Answer) → free ≡ free_blocks size used → (answered : HasAnswered After mounted now.scene call next None free names answer)
      → HowAnswered answered.event answer
  how_answered After next free names answer freed answered = of (is_retry After next answered.event answered.made)
    where
      said_at : (end : OpEnd) (indexes : List ℕ) → answered.event ≡ event.Op call.caller is_op.op true end indexes → IsSaid state.current free names (event.Op call.caller is_op.op true end indexes) answer
      said_at end indexes same = subst (λ x. IsSaid state.current free names x answer) same answered.said

      by_end : (end : OpEnd) (indexes : List ℕ) → answered.event ≡ event.Op call.caller is_op.op true end indexes → HowAnswered answered.event answer
      by_end (ends.Answered told) indexes same =
          let shown_is : told ≡ shown answer = some_same told (shown answer) (sym (says After next answered.event answered.made (ends.Answered told) indexes same) ∙ answered.answers) in
          ByStep indexes (said_at (ends.Answered told) indexes same).0 (same ∙ ap (λ t. event.Op call.caller is_op.op true (ends.Answered t) indexes) shown_is)
      by_end (ends.Short told need) indexes same = ByRoom told need indexes (said_at (ends.Short told need) indexes same).0 same ((said_at (ends.Short told need) indexes same).1 ∙ freed)

      of : IsRetry call.caller is_op.op answered.event → HowAnswered answered.event answer
      of (Retries end indexes same) = by_end end indexes same

  lacks : (free needed : ℕ) (indexes : List ℕ) (e : Event) → e ≡ event.Op call.caller is_op.op true (ends.Short free needed) indexes → MayCome state e → free ≡ free_blocks size used → LacksRoom at.blocks state.current is_op.op free needed
  lacks free needed indexes e same may freed =
      let shown = short_is state.current is_op.op indexes free needed (subst (MayCome state) same may).1 in
      record { too_few = shown.0; of_op = shown.1; has_free = few_used at.blocks size used free _ is.under.blocks freed is.few }

  ends_with : (e : Event) (answer : Answer) → HowAnswered e answer → MayCome state e → EndWith mounted at call.caller call.request answer (happenings ++ Comes e Nothing ∷ [])
  ends_with e answer (ByStep indexes stepped same) may =
      subst (λ r. EndWith mounted at call.caller r answer (happenings ++ Comes e Nothing ∷ [])) (sym is_op.asked)
      (subst (λ x. EndWith mounted at call.caller (requests.Op is_op.op) answer (happenings ++ Comes x Nothing ∷ [])) (sym same)
      (Operated is_op.op true indexes answer happenings (stepped ∙ ap (λ (s : Scene). (step (state_of mounted s).current is_op.op indexes).answer) is.under.happened.behind)))
  ends_with e answer (ByRoom free need indexes short same freed) may =
      subst (λ r. EndWith mounted at call.caller r answer (happenings ++ Comes e Nothing ∷ [])) (sym is_op.asked)
      (subst (λ a. EndWith mounted at call.caller (requests.Op is_op.op) a (happenings ++ Comes e Nothing ∷ [])) (sym short)
      (subst (λ x. EndWith mounted at call.caller (requests.Op is_op.op) (answers.NoSpace free need) (happenings ++ Comes x Nothing ∷ [])) (sym same) (LackedRoom is_op.op free need indexes happenings
      (subst (λ (s : Scene). LacksRoom at.blocks (state_of mounted s).current is_op.op free need) is.under.happened.behind (lacks free need indexes e same may freed)))))

  io_rises : (e : Event) (answer : Answer) → HowAnswered e answer → answer ≡ answers.Io → HasRisen at.faults now.faults
  io_rises e answer (ByStep indexes stepped same) io = absurd (never_io state.current is_op.op indexes answer stepped io)
  io_rises e answer (ByRoom free need indexes short same freed) io = absurd (let both : answers.NoSpace free need ≡ answers.Io = sym short ∙ io in cc)

  pub again_answered : (After : Mounted → Scene → Type 0) (size_now : ℕ) (marks_now : Marks) (next : Call) (free : ℕ) (names : List ℕ) (answer : Answer) → size_now ≡ size → marks_now ≡ marks
      → free ≡ free_blocks size used → IsFinished next → HasAnswered After mounted now.scene call next None free names answer
      → (later : Between) × IsCalled mounted call.caller call.request answer at later × IsBetween After size_now marks_now device count mounted later × (later.told ≡ now.told) × (later.faults ≡ now.faults)
  again_answered After size_now marks_now next free names answer same_size same_marks freed finished answered =
      let e : Event = answered.event in
      let how : HowAnswered e answer = how_answered After next free names answer freed answered in
      let around : IsAround size device count mounted call.caller now = record { others = is.under.others; held = is.under.held; knows = is.under.knows; image = is.under.image; blocks = is.under.happened.blocks ∙ is.under.blocks; has_super = is.under.has_super; fits = is.under.fits; whole = is.under.whole } in (
        with_event mounted now e Nothing,
        record {
          happenings = happenings ++ Comes e Nothing ∷ [];
          happened = event_more mounted call.caller at now happenings e Nothing is.under.happened answered.made.came.may (own After next e answered.made) (hands_nothing mounted);
          begins = begins_longer call.request happenings (Comes e Nothing ∷ []) is.under.begins;
          ends = ends_with e answer how answered.made.came.may.0;
          says = answered.answers;
          io = io_rises e answer how;
        },
        subst (λ n. IsBetween After n marks_now device count mounted (with_event mounted now e Nothing)) (sym same_size)
            (ends_between After size marks_now device count mounted now call next None e around (subst (λ m. AreMarks m device) (sym same_marks) is.agree) answered.made finished),
        refl,
        refl,
      )

  -- ---- what the turn did

  pub again_finished : (After : Mounted → Scene → Type 0) (Same : Type 0) (next : Call) (free : ℕ) (names : List ℕ) (answer : Answer) (did : Next) → did ≡ nexts.Finished answer
      → HasStepped After Same mounted now.scene call next None free names did → HasAnswered After mounted now.scene call next None free names answer
  again_finished After Same next free names answer did same stepped = of (subst (HasStepped After Same mounted now.scene call next None free names) same stepped)
    where
      of : HasStepped After Same mounted now.scene call next None free names (nexts.Finished answer) → HasAnswered After mounted now.scene call next None free names answer
      of (inl answered) = answered
      of (inr (stays, covered)) = absurd (some_none answer (sym covered.answers ∙ is.unanswered))

  again_moved : (After : Mounted → Scene → Type 0) (next : Call) → HasMoved After mounted now.scene call next None → ⊥
  again_moved After next moved = of (is_retry After next moved.event moved.made)
    where
      of : IsRetry call.caller is_op.op moved.event → ⊥
      of (Retries end indexes same) = some_none (answer_at end) (sym (says After next moved.event moved.made end indexes same) ∙ moved.goes_on)

  again_sealed : (After : Mounted → Scene → Type 0) (next : Call) (batch : Batch) → HasHandedOut After mounted now.scene call next None batch → ⊥
  again_sealed After next batch out = no_seal call.caller is_op.op (retries_by state call.caller (duty state past) is_op.op (event.SealFull call.caller) tries out.made.ruled)

  again_waits : (turn : Turn) (holder : ℕ) → HasToWait mounted now.scene call.caller turn holder → ⊥
  again_waits turn holder waits = absurd (let both : SealsFull ≡ TriesAgain is_op.op = sym waits.next ∙ tries in cc)

  -- nothing but an answer
  pub again_no_other : (After : Mounted → Scene → Type 0) (Same : Type 0) (next : Call) (free : ℕ) (names : List ℕ) (did : Next) → ((answer : Answer) → did ≡ nexts.Finished answer → ⊥)
      → HasStepped After Same mounted now.scene call next None free names did → ⊥
  again_no_other After Same next free names nexts.Moved other stepped = again_moved After next stepped
  again_no_other After Same next free names (nexts.Work (works.Part part)) other stepped = stepped
  again_no_other After Same next free names (nexts.Work (works.Finish batch)) other stepped = again_sealed After next batch stepped
  again_no_other After Same next free names (nexts.Waits turn holder) other stepped = again_waits turn holder stepped.2
  again_no_other After Same next free names (nexts.Finished answer) other stepped = other answer refl
