-- The turn of a call whose full commit is back from the device.
use Rattle.std.proofs.Common.{◌≡◌, ◌≢◌, ◌≤◌, ◌<◌, ℕ, Bool, List, [], ◌∷◌, ◌++◌, length, Option, Some, None, Result, Ok, Err, refl, sym, ap, subst, ◌∙◌, inl, inr}
use Rattle.std.specs.Prelude.{IsErr}
use Rattle.blk_base.specs.declared.key.Marks.{Marks}
use Rattle.block_table.specs.declared.batch.Batch.{Batch}
use Rattle.call_steps.proofs.Behind.{call_behind, state_behind}
use Rattle.call_steps.proofs.Turns.{waiting_wants}
use Rattle.call_steps.proofs.Wanting.{IsWant, OfOp, OfSync, call_at, holder_ends, holder_open, want_of}
use Rattle.call_steps.specs.declared.call.Call.{Call}
use Rattle.call_steps.specs.declared.call.Stage.TheVariants as stages
use Rattle.call_steps.specs.declared.next.Next.{Next}
use Rattle.call_steps.specs.declared.next.Next.TheVariants as nexts
use Rattle.commit_core.specs.declared.work.Work.{Work}
use Rattle.commit_core.specs.declared.work.Work.TheVariants as works
use Rattle.call_steps.specs.Standing.{IsAt, IsFinished}
use Rattle.call_steps.specs.Steps.{EndsBy, HasAnswered, HasHandedOut, HasMade, HasMoved, HasStepped, HasToWait, IsCovered, IsSaid, LeavesFew, MayStep, answer_behind, marks_after}
use Rattle.commit_core.specs.Coming.{call_in, state_of}
use Rattle.commit_core.specs.Few.{HasFew}
use Rattle.commit_core.specs.Holding.{IsFullOf}
use Rattle.commit_core.specs.declared.work.Outcome.{Outcome}
use Rattle.commit_history.specs.Calls as history
use Rattle.commit_history.specs.Calls.{AsksFirst, AsksForFull, Duty, EndsFull, FullFailed, FullWritten, GivesSlotUp, IsDone, Logs, Operates, OperatesAgain, PartFailed, PartGivenUp, PartWritten, Refuses, RootFailed, RootWritten, SealsFull, SealsLogs, SealsPart, SealsVolume, Syncs, WasShort, answer_of, caller_of, counted, covered_by, duty}
use Rattle.commit_history.specs.Effects.{after}
use Rattle.commit_history.specs.Legal.{shown}
use Rattle.commit_history.specs.State.{FullCommit, RootCommit, State}
use Rattle.commit_history.specs.declared.event.Cover.TheVariants as covers
use Rattle.commit_history.specs.declared.event.Event.{Event}
use Rattle.commit_history.specs.declared.event.Event.TheVariants as event
use Rattle.commit_history.specs.declared.event.Turn.{Turn}
use Rattle.commit_history.specs.declared.event.Turn.TheVariants as turns
use Rattle.commit_history.specs.Survival.{next_volumes, volume_by_root}
use Rattle.commit_images.specs.Scene.{Comes, Happening, Mounted, Nothing, Scene, batch_after, scene_after}
use Rattle.device_side.specs.Device.{Device}
use Rattle.disk_model.specs.Disk.{HasRisen}
use Rattle.disk_model.specs.declared.fault.DeviceFault.{DeviceFault}
use Rattle.disk_model.specs.declared.fault.DeviceFault.TheVariants as faults
use Rattle.flat_model.proofs.Maps.{some_none, some_same}
use Rattle.flat_model.specs.declared.answer.Answer.{Answer}
use Rattle.flat_model.specs.declared.answer.Answer.TheVariants as answers
use Rattle.flat_model.specs.declared.request.Request.{Request}
use Rattle.flat_model.specs.declared.request.Request.TheVariants as requests
use Rattle.flat_model.specs.Volume.{Volume}
use Rattle.volume_calls.specs.Between.{Between, IsBetween}
use Rattle.volume_calls.specs.Calls.{BeginWith, DeviceFailed, EndWith, HaveHappened, IsCalled, Synced}
use Rattle.volume_calls.specs.Turns.{AreMarks, HasCommitBack, IsCommitted}
use Rattle.volume_calls.proofs.Happened.{event_more, hands_nothing, with_event}
use Rattle.volume_calls.proofs.Standing.{IsAround, ends_between, made_by, others_stay}

-- ---- events that end a full commit

-- it is written, or it failed
data IsEnd (caller : ℕ) (e : Event) : Type 0 where
  IsWritten : e ≡ event.FullDone caller → IsEnd caller e
  HasFailed : (tried : Bool) → e ≡ event.Failed caller turns.Full tried → IsEnd caller e

ends_by : (state : State) (caller : ℕ) (does : Duty) (e : Event) → does ≡ EndsFull → IsDone state caller does e → IsEnd caller e
ends_by state caller does e is (Operates op end indexes) = absurd cc
ends_by state caller does e is (Refuses answer) = absurd cc
ends_by state caller does e is (Logs end datasync) = absurd cc
ends_by state caller does e is AsksFirst = absurd cc
ends_by state caller does e is (OperatesAgain op end indexes) = absurd cc
ends_by state caller does e is (PartWritten sub number none) = absurd cc
ends_by state caller does e is (PartGivenUp sub number some) = absurd cc
ends_by state caller does e is (PartFailed sub number) = absurd cc
ends_by state caller does e is RootWritten = absurd cc
ends_by state caller does e is (RootFailed tried) = absurd cc
ends_by state caller does e is FullWritten = IsWritten refl
ends_by state caller does e is (FullFailed tried) = HasFailed tried refl
ends_by state caller does e is (SealsPart sub number) = absurd cc
ends_by state caller does e is SealsLogs = absurd cc
ends_by state caller does e is SealsVolume = absurd cc
ends_by state caller does e is (GivesSlotUp sub number) = absurd cc
ends_by state caller does e is AsksForFull = absurd cc

-- a commit that failed, by what the device answered
failed_err : (result : Result (Unit {0}) DeviceFault) (caller : ℕ) (tried : Bool) → EndsBy result (event.Failed caller turns.Full tried) → IsErr result
failed_err (Ok done) caller tried ends = absurd ends
failed_err (Err (faults.Disk was)) caller tried ends = refl

no_seal : (result : Result (Unit {0}) DeviceFault) (caller : ℕ) → EndsBy result (event.SealFull caller) → ⊥
no_seal (Ok done) caller ends = ends
no_seal (Err (faults.Disk was)) caller ends = ends

-- what is behind a list that begins a call begins it, too
pub begins_longer : (request : Request) (happenings more : List Happening) → BeginWith request happenings → BeginWith request (happenings ++ more)
begins_longer request [] more begins = absurd begins
begins_longer request (Comes e handed ∷ happenings) more begins = begins
begins_longer request (Rattle.commit_images.specs.Scene.Writes at bytes ok left ∷ happenings) more begins = absurd begins
begins_longer request (Rattle.commit_images.specs.Scene.Flushes ok ∷ happenings) more begins = absurd begins
begins_longer request (Rattle.commit_images.specs.Scene.WritesSuper ok left ∷ happenings) more begins = absurd begins
begins_longer request (Rattle.commit_images.specs.Scene.WritesAgain ok left ∷ happenings) more begins = absurd begins

-- no full commit runs once it is done
done_none : (state : State) (caller : ℕ) → (after state (event.FullDone caller)).full ≡ None
unfolding after
done_none state caller = refl

none_next : (state : State) → state.root ≡ None → state.full ≡ None → next_volumes state ≡ []
none_next state root full =
    ap (λ (o : Option RootCommit). (elim o as (λ p. List Volume) [ None ↦ [] | Some root ↦ volume_by_root state root ∷ [] ]) ++ (elim state.full as (λ p. List Volume) [ None ↦ [] | Some full ↦ full.volume ∷ [] ])) root
    ∙ ap (λ (o : Option FullCommit). elim o as (λ p. List Volume) [ None ↦ [] | Some full ↦ full.volume ∷ [] ]) full

module _ (Has : Mounted → Scene → Type 0) (Out : Batch → Type 0) (size : ℕ) (marks : Marks) (device : Device) (count : ℕ) (mounted : Mounted) (call : Call) (at now : Between) (happenings : List Happening)
    (outcome : Outcome) (is : HasCommitBack Has Out size marks device count mounted call at now happenings outcome) where
  abbrev state : State
  state = state_of mounted now.scene

  abbrev past : history.Call
  past = call_in mounted now.scene call.caller

  wants : IsWant call.request past.stage
  wants = want_of call.request past.stage (waiting_wants mounted now.scene call is.under.stands is.under.waits)

  open_ : past.cover ≡ covers.Open
  open_ = holder_open mounted now.scene is.under.orderly call.caller is.back.runs

  ends : duty state past ≡ EndsFull
  ends = holder_ends mounted now.scene is.under.orderly call.caller is.back.runs

  pub back_may_step : MayStep Out mounted now.scene call (Some outcome)
  back_may_step = record {
    orderly = is.under.orderly;
    at = is.under.stands;
    goes_on = λ finished. absurd (let both : stages.Wants ≡ stages.Finished = sym is.under.waits ∙ finished in cc);
    back = is.back;
  }

  -- ---- what can't come

  no_answer : answer_of past ≡ None
  no_answer = of wants
    where
      of : IsWant call.request past.stage → answer_of past ≡ None
      of (OfOp op sealed asked stage) = ap (λ s. answer_of (call_at s past.cover past.events)) stage
      of (OfSync sealed asked stage) = ap (λ s. answer_of (call_at s past.cover past.events)) stage ∙ ap (λ c. answer_of (call_at (Syncs sealed) c past.events)) open_

  pub back_not_covered : (answer : Answer) → IsCovered mounted now.scene call answer → ⊥
  back_not_covered answer covered = some_none answer (sym covered.answers ∙ no_answer)

  pub back_not_waiting : (turn : Turn) (holder : ℕ) → HasToWait mounted now.scene call.caller turn holder → ⊥
  back_not_waiting turn holder waits = absurd (let both : SealsFull ≡ EndsFull = sym waits.next ∙ ends in cc)

  pub back_not_sealed : (After : Mounted → Scene → Type 0) (next : Call) (batch : Batch) → HasHandedOut After mounted now.scene call next (Some outcome) batch → ⊥
  back_not_sealed After next batch out = no_seal outcome.result call.caller out.made.tells

  -- ---- the event

  module _ (After : Mounted → Scene → Type 0) (next : Call) (e : Event) (made : HasMade After mounted now.scene call next (Some outcome) e Nothing) where
    is_end : IsEnd call.caller e
    is_end = ends_by state call.caller (duty state past) e ends made.ruled

    own : caller_of e ≡ call.caller
    own = made_by After mounted now.scene call next (Some outcome) e Nothing made

    behind : call_in mounted (scene_after mounted.volume now.scene (Comes e Nothing)) call.caller ≡ history.after_own state call.caller past e
    behind = call_behind mounted now.scene e Nothing call.caller (sym own)

    happened_more : HaveHappened mounted call.caller at (with_event mounted now e Nothing) (happenings ++ Comes e Nothing ∷ [])
    happened_more = event_more mounted call.caller at now happenings e Nothing is.under.happened made.came.may own (hands_nothing mounted)

    around : IsAround size device count mounted call.caller now
    around = record { others = is.under.others; held = is.under.held; knows = is.under.knows; image = is.under.image; blocks = is.under.happened.blocks ∙ is.under.blocks; has_super = is.under.has_super; fits = is.under.fits; whole = is.under.whole }

    -- behind a commit that is done, its caller's call
    covered_call : e ≡ event.FullDone call.caller → call_in mounted (scene_after mounted.volume now.scene (Comes e Nothing)) call.caller ≡ counted (call_at past.stage covers.Full past.events)
    covered_call done = behind ∙ ap (history.after_own state call.caller past) done ∙ ap (λ c. counted (covered_by true_ covers.Full (call_at past.stage c past.events))) open_
      where
        true_ : Bool
        true_ = Rattle.std.proofs.Common.true

    -- behind a failure the call has answered
    failed_answer : (tried : Bool) → e ≡ event.Failed call.caller turns.Full tried → answer_behind mounted now.scene call.caller e ≡ Some answers.Io
    failed_answer tried failed = ap answer_of (behind ∙ ap (history.after_own state call.caller past) failed)

  -- ---- the call has answered

  -- a sync, since its commit is done; or either, since the device failed
  data HowAnswered (e : Event) (answer : Answer) : Type 0 where
    BySync : call.request ≡ requests.Sync → answer ≡ answers.Sync → e ≡ event.FullDone call.caller → HowAnswered e answer
    ByFailure : (tried : Bool) → answer ≡ answers.Io → e ≡ event.Failed call.caller turns.Full tried → IsErr outcome.result → HowAnswered e answer

  how_answered : (After : Mounted → Scene → Type 0) (next : Call) (free : ℕ) (names : List ℕ) (answer : Answer) → (answered : HasAnswered After mounted now.scene call next (Some outcome) free names answer)
      → HowAnswered answered.event answer
  how_answered After next free names answer answered = of (is_end After next answered.event answered.made)
    where
      of : IsEnd call.caller answered.event → HowAnswered answered.event answer
      of (HasFailed tried failed) = ByFailure tried
          (sym (subst (λ x. IsSaid state.current free names x answer) failed answered.said) ∙ some_same (shown answer) answers.Io (sym answered.answers ∙ failed_answer After next answered.event answered.made tried failed))
          failed (failed_err outcome.result call.caller tried (subst (EndsBy outcome.result) failed answered.made.tells))
      of (IsWritten done) = asks wants
        where
          told : answer_of (counted (call_at past.stage covers.Full past.events)) ≡ Some (shown answer)
          told = ap answer_of (sym (covered_call After next answered.event answered.made done)) ∙ answered.answers

          asks : IsWant call.request past.stage → HowAnswered answered.event answer
          asks (OfOp op sealed asked stage) = absurd (some_none (shown answer) (sym told ∙ ap (λ s. answer_of (counted (call_at s covers.Full past.events))) stage))
          asks (OfSync sealed asked stage) = BySync asked
              (sym (subst (λ x. IsSaid state.current free names x answer) done answered.said) ∙ some_same (shown answer) answers.Sync (sym told ∙ ap (λ s. answer_of (counted (call_at s covers.Full past.events))) stage)) done

  ends_with : (e : Event) (answer : Answer) → HowAnswered e answer → EndWith mounted at call.caller call.request answer (happenings ++ Comes e Nothing ∷ [])
  ends_with e answer (BySync asked sync done) =
      subst (λ r. EndWith mounted at call.caller r answer (happenings ++ Comes e Nothing ∷ [])) (sym asked)
      (subst (λ a. EndWith mounted at call.caller requests.Sync a (happenings ++ Comes e Nothing ∷ [])) (sym sync)
      (subst (λ x. EndWith mounted at call.caller requests.Sync answers.Sync (happenings ++ Comes x Nothing ∷ [])) (sym done) (Synced happenings)))
  ends_with e answer (ByFailure tried io failed err) =
      subst (λ a. EndWith mounted at call.caller call.request a (happenings ++ Comes e Nothing ∷ [])) (sym io)
      (subst (λ x. EndWith mounted at call.caller call.request answers.Io (happenings ++ Comes x Nothing ∷ [])) (sym failed) (DeviceFailed tried happenings))

  io_rises : (e : Event) (answer : Answer) → HowAnswered e answer → answer ≡ answers.Io → HasRisen at.faults now.faults
  io_rises e answer (BySync asked sync done) io = absurd (let both : answers.Sync ≡ answers.Io = sym sync ∙ io in cc)
  io_rises e answer (ByFailure tried same failed err) io = is.risen err

  pub back_answered : (After : Mounted → Scene → Type 0) (size_now : ℕ) (marks_now : Marks) (next : Call) (free : ℕ) (names : List ℕ) (answer : Answer) → size_now ≡ size → marks_now ≡ marks_after marks (Some outcome)
      → IsFinished next → HasAnswered After mounted now.scene call next (Some outcome) free names answer
      → (later : Between) × IsCalled mounted call.caller call.request answer at later × IsBetween After size_now marks_now device count mounted later × (later.told ≡ now.told) × (later.faults ≡ now.faults)
  back_answered After size_now marks_now next free names answer same_size same_marks finished answered =
      let e : Event = answered.event in
      let how : HowAnswered e answer = how_answered After next free names answer answered in (
        with_event mounted now e Nothing,
        record {
          happenings = happenings ++ Comes e Nothing ∷ [];
          happened = happened_more After next e answered.made;
          begins = begins_longer call.request happenings (Comes e Nothing ∷ []) is.under.begins;
          ends = ends_with e answer how;
          says = answered.answers;
          io = io_rises e answer how;
        },
        subst (λ n. IsBetween After n marks_now device count mounted (with_event mounted now e Nothing)) (sym same_size)
            (ends_between After size marks_now device count mounted now call next (Some outcome) e (around After next e answered.made) (subst (λ m. AreMarks m device) (sym same_marks) is.agree) answered.made finished),
        refl,
        refl,
      )

  -- ---- an operation that is covered now

  moved_done : (After : Mounted → Scene → Type 0) (next : Call) (moved : HasMoved After mounted now.scene call next (Some outcome)) → moved.event ≡ event.FullDone call.caller
  moved_done After next moved = of (is_end After next moved.event moved.made)
    where
      of : IsEnd call.caller moved.event → moved.event ≡ event.FullDone call.caller
      of (IsWritten done) = done
      of (HasFailed tried failed) = absurd (some_none answers.Io (sym (failed_answer After next moved.event moved.made tried failed) ∙ moved.goes_on))

  pub back_moved : (After : Mounted → Scene → Type 0) (size_now used : ℕ) (marks_now : Marks) (next : Call) → size_now ≡ size → marks_now ≡ marks_after marks (Some outcome) → next.caller ≡ call.caller → next.request ≡ call.request
      → (moved : HasMoved After mounted now.scene call next (Some outcome)) → HasFew mounted (scene_after mounted.volume now.scene (Comes (event.FullDone call.caller) Nothing)) used
      → IsCommitted After size_now used marks_now device count mounted next at (with_event mounted now moved.event Nothing) (happenings ++ Comes moved.event Nothing ∷ [])
  back_moved After size_now used marks_now next same_size same_marks same_caller same_request moved few =
      let e : Event = moved.event in
      let later : Scene = scene_after mounted.volume now.scene (Comes e Nothing) in
      let done : e ≡ event.FullDone call.caller = moved_done After next moved in
      let same_call = ap (call_in mounted later) same_caller in
      record {
        under = record {
          has = moved.made.came.has;
          happened = subst (λ c. HaveHappened mounted c at (with_event mounted now e Nothing) (happenings ++ Comes e Nothing ∷ [])) (sym same_caller) (happened_more After next e moved.made);
          begins = subst (λ r. BeginWith r (happenings ++ Comes e Nothing ∷ [])) (sym same_request) (begins_longer call.request happenings (Comes e Nothing ∷ []) is.under.begins);
          orderly = moved.made.orderly;
          stands = subst (IsAt next) (sym same_call) moved.made.stands;
          waits = moved.waits;
          others = λ other apart. others_stay mounted now.scene call.caller e Nothing (own After next e moved.made) is.under.others other (λ same. apart (same ∙ sym same_caller));
          held = is.under.held;
          knows = is.under.knows;
          image = is.under.image;
          blocks = is.under.blocks ∙ sym same_size;
          has_super = subst (λ n. 16 < n) (sym same_size) is.under.has_super;
          fits = subst (λ n. n ≤ count) (sym same_size) is.under.fits;
          whole = is.under.whole;
        };
        agree = subst (λ m. AreMarks m device) (sym same_marks) is.agree;
        idle = ap (λ (volumes : List Volume). batch_after now.scene.batch volumes Nothing)
            (none_next (state_of mounted later) moved.made.orderly.logs_free.root_is_free (ap (λ (s : State). s.full) (state_behind mounted now.scene e Nothing ∙ ap (after state) done) ∙ done_none state call.caller));
        apart = subst (λ c. IsFullOf mounted later c → ⊥) (sym same_caller) moved.made.turn;
        covered = ap (λ (c : history.Call). c.cover) (same_call ∙ covered_call After next e moved.made done);
        unanswered = ap answer_of same_call ∙ moved.goes_on;
        few = subst (λ x. HasFew mounted (scene_after mounted.volume now.scene (Comes x Nothing)) used) (sym done) few;
      }

  -- ---- what the turn did

  pub at_moved : (After : Mounted → Scene → Type 0) (Same : Type 0) (next : Call) (free : ℕ) (names : List ℕ) (did : Next) → did ≡ nexts.Moved → HasStepped After Same mounted now.scene call next (Some outcome) free names did
      → HasMoved After mounted now.scene call next (Some outcome)
  at_moved After Same next free names did same stepped = subst (HasStepped After Same mounted now.scene call next (Some outcome) free names) same stepped

  -- few blocks are in use behind it
  pub at_few : (count : ℕ) (did : Next) → did ≡ nexts.Moved → LeavesFew mounted now.scene call.caller count (Some outcome) did
      → HasFew mounted (scene_after mounted.volume now.scene (Comes (event.FullDone call.caller) Nothing)) count
  at_few count did same few = subst (LeavesFew mounted now.scene call.caller count (Some outcome)) same few

  pub at_finished : (After : Mounted → Scene → Type 0) (Same : Type 0) (next : Call) (free : ℕ) (names : List ℕ) (answer : Answer) (did : Next) → did ≡ nexts.Finished answer
      → HasStepped After Same mounted now.scene call next (Some outcome) free names did → HasAnswered After mounted now.scene call next (Some outcome) free names answer
  at_finished After Same next free names answer did same stepped = of (subst (HasStepped After Same mounted now.scene call next (Some outcome) free names) same stepped)
    where
      of : HasStepped After Same mounted now.scene call next (Some outcome) free names (nexts.Finished answer) → HasAnswered After mounted now.scene call next (Some outcome) free names answer
      of (inl answered) = answered
      of (inr (stays, covered)) = absurd (back_not_covered answer covered)

  pub no_work : (After : Mounted → Scene → Type 0) (Same : Type 0) (next : Call) (free : ℕ) (names : List ℕ) (work : Work) (did : Next) → did ≡ nexts.Work work
      → HasStepped After Same mounted now.scene call next (Some outcome) free names did → ⊥
  no_work After Same next free names work did same stepped = of work (subst (HasStepped After Same mounted now.scene call next (Some outcome) free names) same stepped)
    where
      of : (w : Work) → HasStepped After Same mounted now.scene call next (Some outcome) free names (nexts.Work w) → ⊥
      of (works.Part part) it = it
      of (works.Finish batch) it = back_not_sealed After next batch it

  pub no_wait : (After : Mounted → Scene → Type 0) (Same : Type 0) (next : Call) (free : ℕ) (names : List ℕ) (turn : Turn) (holder : ℕ) (did : Next) → did ≡ nexts.Waits turn holder
      → HasStepped After Same mounted now.scene call next (Some outcome) free names did → ⊥
  no_wait After Same next free names turn holder did same stepped =
      let it : HasStepped After Same mounted now.scene call next (Some outcome) free names (nexts.Waits turn holder) = subst (HasStepped After Same mounted now.scene call next (Some outcome) free names) same stepped in
      back_not_waiting turn holder it.2
