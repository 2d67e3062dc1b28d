-- A full commit that a call runs, from its seal to its return from the device.
use Rattle.std.proofs.Common.{◌≡◌, ◌⊎◌, ◌≤◌, ℕ, true, false, All, List, [], ◌∷◌, ◌++◌, length, Option, Some, None, Result, Ok, Err, IfOk, OnOk, OnErr, IsErrOf, IsErr, refl, sym, ap, subst, ◌∙◌, inl, inr, arith, append-nil}
use Rattle.std.proofs.lemmas.List.Elements.{All-nil, All-weaker}
use Rattle.std.specs.List.{flat_map}
use Rattle.batch_write.specs.Batch.{IsPlace}
use Rattle.blk_base.specs.declared.key.Marks.{Marks}
use Rattle.blk_base.specs.Trees.{AtBlock}
use Rattle.blk_base.proofs.ToldLemmas.{HasRisen-wider}
use Rattle.block_table.specs.declared.batch.Batch.{Batch}
use Rattle.block_table.specs.declared.batch.Part.{Part}
use Rattle.call_steps.proofs.Turns.{waiting_wants}
use Rattle.call_steps.proofs.Wanting.{IsWant, OfOp, OfSync, want_of, want_open, want_seals}
use Rattle.call_steps.specs.Orderly.{AreLogsFree, IsOrderly}
use Rattle.call_steps.specs.Standing.{IsAt, IsOver, WantsFull}
use Rattle.call_steps.specs.Steps.{HasHandedOut, HasMade, HandsOut, HasStepped, IsFullBatch, IsResultOf, MayStep, marks_after}
use Rattle.call_steps.specs.declared.call.Call.{Call}
use Rattle.call_steps.specs.declared.call.Stage.TheVariants as stages
use Rattle.call_steps.specs.declared.next.Next.{Next}
use Rattle.call_steps.specs.declared.next.Next.TheVariants as nexts
use Rattle.commit_core.specs.Coming.{IsDeviceCall, call_in, numbered, state_of}
use Rattle.commit_core.specs.Holding.{IsFullOf}
use Rattle.commit_core.specs.Sealed.{HavePlaces, IsReadyToWrite, StandsWhole}
use Rattle.commit_core.specs.declared.work.Outcome.{Outcome}
use Rattle.commit_core.specs.declared.work.Work.TheVariants as works
use Rattle.commit_device.proofs.Finishing.{by_result}
use Rattle.commit_device.proofs.Joined.{calls_keep}
use Rattle.commit_device.specs.Finish.{HasEnded, IsFinished, MayFinish}
use Rattle.commit_history.specs.Calls as history
use Rattle.commit_history.specs.Calls.{AsksFirst, AsksForFull, Duty, FollowsRules, FullFailed, FullWritten, GivesSlotUp, IsDone, IsRuled, Logs, Operates, OperatesAgain, PartFailed, PartGivenUp, PartWritten, Refuses, RootFailed, RootWritten, SealsFull, SealsLogs, SealsPart, SealsVolume, Syncs, WasShort, answer_of, call_of, duty}
use Rattle.commit_history.specs.Effects as effects
use Rattle.commit_history.specs.Legal.{HoldsFull, IsLegal}
use Rattle.commit_history.specs.State.{State}
use Rattle.commit_history.specs.declared.event.Cover.TheVariants as covers
use Rattle.commit_history.specs.declared.event.Event.{Event}
use Rattle.commit_history.specs.declared.event.Event.TheVariants as event
use Rattle.commit_images.specs.Admissible.{MayHappen}
use Rattle.commit_images.specs.Scene.{Comes, Commit, Handed, Happening, IsWritten, Mounted, Nothing, NotTried, Progress, Scene, scene_after, scene_behind}
use Rattle.commit_images.specs.Scene as scenes
use Rattle.device_side.specs.Device.{Device, IsNextFor, IsPart, after_done, after_tried, rewritten, to_write, unwritten}
use Rattle.device_side.specs.Finish.{IsFinishOf}
use Rattle.device_side.specs.Written.{MayBeWritten}
use Rattle.disk_model.specs.Disk.{HasCause, HasRisen, IfBoth, IfTold, Told}
use Rattle.disk_model.specs.declared.fault.DeviceFault.{DeviceFault}
use Rattle.disk_model.specs.declared.fault.DeviceFault.TheVariants as fault
use Rattle.flat_model.proofs.Maps.{some_none}
use Rattle.flat_model.specs.declared.answer.Answer.{Answer}
use Rattle.flat_model.specs.declared.request.Request.{Request}
use Rattle.volume_calls.specs.Between.{Between, IsDiskAt}
use Rattle.volume_calls.specs.Calls.{BeginWith, HaveHappened, IsCalled, IsLeft}
use Rattle.volume_calls.specs.Turns.{AreMarks, HasCommitBack, MayCommit}
use Rattle.volume_calls.proofs.Happened.{HandsStanding, event_more, finish_happened, happened_joined, with_calls, with_event}
use Rattle.volume_calls.proofs.Imagined.{LeavesDevice, image_stays, imagined}
use Rattle.volume_calls.proofs.Standing.{IsAround, around_more, waits_for_none}

-- ---- the seal

sealed_event : (state : State) (caller : ℕ) (does : Duty) (e : Event) → IsDone state caller does e → does ≡ SealsFull → e ≡ event.SealFull caller
sealed_event state caller does e (Operates op end indexes) is = absurd (cc)
sealed_event state caller does e (Refuses answer) is = absurd (cc)
sealed_event state caller does e (Logs end datasync) is = absurd (cc)
sealed_event state caller does e AsksFirst is = absurd (cc)
sealed_event state caller does e (OperatesAgain op end indexes) is = absurd (cc)
sealed_event state caller does e (PartWritten sub number none) is = absurd (cc)
sealed_event state caller does e (PartGivenUp sub number some) is = absurd (cc)
sealed_event state caller does e (PartFailed sub number) is = absurd (cc)
sealed_event state caller does e RootWritten is = absurd (cc)
sealed_event state caller does e (RootFailed tried) is = absurd (cc)
sealed_event state caller does e FullWritten is = absurd (cc)
sealed_event state caller does e (FullFailed tried) is = absurd (cc)
sealed_event state caller does e (SealsPart sub number) is = absurd (cc)
sealed_event state caller does e SealsLogs is = absurd (cc)
sealed_event state caller does e SealsVolume is = refl
sealed_event state caller does e (GivesSlotUp sub number) is = absurd (cc)
sealed_event state caller does e AsksForFull is = absurd (cc)

-- a seal hands out a batch
seals_something : (Has : Mounted → Scene → Type 0) (mounted : Mounted) (scene : Scene) (call next : Call) (done : Option Outcome) (e : Event) → HasMade Has mounted scene call next done e Nothing → duty (state_of mounted scene) (call_in mounted scene call.caller) ≡ SealsFull → ⊥
seals_something Has mounted scene call next done e made seals =
    let is : e ≡ event.SealFull call.caller = sealed_event (state_of mounted scene) call.caller (duty (state_of mounted scene) (call_in mounted scene call.caller)) e made.ruled seals in
    let may : MayHappen mounted scene (Comes (event.SealFull call.caller) Nothing) = subst (λ x. MayHappen mounted scene (Comes x Nothing)) is made.came.may in
    let handed = may.1 in
    (let both : scenes.Nothing ≡ scenes.Batch handed.blocks handed.commit = handed.is in cc)

-- a call that waits and isn't covered has no answer
open_has_none : (request : Request) (call : history.Call) (answer : Answer) → WantsFull request call.stage → call.cover ≡ covers.Open → answer_of call ≡ Some answer → ⊥
open_has_none request call answer wants is_open says = at (want_of request call.stage wants)
  where
    at : IsWant request call.stage → ⊥
    at (OfOp op sealed of is) = some_none answer (sym says ∙ ap (λ s. answer_of (record { stage = s; cover = call.cover; events = call.events })) is)
    at (OfSync sealed of is) =
        some_none answer (sym says ∙ ap (λ s. answer_of (record { stage = s; cover = call.cover; events = call.events })) is ∙ ap (λ c. answer_of (record { stage = Syncs sealed; cover = c; events = call.events })) is_open)

module _ (Has : Mounted → Scene → Type 0) (size : ℕ) (marks : Marks) (device : Device) (count : ℕ) (mounted : Mounted) (call : Call) (at now : Between) (happenings : List Happening) (may : MayCommit Has size marks device count mounted call at now happenings) where
  pub may_seal : (Out : Batch → Type 0) → MayStep Out mounted now.scene call None
  may_seal Out = record {
    orderly = may.under.orderly;
    at = may.under.stands;
    goes_on = λ finished. (let both : stages.Wants ≡ stages.Finished = sym may.under.waits ∙ finished in cc);
    back = may.apart;
  }

  wants : WantsFull call.request (call_in mounted now.scene call.caller).stage
  wants = waiting_wants mounted now.scene call may.under.stands may.under.waits

  its_seal : duty (state_of mounted now.scene) (call_in mounted now.scene call.caller) ≡ SealsFull
  its_seal = want_seals mounted now.scene may.under.orderly call.caller call.request wants may.uncovered may.apart

  -- its turn seals, and does nothing else
  pub seals_alone : (After : Mounted → Scene → Type 0) (Same : Type 0) (next : Call) (free : ℕ) (names : List ℕ) (step : Next) → HasStepped After Same mounted now.scene call next None free names step → (batch : Batch) × (step ≡ nexts.Work (works.Finish batch))
  seals_alone After Same next free names nexts.Moved stepped = absurd (seals_something After mounted now.scene call next None stepped.event stepped.made its_seal)
  seals_alone After Same next free names (nexts.Work (works.Part part)) stepped = absurd stepped
  seals_alone After Same next free names (nexts.Work (works.Finish batch)) stepped = (batch, refl)
  seals_alone After Same next free names (nexts.Waits turn holder) stepped =
      absurd (waits_for_none mounted now.scene call.caller turn holder call.request may.under.orderly wants may.uncovered may.apart may.under.others stepped.2)
  seals_alone After Same next free names (nexts.Finished answer) (inl answered) = absurd (seals_something After mounted now.scene call next None answered.event answered.made its_seal)
  seals_alone After Same next free names (nexts.Finished answer) (inr (same, covered)) =
      absurd (open_has_none call.request (call_in mounted now.scene call.caller) answer wants (want_open mounted now.scene may.under.orderly call.caller call.request wants may.uncovered) covered.answers)

-- ---- what a finish needs

pub writes_own : (device : Device) (batch : Batch) → batch.parts ≡ [] → to_write device batch ≡ batch.blocks.pairs
writes_own device batch none = ap (λ (parts : List Part). batch.blocks.pairs ++ flat_map (unwritten device) parts) none ∙ append-nil batch.blocks.pairs

pub has_no_parts : (batch : Batch) → batch.parts ≡ [] → All IsPart batch.parts
has_no_parts batch none = subst (All IsPart) (sym none) (All-nil IsPart)

places_more : (size count : ℕ) (device : Device) (batch : Batch) → size ≤ count → batch.parts ≡ [] → HavePlaces size batch.blocks.pairs → HavePlaces count (to_write device batch)
places_more size count device batch fits none places = subst (HavePlaces count) (sym (writes_own device batch none)) (record {
  places = All-weaker (λ (pair : AtBlock). IsPlace size pair.0) (λ (pair : AtBlock). IsPlace count pair.0) (λ pair place. record {
    inside = let x = place.inside in omega (arith, x, fits);
    not_super = place.not_super;
    whole = place.whole;
  }) batch.blocks.pairs places.places;
  once = places.once;
})

pub may_be_written : (size count : ℕ) (device : Device) (batch : Batch) → size ≤ count → batch.parts ≡ [] → HavePlaces size batch.blocks.pairs → MayBeWritten count (to_write device batch)
may_be_written size count device batch fits none places = let have = places_more size count device batch fits none places in record { places = have.places; once = have.once }

pub is_next : (marks : Marks) (device : Device) (batch : Batch) → AreMarks marks device → batch.marks ≡ marks → IsNextFor device batch
is_next marks device batch agree same = record { done = ap (λ (m : Marks). m.done) same ∙ agree.done; tried = ap (λ (m : Marks). m.tried) same ∙ agree.tried }

-- ---- what a finish leaves

pub leaves : (before after : Device) (batch : Batch) (result : Result (Unit {0}) DeviceFault) → OnOk result (after ≡ after_done before batch) → (IsErrOf result (fault.Disk true) → after ≡ after_tried before batch)
    → (IsErrOf result (fault.Disk false) → (after ≡ before) ⊎ (after ≡ rewritten before)) → LeavesDevice before after batch result
leaves before after batch (Ok done) ok tried untried = ok
leaves before after batch (Err (fault.Disk true)) ok tried untried = tried refl
leaves before after batch (Err (fault.Disk false)) ok tried untried = untried refl

-- the record behind it, which the disk tells, or one that goes with what happened
record_behind : (before after : Device) (batch : Batch) (result : Result (Unit {0}) DeviceFault) (old new : Option Told) (told : Told) → IfTold old (λ t. t ≡ told) → LeavesDevice before after batch result → IfBoth old new (IsFinishOf before after batch result)
    → (later : Told) × IfTold new (λ t. t ≡ later) × IsFinishOf before after batch result told later
record_behind before after batch result None None told is left goes = let made = imagined before after batch result told left in (made.0, tt, made.1)
record_behind before after batch result None (Some new) told is left goes = absurd goes
record_behind before after batch result (Some old) None told is left goes = absurd goes
record_behind before after batch result (Some old) (Some new) told is left goes = (new, refl, subst (λ t. IsFinishOf before after batch result t new) is goes)

marks_left : (marks : Marks) (before after : Device) (batch : Batch) (result : Result (Unit {0}) DeviceFault) → AreMarks marks before → LeavesDevice before after batch result
    → AreMarks (marks_after marks (Some (record { work = works.Finish batch; result = result }))) after
marks_left marks before after batch (Ok done) agree left = record { done = sym (ap (λ (d : Device). d.marks.done) left); tried = sym (ap (λ (d : Device). d.marks.tried) left) }
marks_left marks before after batch (Err (fault.Disk true)) agree left = record { done = agree.done ∙ sym (ap (λ (d : Device). d.marks.done) left); tried = sym (ap (λ (d : Device). d.marks.tried) left) }
marks_left marks before after batch (Err (fault.Disk false)) agree (inl left) = record { done = agree.done ∙ sym (ap (λ (d : Device). d.marks.done) left); tried = agree.tried ∙ sym (ap (λ (d : Device). d.marks.tried) left) }
marks_left marks before after batch (Err (fault.Disk false)) agree (inr left) = record { done = agree.done ∙ sym (ap (λ (d : Device). d.marks.done) left); tried = agree.tried ∙ sym (ap (λ (d : Device). d.marks.tried) left) }

result_of : (commit : Commit) (before behind : Scene) (result : Result (Unit {0}) DeviceFault) → HasEnded result commit before behind → IsResultOf behind result
result_of commit before behind (Ok done) ended = ended.0
result_of commit before behind (Err (fault.Disk true)) ended = record {
  not_written = λ is. (let both : scenes.HasFailed ≡ scenes.IsWritten = sym ended.0 ∙ is in cc);
  tells = sym (ap Rattle.commit_images.specs.Admissible.has_failed ended.0);
}
result_of commit before behind (Err (fault.Disk false)) ended = record {
  not_written = λ is. (let both : scenes.NotTried ≡ scenes.IsWritten = sym ended.0 ∙ is in cc);
  tells = sym (ap Rattle.commit_images.specs.Admissible.has_failed ended.0);
}

risen_by : (first before now : ℕ) (result : Result (Unit {0}) DeviceFault) → first ≤ before → HasCause before now result → IsErr result → HasRisen first now
risen_by first before now (Ok done) low cause failed = absurd cc
risen_by first before now (Err e) low cause failed = HasRisen-wider first before now now low (omega arith) cause.1

begins_more : (request : Request) (one two : List Happening) → BeginWith request one → BeginWith request (one ++ two)
begins_more request [] two begins = absurd begins
begins_more request (Comes e handed ∷ one) two begins = begins
begins_more request (scenes.Writes block bytes ok left ∷ one) two begins = absurd begins
begins_more request (scenes.Flushes ok ∷ one) two begins = absurd begins
begins_more request (scenes.WritesSuper ok left ∷ one) two begins = absurd begins
begins_more request (scenes.WritesAgain ok left ∷ one) two begins = absurd begins

orderly_same : (mounted : Mounted) (one two : Scene) → two.events ≡ one.events → IsOrderly mounted one → IsOrderly mounted two
orderly_same mounted one two same orderly = record {
  coherent = orderly.coherent;
  legal = subst (IsLegal mounted.volume) (sym same) orderly.legal;
  ruled = subst (IsRuled mounted.volume) (sym same) orderly.ruled;
  logs_free = subst (λ events. AreLogsFree (effects.state_of mounted.volume events)) (sym same) orderly.logs_free;
}

-- the call's commit is back, and the disk is where it says
pub record IsBackAt (Has : Mounted → Scene → Type 0) (Out : Batch → Type 0) (size : ℕ) (marks : Marks) (after : Device) (count : ℕ) (mounted : Mounted) (next : Call) (at : Between) (batch : Batch) (result : Result (Unit {0}) DeviceFault) (faults : ℕ) (told_now : Option Told) : Type 0 where
  pub later : Between
  pub made : List Happening
  pub back : HasCommitBack Has Out size marks after count mounted next at later made (record { work = works.Finish batch; result = result })
  pub told : IfTold told_now (λ t. t ≡ later.told)
  pub faults_are : faults ≡ later.faults

-- a full commit was sealed, and its finish gave this answer
module _ (Before Has : Mounted → Scene → Type 0) (Out : Batch → Type 0) (size : ℕ) (marks : Marks) (device after : Device) (count : ℕ) (mounted : Mounted) (call next : Call) (at now : Between) (happenings : List Happening)
    (may : MayCommit Before size marks device count mounted call at now happenings) (batch : Batch) (handed : HasHandedOut Has mounted now.scene call next None batch) (none : batch.parts ≡ []) (places : HavePlaces size batch.blocks.pairs) (out : Out batch)
    (caller_is : next.caller ≡ call.caller) (request_is : next.request ≡ call.request) where
  abbrev gives : Handed
  gives = scenes.Batch (numbered batch.blocks.pairs) handed.sealed.commit

  abbrev sealed : Between
  sealed = with_event mounted now (event.SealFull call.caller) gives

  stands_handed : HandsStanding mounted gives
  stands_handed blocks commit is =
      let same : handed.sealed.commit ≡ commit = (let both : scenes.Batch (numbered batch.blocks.pairs) handed.sealed.commit ≡ scenes.Batch blocks commit = is in cc) in
      subst (StandsWhole (length mounted.image)) same handed.sealed.stands

  around : IsAround size device count mounted call.caller sealed
  around = around_more size device count mounted call.caller now (event.SealFull call.caller) gives refl (record {
    others = may.under.others;
    held = may.under.held;
    knows = may.under.knows;
    image = may.under.image;
    blocks = may.under.happened.blocks ∙ may.under.blocks;
    has_super = may.under.has_super;
    fits = may.under.fits;
    whole = may.under.whole;
  })

  may_finish : MayFinish sealed.scene handed.sealed.commit device batch now.told
  may_finish = record {
    held = around.held;
    knows = around.knows;
    superblock = handed.sealed.superblock;
    places = subst (λ n. HavePlaces n (to_write device batch)) (sym (may.under.image ∙ may.under.whole)) (places_more size count device batch may.under.fits none places);
    ready = subst (λ pairs. IsReadyToWrite sealed.scene (numbered pairs) handed.sealed.commit) (sym (writes_own device batch none)) handed.sealed.ready;
  }

  module _ (result : Result (Unit {0}) DeviceFault) (faults : ℕ) (cause : HasCause now.faults faults result) (left : LeavesDevice device after batch result)
      (keeps : (mounted : Mounted) (scene : Scene) (happening : Happening) → Has mounted scene → IsDeviceCall happening → MayHappen mounted scene happening → Has mounted (scene_after mounted.volume scene happening)) where
    by_finish : (later : Told) (calls : List Happening) → IsFinished mounted sealed.scene handed.sealed.commit result after now.told later calls
        → HasCommitBack Has Out size marks after count mounted next at (with_calls mounted sealed calls later faults) ((happenings ++ Comes (event.SealFull call.caller) gives ∷ []) ++ calls) (record { work = works.Finish batch; result = result })
    by_finish later calls finished =
        let behind : Between = with_calls mounted sealed calls later faults in
        let first : List Happening = happenings ++ Comes (event.SealFull call.caller) gives ∷ [] in
        let all : HaveHappened mounted call.caller at behind (first ++ calls) =
        happened_joined mounted call.caller at sealed behind first calls
        (event_more mounted call.caller at now happenings (event.SealFull call.caller) gives may.under.happened handed.made.came.may refl stands_handed)
        (finish_happened mounted call.caller sealed handed.sealed.commit result after later faults calls cause.0 finished) in
        let past : (one : ℕ) → call_in mounted behind.scene one ≡ call_in mounted sealed.scene one = λ one. ap (λ events. call_of mounted.volume events one) finished.events in
        record {
          under = record {
            has = calls_keep Has keeps mounted sealed.scene calls handed.made.came.has finished.calls_alone finished.admissible;
            happened = subst (λ c. HaveHappened mounted c at behind (first ++ calls)) (sym caller_is) all;
            begins = subst (λ r. BeginWith r (first ++ calls)) (sym request_is) (begins_more call.request first calls (begins_more call.request happenings (Comes (event.SealFull call.caller) gives ∷ []) may.under.begins));
            orderly = orderly_same mounted sealed.scene behind.scene finished.events handed.made.orderly;
            stands = subst (IsAt next) (sym (past call.caller) ∙ ap (λ c. call_in mounted behind.scene c) (sym caller_is)) handed.made.stands;
            waits = handed.waits;
            others = λ other apart. subst IsOver (sym (past other)) (around.others other (λ same. apart (same ∙ sym caller_is)));
            held = finished.held;
            knows = finished.knows;
            image = image_stays now.told later finished.added finished.goes_on ∙ may.under.image;
            blocks = may.under.blocks;
            has_super = may.under.has_super;
            fits = may.under.fits;
            whole = may.under.whole;
          };
          agree = marks_left marks device after batch result may.agree left;
          back = record {
            batch = batch;
            work = refl;
            out = out;
            runs = subst (λ c. IsFullOf mounted behind.scene c) (sym caller_is) (subst (λ events. HoldsFull (effects.state_of mounted.volume events) call.caller) (sym finished.events) handed.made.turn);
            result = result_of handed.sealed.commit sealed.scene behind.scene result finished.ended;
          };
          just = (now.scene.events, finished.events ∙ ap (λ c. now.scene.events ++ event.SealFull c ∷ []) (sym caller_is));
          risen = risen_by at.faults now.faults faults result may.under.happened.counted cause;
        }

    pub commit_back : (old new : Option Told) → IfTold old (λ t. t ≡ now.told) → IfBoth old new (IsFinishOf device after batch result) → IsBackAt Has Out size marks after count mounted next at batch result faults new
    commit_back old new is goes =
        let behind = record_behind device after batch result old new now.told is left goes in
        let finished = by_result mounted sealed.scene handed.sealed.commit device after batch result now.told behind.0 may_finish behind.2 in
        record {
          later = with_calls mounted sealed finished.0 behind.0 faults;
          made = (happenings ++ Comes (event.SealFull call.caller) gives ∷ []) ++ finished.0;
          back = by_finish behind.0 finished.0 finished.1;
          told = behind.1;
          faults_are = refl;
        }

-- ---- the turn and the finish together

pub turn_back : (Before Has : Mounted → Scene → Type 0) (Out : Batch → Type 0) (size size_now : ℕ) (marks marks_now : Marks) (device after : Device) (count count_now : ℕ) (mounted : Mounted) (call next : Call) (at now : Between) (happenings : List Happening)
    → MayCommit Before size marks device count mounted call at now happenings → (Same : Type 0) (free : ℕ) (names : List ℕ) (step : Next) (batch : Batch) (fsid : List ℕ) (generation seals : ℕ)
    → HasStepped Has Same mounted now.scene call next None free names step → HandsOut (IsFullBatch size fsid generation seals marks) Out step → step ≡ nexts.Work (works.Finish batch)
    → size_now ≡ size → marks_now ≡ marks → count_now ≡ count → next.caller ≡ call.caller → next.request ≡ call.request
    → (result : Result (Unit {0}) DeviceFault) (before faults : ℕ) → before ≡ now.faults → HasCause before faults result → LeavesDevice device after batch result
    → ((mounted : Mounted) (scene : Scene) (happening : Happening) → Has mounted scene → IsDeviceCall happening → MayHappen mounted scene happening → Has mounted (scene_after mounted.volume scene happening))
    → (old new : Option Told) → IfTold old (λ t. t ≡ now.told) → IfBoth old new (IsFinishOf device after batch result)
    → IsBackAt Has Out size_now marks_now after count_now mounted next at batch result faults new
turn_back Before Has Out size size_now marks marks_now device after count count_now mounted call next at now happenings may Same free names step batch fsid generation seals stepped hands is same_size same_marks same_count caller_is request_is result before faults was cause left keeps old new told goes =
    let handed : HasHandedOut Has mounted now.scene call next None batch = subst (HasStepped Has Same mounted now.scene call next None free names) is stepped in
    let full : IsFullBatch size fsid generation seals marks batch × Out batch = subst (HandsOut (IsFullBatch size fsid generation seals marks) Out) is hands in
    let back : IsBackAt Has Out size marks after count mounted next at batch result faults new =
    commit_back Before Has Out size marks device after count mounted call next at now happenings may batch handed full.0.parts full.0.places full.1 caller_is request_is result faults (subst (λ f. HasCause f faults result) was cause) left keeps old new told goes in
    subst (λ n. IsBackAt Has Out n marks_now after count_now mounted next at batch result faults new) (sym same_size)
    (subst (λ m. IsBackAt Has Out size m after count_now mounted next at batch result faults new) (sym same_marks)
    (subst (λ n. IsBackAt Has Out size marks after n mounted next at batch result faults new) (sym same_count) back))

-- ---- what the end of it answers

told_so : (new : Option Told) (one two : Told) → two ≡ one → IfTold new (λ t. t ≡ one) → IfTold new (λ t. t ≡ two)
told_so None one two same is = tt
told_so (Some told) one two same is = is ∙ sym same

pub disk_at : (new : Option Told) (faults : ℕ) (later next : Between) → IfTold new (λ t. t ≡ later.told) → faults ≡ later.faults → next.told ≡ later.told → next.faults ≡ later.faults → IsDiskAt new faults next
disk_at new faults later next told are same_told same_faults = record { told = told_so new later.told next.told same_told told; faults = are ∙ sym same_faults }

pub called_so : {E : Type 0} (Now : Between → Type 0) (mounted : Mounted) (call next : Call) (at later : Between) (new : Option Told) (faults : ℕ) (result : Result Answer E) → next.caller ≡ call.caller → next.request ≡ call.request
    → IfTold new (λ t. t ≡ later.told) → faults ≡ later.faults
    → IfOk result (λ answer. (x : Between) × IsCalled mounted next.caller next.request answer at x × Now x × (x.told ≡ later.told) × (x.faults ≡ later.faults))
    → IfOk result (λ answer. (x : Between) × IsCalled mounted call.caller call.request answer at x × Now x × IsDiskAt new faults x)
called_so Now mounted call next at later new faults (Ok answer) caller_is request_is told are (x, called, between, same_told, same_faults) =
    (x, subst (λ r. IsCalled mounted call.caller r answer at x) request_is (subst (λ c. IsCalled mounted c next.request answer at x) caller_is called), between, disk_at new faults later x told are same_told same_faults)
called_so Now mounted call next at later new faults (Err e) caller_is request_is told are given = tt

pub left_so : {E : Type 0} (Now : Between → Type 0) (mounted : Mounted) (call next : Call) (at later : Between) (new : Option Told) (faults : ℕ) (result : Result Answer E) → next.caller ≡ call.caller → next.request ≡ call.request
    → IfTold new (λ t. t ≡ later.told) → faults ≡ later.faults
    → OnErr result ((x : Between) × IsLeft mounted next.caller next.request at x × Now x × (x.told ≡ later.told) × (x.faults ≡ later.faults))
    → OnErr result ((x : Between) × IsLeft mounted call.caller call.request at x × Now x × IsDiskAt new faults x)
left_so Now mounted call next at later new faults (Ok answer) caller_is request_is told are given = tt
left_so Now mounted call next at later new faults (Err e) caller_is request_is told are (x, left, kept, same_told, same_faults) =
    (x, subst (λ r. IsLeft mounted call.caller r at x) request_is (subst (λ c. IsLeft mounted c next.request at x) caller_is left), kept, disk_at new faults later x told are same_told same_faults)
