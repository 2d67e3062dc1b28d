-- The first turn of a call.
use Rattle.std.proofs.Common.{◌≡◌, ◌||◌, ◌≢◌, ℕ, Bool, false, List, [], ◌∷◌, ◌++◌, Option, Some, None, Result, Ok, Err, OnErr, refl, sym, ap, subst, ◌∙◌, inl, inr}
use Rattle.std.proofs.lemmas.Bool.{true≢false}
use Rattle.blk_base.specs.declared.key.Marks.{Marks}
use Rattle.block_table.specs.declared.batch.Batch.{Batch}
use Rattle.call_steps.proofs.Behind.{call_behind}
use Rattle.call_steps.proofs.Wanting.{not_full, over_asks, over_begins}
use Rattle.call_steps.specs.declared.call.Call.{Call}
use Rattle.call_steps.specs.declared.call.Stage.TheVariants as stages
use Rattle.call_steps.specs.declared.next.Next.TheVariants as nexts
use Rattle.call_steps.specs.Standing.{IsAt, IsFinished, IsNew, IsOver}
use Rattle.call_steps.specs.Steps.{HasAnswered, HasMoved, HasStepped, IsFirst, IsOfCall, IsSaid, MayStep}
use Rattle.commit_core.specs.Coming.{call_in, state_of}
use Rattle.commit_core.specs.declared.work.Work.{Work}
use Rattle.commit_core.specs.declared.work.Work.TheVariants as works
use Rattle.commit_core.specs.Holding.{IsFullOf}
use Rattle.commit_history.specs.Calls as history
use Rattle.commit_history.specs.Calls.{AsksFirst, Begins, IsDone, Logs, Operates, Refuses, SealsFull, after_own, answer_of, caller_of, duty}
use Rattle.commit_history.specs.contracts.event.Cover.{the_type}
use Rattle.commit_history.specs.declared.event.Cover.{Cover}
use Rattle.commit_history.specs.declared.event.Cover.TheVariants as covers
use Rattle.commit_history.specs.declared.event.Event.{Event}
use Rattle.commit_history.specs.declared.event.Event.TheVariants as event
use Rattle.commit_history.specs.declared.event.OpEnd.TheVariants as ends
use Rattle.commit_history.specs.declared.event.Turn.{Turn}
use Rattle.commit_history.specs.Legal.{shown}
use Rattle.commit_history.specs.State.{State}
use Rattle.commit_history.specs.Effects.{state_of as state_behind}
use Rattle.commit_history.specs.Survival.{next_volumes}
use Rattle.commit_images.specs.Scene.{Comes, Commit, Happening, Mounted, Nothing, Scene, batch_after, scene_after}
use Rattle.device_side.specs.Device.{Device}
use Rattle.disk_model.specs.Disk.{IfTold, Told}
use Rattle.flat_laws.proofs.Answered.{step_says}
use Rattle.flat_model.proofs.Maps.{some_none, some_same}
use Rattle.flat_model.specs.declared.answer.Answer.{Answer}
use Rattle.flat_model.specs.declared.answer.Answer.TheVariants as answers
use Rattle.flat_model.specs.declared.op.Op.{Op}
use Rattle.flat_model.specs.declared.request.Request.{Request}
use Rattle.flat_model.specs.declared.request.Request.TheVariants as requests
use Rattle.flat_model.specs.Refusal.{is_done, is_refusal}
use Rattle.flat_model.specs.Step.{step}
use Rattle.flat_model.specs.Volume.{RunVolume, Volume}
use Rattle.volume_calls.specs.Between.{Between, IsBetween, IsDiskAt}
use Rattle.volume_calls.specs.Calls.{EndWith, HaveHappened, IsCalled, IsLeft, Operated}
use Rattle.volume_calls.specs.Turns.{AreMarks, IsUnderWay, MayCommit}
use Rattle.volume_calls.proofs.Happened.{event_happened, hands_nothing, nothing_happened, with_event}
use Rattle.volume_calls.proofs.Standing.{IsAround, ends_between, made_by, others_stay, over_holds_none}

-- an operation doesn't answer that the device failed
never_io : (run : RunVolume) (op : Op) (indexes : List ℕ) (answer : Answer) → answer ≡ (step run op indexes).answer → answer ≡ answers.Io → ⊥
never_io run op indexes answer is io =
    let same : answers.Io ≡ (step run op indexes).answer = sym io ∙ is in
    true≢false (sym (step_says run op indexes) ∙ ap (λ a. is_done a || is_refusal a) (sym same))

-- the first event of a call is no seal
no_seal : (request : Request) (caller : ℕ) → IsFirst request (event.SealFull caller) → ⊥
no_seal (requests.Op op) caller is = is
no_seal (requests.Fsync place) caller is = is
no_seal (requests.Fdatasync place) caller is = is
no_seal requests.Sync caller is = is

-- behind the first event no commit has covered the call
first_open : (state : State) (caller : ℕ) (past : history.Call) (e : Event) → IsOver past → IsDone state caller Begins e → (after_own state caller past e).cover ≡ covers.Open
first_open state caller past _ over (Operates op end indexes) = refl
first_open state caller past _ over (Refuses answer) = refl
first_open state caller past _ over (Logs end datasync) = refl
first_open state caller past _ over AsksFirst = ap (λ (c : history.Call). c.cover) (over_asks past state.failures over)

open_not_full : (cover : Cover) → cover ≡ covers.Open → cover ≢ covers.Full
open_not_full cover uncovered = not_full cover (ap (λ c. denote.Enum.Bare.sameb the_type c covers.Full) uncovered)

-- where no commit ran, none runs behind an event that hands out nothing
still_idle : (batch : Option Commit) (next : List Volume) → batch ≡ None → batch_after batch next Nothing ≡ None
still_idle batch [] none = refl
still_idle batch (volume ∷ volumes) none = none

-- ---- the operation that answered

pub record IsFirstTry (request : Request) (state : State) (caller : ℕ) (e : Event) (answer : Answer) : Type 0 where
  pub op : Op
  pub indexes : List ℕ
  pub of : request ≡ requests.Op op
  pub is : e ≡ event.Op caller op false (ends.Answered (shown answer)) indexes
  pub said : answer ≡ (step state.current op indexes).answer

first_op : (request : Request) (state : State) (caller : ℕ) (op : Op) (indexes : List ℕ) (answer : Answer) → IsFirst request (event.Op caller op false (ends.Answered (shown answer)) indexes)
    → answer ≡ (step state.current op indexes).answer → IsFirstTry request state caller (event.Op caller op false (ends.Answered (shown answer)) indexes) answer
first_op (requests.Op asked) state caller op indexes answer first said = record { op = op; indexes = indexes; of = ap (λ (o : Op). requests.Op o) (sym first); is = refl; said = said }
first_op (requests.Fsync place) state caller op indexes answer first said = absurd first
first_op (requests.Fdatasync place) state caller op indexes answer first said = absurd first
first_op requests.Sync state caller op indexes answer first said = absurd first

no_refusal : (request : Request) (caller : ℕ) (target : Rattle.flat_model.specs.declared.place.Place.Place) (answer : Answer) → IsFirst request (event.Refused caller target answer) → ⊥
no_refusal (requests.Op op) caller target answer is = is
no_refusal (requests.Fsync place) caller target answer is = is
no_refusal (requests.Fdatasync place) caller target answer is = is
no_refusal requests.Sync caller target answer is = is

no_log : (request : Request) (caller : ℕ) (sub : Rattle.blk_base.specs.declared.key.SubId.SubId) (ino : Rattle.blk_base.specs.declared.key.Ino.Ino) (end : Rattle.commit_history.specs.declared.event.Logged.Logged) (datasync : Bool)
    → IsFirst request (event.Log caller sub ino end datasync) → ⊥
no_log (requests.Op op) caller sub ino end datasync is = is
no_log (requests.Fsync place) caller sub ino end datasync is = is
no_log (requests.Fdatasync place) caller sub ino end datasync is = is
no_log requests.Sync caller sub ino end datasync is = is

first_answered : (request : Request) (state : State) (caller : ℕ) (past : history.Call) (e : Event) (answer : Answer) (free : ℕ) (names : List ℕ) → IsOver past → IsDone state caller Begins e → IsFirst request e
    → answer_of (after_own state caller past e) ≡ Some (shown answer) → IsSaid state.current free names e answer → IsFirstTry request state caller e answer
first_answered request state caller past _ answer free names over (Operates op (ends.Answered told) indexes) first answers said =
    let same : told ≡ shown answer = some_same told (shown answer) answers in
    subst (λ (t : Answer). IsFirstTry request state caller (event.Op caller op false (ends.Answered t) indexes) answer) (sym same)
    (first_op request state caller op indexes answer (subst (λ (t : Answer). IsFirst request (event.Op caller op false (ends.Answered t) indexes)) same first) said.0)
first_answered request state caller past _ answer free names over (Operates op (ends.Short room need) indexes) first answers said = absurd (some_none (shown answer) (sym answers))
first_answered request state caller past _ answer free names over (Refuses {target} told) first answers said = absurd (no_refusal request caller target told first)
first_answered request state caller past _ answer free names over (Logs {sub} {ino} end datasync) first answers said = absurd (no_log request caller sub ino end datasync first)
first_answered request state caller past _ answer free names over AsksFirst first answers said =
    absurd (some_none (shown answer) (sym answers ∙ ap answer_of (over_asks past state.failures over)))

-- ---- the turn

module _ (Was Has : Mounted → Scene → Type 0) (size : ℕ) (marks : Marks) (device : Device) (count : ℕ) (mounted : Mounted) (at : Between) (call : Call)
    (between : IsBetween Was size marks device count mounted at) (stands : IsAt call (call_in mounted at.scene call.caller)) (new : IsNew call) where
  abbrev state : State
  state = state_of mounted at.scene

  abbrev past : history.Call
  past = call_in mounted at.scene call.caller

  over : IsOver past
  over = between.goes.over call.caller

  begins : duty state past ≡ Begins
  begins = over_begins state past over

  apart : (one : ℕ) → IsFullOf mounted at.scene one → ⊥
  apart one = over_holds_none mounted at.scene between.goes.orderly one (between.goes.over one)

  agree : AreMarks marks device
  agree = record { done = between.done; tried = between.tried }

  around : IsAround size device count mounted call.caller at
  around = record {
    others = λ other a. between.goes.over other;
    held = between.goes.held;
    knows = between.goes.knows;
    image = between.goes.size;
    blocks = between.blocks;
    has_super = between.has_super;
    fits = between.fits;
    whole = between.whole;
  }

  first : (e : Event) → IsOfCall call.stage call.request e → IsFirst call.request e
  first e asked = subst (λ s. IsOfCall s call.request e) new asked

  rules : (e : Event) → IsDone state call.caller (duty state past) e → IsDone state call.caller Begins e
  rules e ruled = subst (λ d. IsDone state call.caller d e) begins ruled

  pub may_begin : (Out : Batch → Type 0) → MayStep Out mounted at.scene call None
  may_begin Out = record {
    orderly = between.goes.orderly;
    at = stands;
    goes_on = λ finished. absurd (let both : stages.New ≡ stages.Finished = sym new ∙ finished in cc);
    back = apart call.caller;
  }

  pub no_work : (Same : Type 0) (next : Call) (free : ℕ) (names : List ℕ) (work : Work) → HasStepped Has Same mounted at.scene call next None free names (nexts.Work work) → ⊥
  no_work Same next free names (works.Part part) stepped = stepped
  no_work Same next free names (works.Finish batch) stepped = no_seal call.request call.caller (first (event.SealFull call.caller) stepped.made.asked)

  pub no_wait : (Same : Type 0) (next : Call) (free : ℕ) (names : List ℕ) (turn : Turn) (holder : ℕ) → HasStepped Has Same mounted at.scene call next None free names (nexts.Waits turn holder) → ⊥
  no_wait Same next free names turn holder stepped = absurd (let both : Begins ≡ SealsFull = sym begins ∙ stepped.2.next in cc)

  by_event : (next : Call) (free : ℕ) (names : List ℕ) (answer : Answer) → IsFinished next → HasAnswered Has mounted at.scene call next None free names answer
      → (now : Between) × IsCalled mounted call.caller call.request answer at now × IsBetween Has size marks device count mounted now × (now.told ≡ at.told) × (now.faults ≡ at.faults)
  by_event next free names answer finished h =
      let own : caller_of h.event ≡ call.caller = made_by Has mounted at.scene call next None h.event Nothing h.made in
      let try : IsFirstTry call.request state call.caller h.event answer = first_answered call.request state call.caller past h.event answer free names over (rules h.event h.made.ruled) (first h.event h.made.asked)
      (sym (ap answer_of (call_behind mounted at.scene h.event Nothing call.caller (sym own))) ∙ h.answers) h.said in (
        with_event mounted at h.event Nothing,
        record {
          happenings = Comes h.event Nothing ∷ [];
          happened = event_happened mounted call.caller at h.event Nothing h.made.came.may own (hands_nothing mounted);
          begins = first h.event h.made.asked;
          ends = subst (λ r. EndWith mounted at call.caller r answer (Comes h.event Nothing ∷ [])) (sym try.of)
              (subst (λ e. EndWith mounted at call.caller (requests.Op try.op) answer (Comes e Nothing ∷ [])) (sym try.is) (Operated try.op false try.indexes answer [] try.said));
          says = h.answers;
          io = λ io. absurd (never_io state.current try.op try.indexes answer try.said io);
        },
        ends_between Has size marks device count mounted at call next None h.event around agree h.made finished,
        refl,
        refl,
      )

  pub answered : (Same : Type 0) (next : Call) (free : ℕ) (names : List ℕ) (answer : Answer) → IsFinished next → HasStepped Has Same mounted at.scene call next None free names (nexts.Finished answer)
      → (now : Between) × IsCalled mounted call.caller call.request answer at now × IsBetween Has size marks device count mounted now × (now.told ≡ at.told) × (now.faults ≡ at.faults)
  answered Same next free names answer finished (inl h) = by_event next free names answer finished h
  answered Same next free names answer finished (inr covered) = absurd (let both : stages.New ≡ stages.Wants = sym new ∙ covered.1.waits in cc)

  pub moved : (next : Call) → next.caller ≡ call.caller → next.request ≡ call.request → (m : HasMoved Has mounted at.scene call next None)
      → MayCommit Has size marks device count mounted next at (with_event mounted at m.event Nothing) (Comes m.event Nothing ∷ [])
  moved next caller request m =
      let e : Event = m.event in
      let behind : Scene = scene_after mounted.volume at.scene (Comes e Nothing) in
      let own : caller_of e ≡ call.caller = made_by Has mounted at.scene call next None e Nothing m.made in
      record {
        under = record {
          has = m.made.came.has;
          happened = subst (λ c. HaveHappened mounted c at (with_event mounted at e Nothing) (Comes e Nothing ∷ [])) (sym caller)
              (event_happened mounted call.caller at e Nothing m.made.came.may own (hands_nothing mounted));
          begins = subst (λ r. IsFirst r e) (sym request) (first e m.made.asked);
          orderly = m.made.orderly;
          stands = subst (λ c. IsAt next (call_in mounted behind c)) (sym caller) m.made.stands;
          waits = m.waits;
          others = λ other a. others_stay mounted at.scene call.caller e Nothing own (λ one b. between.goes.over one) other (λ same. a (same ∙ sym caller));
          held = between.goes.held;
          knows = between.goes.knows;
          image = between.goes.size;
          blocks = between.blocks;
          has_super = between.has_super;
          fits = between.fits;
          whole = between.whole;
        };
        agree = agree;
        idle = still_idle at.scene.batch (next_volumes (state_behind mounted.volume (at.scene.events ++ e ∷ []))) between.goes.idle;
        apart = λ holds. m.made.turn (subst (λ c. IsFullOf mounted behind c) caller holds);
        uncovered = subst (λ c. (call_in mounted behind c).cover ≢ covers.Full) (sym caller)
            (open_not_full (call_in mounted behind call.caller).cover (ap (λ (c : history.Call). c.cover) (call_behind mounted at.scene e Nothing call.caller (sym own)) ∙ first_open state call.caller past e over (rules e m.made.ruled)));
      }

-- ---- what stays

pub same_disk : (told : Option Told) (faults : ℕ) (at now : Between) → now.told ≡ at.told → now.faults ≡ at.faults → IsDiskAt told faults at → IsDiskAt told faults now
same_disk told faults at now same_told same_faults disk = record {
  told = subst (λ t. IfTold told (λ known. known ≡ t)) (sym same_told) disk.told;
  faults = disk.faults ∙ sym same_faults;
}

-- no event came, for want of memory
pub left_at_once : (mounted : Mounted) (caller : ℕ) (request : Request) (at : Between) → IsLeft mounted caller request at at
left_at_once mounted caller request at = record { happenings = []; happened = nothing_happened mounted caller at; begins = inl refl }

-- at an error there is such a moment
pub on_err : {A E : Type 0} (result : Result A E) (Left Now Rest : Between → Type 0) (x : Between) → Left x → Now x → Rest x
    → OnErr result ((y : Between) × Left y × Now y × Rest y)
on_err (Ok value) Left Now Rest x left now rest = tt
on_err (Err error) Left Now Rest x left now rest = (x, left, now, rest)

pub at_err : {A E : Type 0} (result : Result A E) (Left Now Same Counted : Between → Type 0) (x : Between) → Left x → Now x → Same x → Counted x
    → OnErr result ((y : Between) × Left y × Now y × Same y × Counted y)
at_err (Ok value) Left Now Same Counted x left now same counted = tt
at_err (Err error) Left Now Same Counted x left now same counted = (x, left, now, same, counted)

-- no event came any more, for want of memory
pub left_under : (Has : Mounted → Scene → Type 0) (size : ℕ) (device : Device) (count : ℕ) (mounted : Mounted) (call : Call) (at now : Between) (happenings : List Happening)
    → IsUnderWay Has size device count mounted call at now happenings → IsLeft mounted call.caller call.request at now
left_under Has size device count mounted call at now happenings under = record { happenings = happenings; happened = under.happened; begins = inr under.begins }
