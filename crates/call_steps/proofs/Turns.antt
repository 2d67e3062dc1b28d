-- What each turn of a call does, from the event that came in it.
use Rattle.std.proofs.Common.{◌≡◌, ◌≢◌, ℕ, ◌+◌, Bool, true, false, List, Option, Some, None, Result, Ok, Err, IfOk, refl, sym, ap, subst, ◌∙◌, inl, inr}
use Rattle.block_table.specs.declared.batch.Batch.{Batch}
use Rattle.disk_model.specs.declared.fault.DeviceFault.{DeviceFault}
use Rattle.disk_model.specs.declared.fault.DeviceFault.TheVariants as faults
use Rattle.flat_model.specs.declared.answer.Answer.{Answer}
use Rattle.flat_model.specs.declared.answer.Answer.TheVariants as answers
use Rattle.flat_model.specs.declared.op.Op.{Op}
use Rattle.flat_model.specs.declared.request.Request.{Request}
use Rattle.flat_model.specs.declared.request.Request.TheVariants as requests
use Rattle.commit_history.specs.declared.event.Event.{Event}
use Rattle.commit_history.specs.declared.event.Event.TheVariants as event
use Rattle.commit_history.specs.declared.event.Cover.TheVariants as covers
use Rattle.commit_history.specs.declared.event.OpEnd.{OpEnd}
use Rattle.commit_history.specs.declared.event.OpEnd.TheVariants as ends
use Rattle.commit_history.specs.declared.event.Turn.TheVariants as turns
use Rattle.commit_history.specs.State.{FullCommit, State}
use Rattle.commit_history.specs.Effects.{after}
use Rattle.commit_history.specs.Legal.{HoldsFull, MaySealFull, shown}
use Rattle.commit_history.specs.Calls as history
use Rattle.commit_history.specs.Calls.{AsksFirst, Begins, Duty, EndsFull, FullFailed, FullWritten, IsDone, Operates, OperatesAgain, SealsFull, SealsVolume, Stage, Syncs, TriesAgain, WasShort, after_own, answer_of, begun, caller_of, covered_by, duty, op_stage}
use Rattle.commit_images.specs.Scene.{Comes, Handed, Mounted, Nothing, Scene, scene_after}
use Rattle.commit_images.specs.Scene as scenes
use Rattle.commit_core.specs.Coming.{HasCome, IsOpDone, call_in, numbered, state_of}
use Rattle.commit_core.specs.Few.{HasFew}
use Rattle.commit_core.specs.declared.work.Outcome.{Outcome}
use Rattle.commit_core.specs.Holding.{HasFailed, full_holder, holder_of}
use Rattle.commit_core.specs.Sealed.{IsSealedFull}
use Rattle.call_steps.specs.declared.call.Call.{Call}
use Rattle.call_steps.specs.declared.call.Stage as own
use Rattle.call_steps.specs.declared.call.Stage.TheVariants as stages
use Rattle.call_steps.specs.Standing.{IsAt, IsNew, IsOver, IsWaiting, StandsAt, WantsFull}
use Rattle.call_steps.specs.Orderly.{AreLogsFree, IsOrderly}
use Rattle.call_steps.specs.declared.next.Next.{Next}
use Rattle.call_steps.specs.declared.next.Next.TheVariants as nexts
use Rattle.call_steps.specs.Steps.{HasAnswered, HasHandedOut, HasMade, HasMoved, HasStepped, HasToWait, IsFirst, IsLater, IsOfCall, LeavesFew, RunsWith, EndsBy, TellsEnd, IsResultOf, MayStep, answer_behind}
use Rattle.call_steps.proofs.Behind.{ask_frees, ask_holds, call_behind, done_frees, done_holds_none, failure_frees, failure_holds_none, op_frees, op_holds, order_behind, seal_frees, seal_holds, state_behind}
use Rattle.call_steps.proofs.Wanting.{IsWant, OfOp, OfSync, call_at, over_asks, over_begins, sealed_stays, want_is_there, want_of, want_seals, holder_ends, holder_open}

abbrev pub with_stage : Call → own.Stage → Call
with_stage call stage = record call { stage = stage }

module _ (Has : Mounted → Scene → Type 0) (mounted : Mounted) (scene : Scene) (call : Call) (orderly : IsOrderly mounted scene) (at : IsAt call (call_in mounted scene call.caller)) where
  abbrev state : State
  state = state_of mounted scene

  abbrev past : history.Call
  past = call_in mounted scene call.caller

  -- ---- an event of the call

  module _ (stage : own.Stage) (e : Event) (own : call.caller ≡ caller_of e) where
    behind : (handed : Handed) → StandsAt stage call.request (after_own state call.caller past e)
        → IsAt (with_stage call stage) (call_in mounted (scene_after mounted.volume scene (Comes e handed)) call.caller)
    behind handed stands = record {
      from_one = at.from_one;
      to_sixteen = at.to_sixteen;
      allowed = at.allowed;
      stands = subst (StandsAt stage call.request) (sym (call_behind mounted scene e handed call.caller own)) stands;
    }

    made : (done : Option Outcome) (handed : Handed) → TellsEnd done e → HasCome Has mounted scene e handed → IsDone state call.caller (duty state past) e → IsOfCall call.stage call.request e → AreLogsFree (after state e)
        → StandsAt stage call.request (after_own state call.caller past e) → RunsWith handed (HoldsFull (after state e) call.caller) → HasMade Has mounted scene call (with_stage call stage) done e handed
    made outcome handed tells came does asked frees stands turn = record {
      came = came;
      ruled = does;
      asked = asked;
      tells = tells;
      stands = behind handed stands;
      turn = subst (λ s. RunsWith handed (HoldsFull s call.caller)) (sym (state_behind mounted scene e handed)) turn;
      orderly = order_behind mounted scene e handed call.caller own orderly came.may.0 does frees;
    }

    answers_none : answer_of (after_own state call.caller past e) ≡ None → answer_behind mounted scene call.caller e ≡ None
    answers_none none = ap answer_of (call_behind mounted scene e Nothing call.caller own) ∙ none

    answers_so : (answer : Answer) → answer_of (after_own state call.caller past e) ≡ Some answer → answer_behind mounted scene call.caller e ≡ Some answer
    answers_so answer is = ap answer_of (call_behind mounted scene e Nothing call.caller own) ∙ is

  moved : (done : Option Outcome) (e : Event) → call.caller ≡ caller_of e → HasMade Has mounted scene call (with_stage call stages.Wants) done e Nothing → answer_of (after_own state call.caller past e) ≡ None → HasMoved Has mounted scene call (with_stage call stages.Wants) done
  moved outcome e own is none = record { event = e; made = is; goes_on = answers_none stages.Wants e own none; waits = refl }

  -- the duty of a call that begins
  begins : (e : Event) → IsOver past → IsDone state call.caller Begins e → IsDone state call.caller (duty state past) e
  begins e over does = subst (λ d. IsDone state call.caller d e) (sym (over_begins state past over)) does

  -- ---- an operation

  module _ (op : Op) (of : call.request ≡ requests.Op op) where
    -- its first try
    module _ (is_new : IsNew call) (apart : HoldsFull state call.caller → ⊥) (over : IsOver past) where
      first_try : (end : OpEnd) (indexes : List ℕ) → IsOfCall call.stage call.request (event.Op call.caller op false end indexes)
      first_try end indexes = subst (λ s. IsOfCall s call.request (event.Op call.caller op false end indexes)) (sym is_new) (subst (λ r. IsFirst r (event.Op call.caller op false end indexes)) (sym of) refl)

      pub op_answered : (end : OpEnd) (indexes : List ℕ) (answer : Answer) (free : ℕ) → IsOpDone Has mounted scene call.caller op false end indexes → end ≡ ends.Answered answer
          → HasAnswered Has mounted scene call (with_stage call stages.Finished) None free indexes answer
      op_answered end indexes answer free done is =
          let own_done : IsOpDone Has mounted scene call.caller op false (ends.Answered answer) indexes = subst (λ e. IsOpDone Has mounted scene call.caller op false e indexes) is done in
          let e : Event = event.Op call.caller op false (ends.Answered (shown answer)) indexes in
          record {
            event = e;
            made = made stages.Finished e refl None Nothing tt own_done.came (begins e over (Operates op (ends.Answered (shown answer)) indexes)) (first_try (ends.Answered (shown answer)) indexes)
                (op_frees state orderly.logs_free call.caller op false (ends.Answered (shown answer)) indexes) (inr (shown answer, refl)) (λ holds. apart (op_holds state call.caller call.caller op false (ends.Answered (shown answer)) indexes holds));
            answers = answers_so stages.Finished e refl (shown answer) refl;
            said = (own_done.said answer refl, refl);
          }

      pub op_short : (end : OpEnd) (indexes : List ℕ) (free need : ℕ) → IsOpDone Has mounted scene call.caller op false end indexes → end ≡ ends.Short free need
          → HasMoved Has mounted scene call (with_stage call stages.Wants) None
      op_short end indexes free need done is =
          let own_done : IsOpDone Has mounted scene call.caller op false (ends.Short free need) indexes = subst (λ e. IsOpDone Has mounted scene call.caller op false e indexes) is done in
          let e : Event = event.Op call.caller op false (ends.Short free need) indexes in
          moved None e refl (made stages.Wants e refl None Nothing tt own_done.came (begins e over (Operates op (ends.Short free need) indexes)) (first_try (ends.Short free need) indexes)
          (op_frees state orderly.logs_free call.caller op false (ends.Short free need) indexes) (subst (λ r. WantsFull r (WasShort op false)) (sym of) (false, refl)) (λ holds. apart (op_holds state call.caller call.caller op false (ends.Short free need) indexes holds))) refl

    -- its second try
    module _ (waits : IsWaiting call) (apart : HoldsFull state call.caller → ⊥) (wants : WantsFull call.request past.stage) (covered : past.cover ≡ covers.Full) where
      second_try : (end : OpEnd) (indexes : List ℕ) → IsOfCall call.stage call.request (event.Op call.caller op true end indexes)
      second_try end indexes = subst (λ s. IsOfCall s call.request (event.Op call.caller op true end indexes)) (sym waits) (subst (λ r. IsLater r (event.Op call.caller op true end indexes)) (sym of) refl)

      again_stage : (sealed : Bool) × (past.stage ≡ WasShort op sealed)
      again_stage = subst (λ r. WantsFull r past.stage) of wants

      tries_again : (e : Event) → IsDone state call.caller (TriesAgain op) e → IsDone state call.caller (duty state past) e
      tries_again e does = subst (λ d. IsDone state call.caller d e) (sym (ap (λ c. duty state (call_at past.stage c past.events)) covered ∙ ap (λ s. duty state (call_at s covers.Full past.events)) again_stage.1)) does

      pub again_answered : (end : OpEnd) (indexes : List ℕ) (answer : Answer) (free : ℕ) → IsOpDone Has mounted scene call.caller op true end indexes → end ≡ ends.Answered answer
          → HasAnswered Has mounted scene call (with_stage call stages.Finished) None free indexes answer
      again_answered end indexes answer free done is =
          let own_done : IsOpDone Has mounted scene call.caller op true (ends.Answered answer) indexes = subst (λ e. IsOpDone Has mounted scene call.caller op true e indexes) is done in
          let e : Event = event.Op call.caller op true (ends.Answered (shown answer)) indexes in
          record {
            event = e;
            made = made stages.Finished e refl None Nothing tt own_done.came (tries_again e (OperatesAgain op (ends.Answered (shown answer)) indexes)) (second_try (ends.Answered (shown answer)) indexes)
                (op_frees state orderly.logs_free call.caller op true (ends.Answered (shown answer)) indexes) (inr (shown answer, refl)) (λ holds. apart (op_holds state call.caller call.caller op true (ends.Answered (shown answer)) indexes holds));
            answers = answers_so stages.Finished e refl (shown answer) refl;
            said = (own_done.said answer refl, refl);
          }

      pub again_short : (end : OpEnd) (indexes : List ℕ) (told need free : ℕ) → IsOpDone Has mounted scene call.caller op true end indexes → end ≡ ends.Short told need → told ≡ free
          → HasAnswered Has mounted scene call (with_stage call stages.Finished) None free indexes (answers.NoSpace told need)
      again_short end indexes told need free done is true_free =
          let own_done : IsOpDone Has mounted scene call.caller op true (ends.Short told need) indexes = subst (λ e. IsOpDone Has mounted scene call.caller op true e indexes) is done in
          let e : Event = event.Op call.caller op true (ends.Short told need) indexes in
          record {
            event = e;
            made = made stages.Finished e refl None Nothing tt own_done.came (tries_again e (OperatesAgain op (ends.Short told need) indexes)) (second_try (ends.Short told need) indexes)
                (op_frees state orderly.logs_free call.caller op true (ends.Short told need) indexes) (inr (answers.NoSpace told need, refl)) (λ holds. apart (op_holds state call.caller call.caller op true (ends.Short told need) indexes holds));
            answers = answers_so stages.Finished e refl (answers.NoSpace told need) refl;
            said = (refl, true_free);
          }

  -- ---- a sync

  module _ (of : call.request ≡ requests.Sync) where
    pub sync_asked : IsNew call → (HoldsFull state call.caller → ⊥) → IsOver past → HasCome Has mounted scene (event.Ask call.caller) Nothing → HasMoved Has mounted scene call (with_stage call stages.Wants) None
    sync_asked is_new apart over came =
        let e : Event = event.Ask call.caller in
        let is : after_own state call.caller past e ≡ begun (Syncs false) = over_asks past state.failures over in
        moved None e refl (made stages.Wants e refl None Nothing tt came (begins e over AsksFirst) (subst (λ s. IsOfCall s call.request e) (sym is_new) (subst (λ r. IsFirst r e) (sym of) tt)) (ask_frees state orderly.logs_free call.caller)
        (subst (λ r. WantsFull r (after_own state call.caller past e).stage) (sym of) (false, ap (λ (c : history.Call). c.stage) is)) (λ holds. apart (ask_holds state call.caller call.caller holds))) (ap answer_of is)

  -- ---- the seal of the whole volume, and the wait for it

  commit_of_request : (request : Request) (caller : ℕ) → IsLater request (event.SealFull caller)
  commit_of_request (requests.Op op) caller = tt
  commit_of_request (requests.Fsync place) caller = tt
  commit_of_request (requests.Fdatasync place) caller = tt
  commit_of_request requests.Sync caller = tt

  done_of_request : (request : Request) (caller : ℕ) → IsLater request (event.FullDone caller)
  done_of_request (requests.Op op) caller = tt
  done_of_request (requests.Fsync place) caller = tt
  done_of_request (requests.Fdatasync place) caller = tt
  done_of_request requests.Sync caller = tt

  failure_of_request : (request : Request) (caller : ℕ) (tried : Bool) → IsLater request (event.Failed caller turns.Full tried)
  failure_of_request (requests.Op op) caller tried = tt
  failure_of_request (requests.Fsync place) caller tried = tt
  failure_of_request (requests.Fdatasync place) caller tried = tt
  failure_of_request requests.Sync caller tried = tt

  module _ (waits : IsWaiting call) where
    pub wants_full : WantsFull call.request past.stage
    wants_full = subst (λ s. StandsAt s call.request past) waits at.stands

    later : (e : Event) → IsLater call.request e → IsOfCall call.stage call.request e
    later e is = subst (λ s. IsOfCall s call.request e) (sym waits) is

    module _ (uncovered : past.cover ≢ covers.Full) (apart : HoldsFull state call.caller → ⊥) where
      pub sealed_out : (batch : Batch) → IsSealedFull Has mounted scene call.caller batch → HasHandedOut Has mounted scene call (with_stage call stages.Wants) None batch
      sealed_out batch sealed =
          let e : Event = event.SealFull call.caller in
          record {
            sealed = sealed;
            made = made stages.Wants e refl None (scenes.Batch (numbered batch.blocks.pairs) sealed.commit) tt sealed.came
                (subst (λ d. IsDone state call.caller d e) (sym (want_seals mounted scene orderly call.caller call.request wants_full uncovered apart)) SealsVolume)
                (later e (commit_of_request call.request call.caller)) (seal_frees state orderly.logs_free call.caller) (sealed_stays call.request past.stage wants_full) (seal_holds state call.caller);
            waits = refl;
          }

      -- where it may not seal, another caller runs a full commit
      waits_for : (full : Option FullCommit) → state.full ≡ full → (MaySealFull state call.caller → ⊥) → (commit : FullCommit) × (state.full ≡ Some commit) × (commit.holder ≢ call.caller)
      waits_for None e may_not = absurd (may_not (record {
        wanted = want_is_there mounted scene orderly call.caller call.request wants_full uncovered apart;
        no_slot_is_busy = orderly.logs_free.no_slot_is_busy;
        root_is_free = orderly.logs_free.root_is_free;
        full_is_free = e;
      }))
      waits_for (Some commit) e may_not =
          (commit, e, λ same. apart (record { commit = commit; runs = e; own = same }))

      pub full_is_held : (MaySealFull state call.caller → ⊥) → (holder : ℕ) × (holder_of state turns.Full ≡ Some holder) × (holder ≢ call.caller)
      full_is_held may_not = let held = waits_for state.full refl may_not in (held.0.holder, ap (λ full. full_holder full state.wants) held.1, held.2)

      pub has_to_wait : (holder : ℕ) → (MaySealFull state call.caller → ⊥) → holder_of state turns.Full ≡ Some holder → HasToWait mounted scene call.caller turns.Full holder
      has_to_wait holder may_not is =
          let held = full_is_held may_not in
          let same : held.0 ≡ holder = cc (sym held.1 ∙ is) in
          record {
            next = want_seals mounted scene orderly call.caller call.request wants_full uncovered apart;
            may_not = may_not;
            held = is;
            by_other = λ own. held.2 (same ∙ own);
          }

    -- ---- the end of the call's own full commit

    module _ (holds : HoldsFull state call.caller) (outcome : Outcome) where
      ends_full : (e : Event) → IsDone state call.caller EndsFull e → IsDone state call.caller (duty state past) e
      ends_full e does = subst (λ d. IsDone state call.caller d e) (sym (holder_ends mounted scene orderly call.caller holds)) does

      done_call : after_own state call.caller past (event.FullDone call.caller) ≡ call_at past.stage covers.Full (past.events + 1)
      done_call = ap (λ c. history.counted (covered_by true covers.Full (call_at past.stage c past.events))) (holder_open mounted scene orderly call.caller holds)

      module _ (is_done : EndsBy outcome.result (event.FullDone call.caller)) (came : HasCome Has mounted scene (event.FullDone call.caller) Nothing) where
        done_made : (stage : own.Stage) → StandsAt stage call.request (after_own state call.caller past (event.FullDone call.caller))
            → HasMade Has mounted scene call (with_stage call stage) (Some outcome) (event.FullDone call.caller) Nothing
        done_made stage stands = made stage (event.FullDone call.caller) refl (Some outcome) Nothing is_done came (ends_full (event.FullDone call.caller) FullWritten) (later (event.FullDone call.caller) (done_of_request call.request call.caller))
            (done_frees state orderly.logs_free call.caller) stands (done_holds_none state call.caller call.caller)

        pub op_done : (op : Op) → call.request ≡ requests.Op op → HasMoved Has mounted scene call (with_stage call stages.Wants) (Some outcome)
        op_done op of =
            let e : Event = event.FullDone call.caller in
            let stage : (sealed : Bool) × (past.stage ≡ WasShort op sealed) = subst (λ r. WantsFull r past.stage) of wants_full in
            moved (Some outcome) e refl (done_made stages.Wants (subst (λ (c : history.Call). WantsFull call.request c.stage) (sym done_call) wants_full))
            (ap answer_of done_call ∙ ap (λ s. answer_of (call_at s covers.Full (past.events + 1))) stage.1)

        pub sync_done : (free : ℕ) (names : List ℕ) → call.request ≡ requests.Sync → HasAnswered Has mounted scene call (with_stage call stages.Finished) (Some outcome) free names answers.Sync
        sync_done free names of =
            let e : Event = event.FullDone call.caller in
            let stage : (sealed : Bool) × (past.stage ≡ Syncs sealed) = subst (λ r. WantsFull r past.stage) of wants_full in
            let is : answer_of (after_own state call.caller past e) ≡ Some answers.Sync = ap answer_of done_call ∙ ap (λ s. answer_of (call_at s covers.Full (past.events + 1))) stage.1 in
            record {
              event = e;
              made = done_made stages.Finished (inr (answers.Sync, is));
              answers = answers_so stages.Finished e refl answers.Sync is;
              said = refl;
            }

      pub commit_failed : (tried : Bool) (free : ℕ) (names : List ℕ) → HasCome Has mounted scene (event.Failed call.caller turns.Full tried) Nothing → EndsBy outcome.result (event.Failed call.caller turns.Full tried) → HasAnswered Has mounted scene call (with_stage call stages.Finished) (Some outcome) free names answers.Io
      commit_failed tried free names came is_failure =
          let e : Event = event.Failed call.caller turns.Full tried in
          record {
            event = e;
            made = made stages.Finished e refl (Some outcome) Nothing is_failure came (ends_full e (FullFailed tried)) (later e (failure_of_request call.request call.caller tried)) (failure_frees state orderly.logs_free call.caller tried) (inr (answers.Io, refl))
                (failure_holds_none state call.caller tried holds);
            answers = answers_so stages.Finished e refl answers.Io refl;
            said = refl;
          }

-- ---- a turn's answer

-- a call that has finished by an event
pub finishes : (Has : Mounted → Scene → Type 0) (Same : Type 0) (mounted : Mounted) (scene : Scene) (call next : Call) (done : Option Outcome) (free : ℕ) (names : List ℕ) (answer : Answer) (result : Next) → next ≡ with_stage call stages.Finished → result ≡ nexts.Finished answer
    → HasAnswered Has mounted scene call (with_stage call stages.Finished) done free names answer → HasStepped Has Same mounted scene call next done free names result
finishes Has Same mounted scene call next done free names answer result is told answered =
    subst (λ r. HasStepped Has Same mounted scene call next done free names r) (sym told) (subst (λ n. HasStepped Has Same mounted scene call n done free names (nexts.Finished answer)) (sym is) (inl answered))

-- a call that goes on
pub moves : (Has : Mounted → Scene → Type 0) (Same : Type 0) (mounted : Mounted) (scene : Scene) (call next : Call) (done : Option Outcome) (free : ℕ) (names : List ℕ) (result : Next) → next ≡ with_stage call stages.Wants → result ≡ nexts.Moved
    → HasMoved Has mounted scene call (with_stage call stages.Wants) done → HasStepped Has Same mounted scene call next done free names result
moves Has Same mounted scene call next done free names result is told moved =
    subst (λ r. HasStepped Has Same mounted scene call next done free names r) (sym told) (subst (λ n. HasMoved Has mounted scene call n done) (sym is) moved)

-- what a call's stage says of its caller's call
pub new_is_over : (mounted : Mounted) (scene : Scene) (call : Call) → IsAt call (call_in mounted scene call.caller) → IsNew call → IsOver (call_in mounted scene call.caller)
new_is_over mounted scene call at is = subst (λ s. StandsAt s call.request (call_in mounted scene call.caller)) is at.stands

-- a call that waits for a full commit
pub waiting_wants : (mounted : Mounted) (scene : Scene) (call : Call) → IsAt call (call_in mounted scene call.caller) → IsWaiting call → WantsFull call.request (call_in mounted scene call.caller).stage
waiting_wants mounted scene call at is = subst (λ s. StandsAt s call.request (call_in mounted scene call.caller)) is at.stands

pub stays : (call : Call) → IsWaiting call → with_stage call stages.Wants ≡ call
stays call is = ap (with_stage call) (sym is)

-- the end of a full commit, by what is asked for
pub steps_done : (Has : Mounted → Scene → Type 0) (Same : Type 0) (mounted : Mounted) (scene : Scene) (call next : Call) (outcome : Outcome) (free : ℕ) (names : List ℕ) (result : Next) → IsOrderly mounted scene → IsAt call (call_in mounted scene call.caller)
    → IsWaiting call → HoldsFull (state_of mounted scene) call.caller → EndsBy outcome.result (event.FullDone call.caller) → HasCome Has mounted scene (event.FullDone call.caller) Nothing
    → (call.request ≡ requests.Sync → (next ≡ with_stage call stages.Finished) × (result ≡ nexts.Finished answers.Sync)) → (call.request ≢ requests.Sync → (next ≡ call) × (result ≡ nexts.Moved))
    → HasStepped Has Same mounted scene call next (Some outcome) free names result
steps_done Has Same mounted scene call next outcome free names result orderly at waits holds is_done came sync other = by_want (want_of call.request (call_in mounted scene call.caller).stage (waiting_wants mounted scene call at waits))
  where
    by_want : IsWant call.request (call_in mounted scene call.caller).stage → HasStepped Has Same mounted scene call next (Some outcome) free names result
    by_want (OfSync sealed of is) =
        finishes Has Same mounted scene call next (Some outcome) free names answers.Sync result (sync of).0 (sync of).1 (sync_done Has mounted scene call orderly at waits holds outcome is_done came free names of)
    by_want (OfOp op sealed of is) =
        let apart : call.request ≢ requests.Sync = λ same. (let both : requests.Op op ≡ requests.Sync = sym of ∙ same in cc) in
        moves Has Same mounted scene call next (Some outcome) free names result ((other apart).0 ∙ sym (stays call waits)) (other apart).1 (op_done Has mounted scene call orderly at waits holds outcome is_done came op of)

-- ---- what a call's stage says of the work that comes back

pub new_has_none : (Out : Batch → Type 0) (mounted : Mounted) (scene : Scene) (call : Call) (done : Option Outcome) → MayStep Out mounted scene call done → IsNew call → done ≡ None
new_has_none Out mounted scene call None may new = refl
new_has_none Out mounted scene call (Some outcome) may new =
    let begins : duty (state_of mounted scene) (call_in mounted scene call.caller) ≡ Begins = over_begins (state_of mounted scene) (call_in mounted scene call.caller) (new_is_over mounted scene call may.at new) in
    let ends : duty (state_of mounted scene) (call_in mounted scene call.caller) ≡ EndsFull = holder_ends mounted scene may.orderly call.caller may.back.runs in
    absurd (let both : Begins ≡ EndsFull = sym begins ∙ ends in cc)

pub failure_of : (scene : Scene) (fault : DeviceFault) → IsResultOf scene (Err fault) → (tried : Bool) × (fault ≡ faults.Disk tried) × HasFailed scene tried
failure_of scene (faults.Disk tried) is = (tried, refl, is)

-- a failure tells whether the superblock was tried
pub told_by : (scene : Scene) (result : Result (Unit {0}) DeviceFault) (fault : DeviceFault) (tried : Bool) (caller : ℕ) (told : Bool) → result ≡ Err fault → fault ≡ faults.Disk tried → HasFailed scene tried → HasFailed scene told
    → EndsBy result (event.Failed caller turns.Full told)
told_by scene result fault tried caller told is of one two = subst (λ r. EndsBy r (event.Failed caller turns.Full told)) (sym (is ∙ ap (λ f. Err f) of)) (two.tells ∙ sym one.tells)

-- ---- blocks in use behind a full commit

pub leaves_few : (mounted : Mounted) (scene : Scene) (caller count : ℕ) (outcome : Outcome) (did : Next)
    → HasFew mounted (scene_after mounted.volume scene (Comes (event.FullDone caller) Nothing)) count → LeavesFew mounted scene caller count (Some outcome) did
leaves_few mounted scene caller count outcome nexts.Moved few = few
leaves_few mounted scene caller count outcome (nexts.Work work) few = tt
leaves_few mounted scene caller count outcome (nexts.Waits turn holder) few = tt
leaves_few mounted scene caller count outcome (nexts.Finished answer) few = tt

pub none_leaves : {E : Type 0} (mounted : Mounted) (scene : Scene) (caller count : ℕ) (result : Result Next E) → IfOk result (LeavesFew mounted scene caller count None)
none_leaves mounted scene caller count (Ok did) = tt
none_leaves mounted scene caller count (Err e) = tt
