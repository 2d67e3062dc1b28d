-- Where calls stand behind an event of one of them, and that no commit runs once all are over.
use Rattle.std.proofs.Common.{◌≡◌, ◌≢◌, ◌≤◌, ◌<◌, ℕ, List, [], ◌∷◌, ◌++◌, length, Option, Some, None, refl, sym, ap, subst, ◌∙◌, inl, inr}
use Rattle.std.proofs.lemmas.Bool.{cases_eq}
use Rattle.blk_base.specs.declared.key.Marks.{Marks}
use Rattle.call_steps.proofs.Behind.{other_behind}
use Rattle.call_steps.proofs.Wanting.{holder_ends, over_begins, want_is_there}
use Rattle.call_steps.specs.Orderly.{IsOrderly}
use Rattle.call_steps.specs.Standing.{IsFinished, IsOver, StandsAt, WantsFull}
use Rattle.call_steps.specs.Steps.{HasMade, HasToWait}
use Rattle.call_steps.specs.declared.call.Call.{Call}
use Rattle.commit_core.specs.Coming.{call_in, state_of}
use Rattle.commit_core.specs.Holding.{IsFullOf}
use Rattle.commit_core.specs.declared.work.Outcome.{Outcome}
use Rattle.commit_device.specs.Calls.{HoldsAtLeast}
use Rattle.commit_device.specs.Finish.{KnowsFailed}
use Rattle.commit_history.proofs.CallsOf.{answer_stays}
use Rattle.commit_history.specs.Calls as history
use Rattle.commit_history.specs.Calls.{Begins, Duty, EndsFull, IsDone, call_after, caller_of, duty, AsksFirst, AsksForFull, FullFailed, FullWritten, GivesSlotUp, Logs, Operates, OperatesAgain, PartFailed, PartGivenUp, PartWritten, Refuses, RootFailed, RootWritten, SealsLogs, SealsPart, SealsVolume}
use Rattle.commit_history.specs.Legal.{HoldsFull}
use Rattle.commit_history.specs.State.{FullCommit, RootCommit, State}
use Rattle.commit_history.specs.Survival.{next_volumes, volume_by_root}
use Rattle.commit_history.specs.declared.event.Cover.TheVariants as covers
use Rattle.commit_history.specs.declared.event.Event.{Event}
use Rattle.commit_history.specs.declared.event.Turn.{Turn}
use Rattle.commit_images.specs.Scene.{Comes, Handed, Mounted, Nothing, Scene, batch_after, scene_after}
use Rattle.commit_laws.proofs.Covered.{stage_stays}
use Rattle.device_side.specs.Device.{Device}
use Rattle.disk_model.specs.Disk.{held_now, image_now}
use Rattle.flat_model.specs.Volume.{Volume}
use Rattle.flat_model.specs.declared.request.Request.{Request}
use Rattle.volume_calls.specs.Between.{Between, IsBetween}
use Rattle.volume_calls.specs.Turns.{AreMarks}
use Rattle.volume_calls.proofs.Happened.{with_event}

-- ---- an event of a call

pub own_event : (state : State) (caller : ℕ) (does : Duty) (e : Event) → IsDone state caller does e → caller_of e ≡ caller
own_event state caller does e (Operates op end indexes) = refl
own_event state caller does e (Refuses answer) = refl
own_event state caller does e (Logs end datasync) = refl
own_event state caller does e AsksFirst = refl
own_event state caller does e (OperatesAgain op end indexes) = refl
own_event state caller does e (PartWritten sub number none) = refl
own_event state caller does e (PartGivenUp sub number some) = refl
own_event state caller does e (PartFailed sub number) = refl
own_event state caller does e RootWritten = refl
own_event state caller does e (RootFailed tried) = refl
own_event state caller does e FullWritten = refl
own_event state caller does e (FullFailed tried) = refl
own_event state caller does e (SealsPart sub number) = refl
own_event state caller does e SealsLogs = refl
own_event state caller does e SealsVolume = refl
own_event state caller does e (GivesSlotUp sub number) = refl
own_event state caller does e AsksForFull = refl

pub made_by : (Has : Mounted → Scene → Type 0) (mounted : Mounted) (scene : Scene) (call next : Call) (done : Option Outcome) (e : Event) (handed : Handed) → HasMade Has mounted scene call next done e handed → caller_of e ≡ call.caller
made_by Has mounted scene call next done e handed made = own_event (state_of mounted scene) call.caller (duty (state_of mounted scene) (call_in mounted scene call.caller)) e made.ruled

over_stays : (state : State) (caller : ℕ) (past : history.Call) (e : Event) → caller ≢ caller_of e → IsOver past → IsOver (call_after state caller past e)
over_stays state caller past e other (inl none) = inl (stage_stays state caller past e other ∙ none)
over_stays state caller past e other (inr (answer, is)) = inr (answer, answer_stays state caller past e answer is other)

abbrev pub OthersAreOver : Mounted → Scene → ℕ → Type 0
OthersAreOver mounted scene caller = (other : ℕ) → other ≢ caller → IsOver (call_in mounted scene other)

pub others_stay : (mounted : Mounted) (scene : Scene) (caller : ℕ) (e : Event) (handed : Handed) → caller_of e ≡ caller → OthersAreOver mounted scene caller → OthersAreOver mounted (scene_after mounted.volume scene (Comes e handed)) caller
others_stay mounted scene caller e handed own others other apart =
    subst IsOver (sym (other_behind mounted scene e handed other)) (over_stays (state_of mounted scene) other (call_in mounted scene other) e (λ same. apart (same ∙ own)) (others other apart))

-- ---- calls that are over

pub over_holds_none : (mounted : Mounted) (scene : Scene) → IsOrderly mounted scene → (caller : ℕ) → IsOver (call_in mounted scene caller) → HoldsFull (state_of mounted scene) caller → ⊥
over_holds_none mounted scene orderly caller over holds =
    let begins : duty (state_of mounted scene) (call_in mounted scene caller) ≡ Begins = over_begins (state_of mounted scene) (call_in mounted scene caller) over in
    let ends : duty (state_of mounted scene) (call_in mounted scene caller) ≡ EndsFull = holder_ends mounted scene orderly caller holds in
    absurd (let both : Begins ≡ EndsFull = sym begins ∙ ends in cc)

pub all_over : (mounted : Mounted) (scene : Scene) (caller : ℕ) → IsOver (call_in mounted scene caller) → OthersAreOver mounted scene caller → (one : ℕ) → IsOver (call_in mounted scene one)
all_over mounted scene caller own others one = elim (cases_eq one caller) [ inl same ↦ subst (λ x. IsOver (call_in mounted scene x)) (sym same) own | inr other ↦ others one other ]

full_none : (mounted : Mounted) (scene : Scene) → IsOrderly mounted scene → ((one : ℕ) → IsOver (call_in mounted scene one)) → (full : Option FullCommit) → (state_of mounted scene).full ≡ full → full ≡ None
full_none mounted scene orderly over None is = refl
full_none mounted scene orderly over (Some full) is = absurd (over_holds_none mounted scene orderly full.holder (over full.holder) (record { commit = full; runs = is; own = refl }))

volumes_none : (state : State) → state.root ≡ None → state.full ≡ None → next_volumes state ≡ []
volumes_none state root full =
    ap (λ (o : Option RootCommit). (elim o as (λ p. List Volume) [ None ↦ [] | Some root ↦ volume_by_root state root ∷ [] ]) ++ (elim state.full as (λ p. List Volume) [ None ↦ [] | Some full ↦ full.volume ∷ [] ])) root
    ∙ ap (λ (o : Option FullCommit). elim o as (λ p. List Volume) [ None ↦ [] | Some full ↦ full.volume ∷ [] ]) full

pub is_idle : (mounted : Mounted) (scene : Scene) (e : Event) → IsOrderly mounted (scene_after mounted.volume scene (Comes e Nothing)) → ((one : ℕ) → IsOver (call_in mounted (scene_after mounted.volume scene (Comes e Nothing)) one))
    → (scene_after mounted.volume scene (Comes e Nothing)).batch ≡ None
is_idle mounted scene e orderly over =
    let behind : Scene = scene_after mounted.volume scene (Comes e Nothing) in
    ap (λ (next : List Volume). batch_after scene.batch next Nothing) (volumes_none (state_of mounted behind) orderly.logs_free.root_is_free (full_none mounted behind orderly over (state_of mounted behind).full refl))

-- ---- what goes with what happened around a call

pub record IsAround (size : ℕ) (device : Device) (count : ℕ) (mounted : Mounted) (caller : ℕ) (now : Between) : Type 0 where
  pub others : OthersAreOver mounted now.scene caller
  pub held : HoldsAtLeast (held_now now.told) now.scene.held
  pub knows : KnowsFailed device.failed now.scene.found
  pub image : length (image_now now.told) ≡ length mounted.image
  pub blocks : now.blocks ≡ size
  pub has_super : 16 < size
  pub fits : size ≤ count
  pub whole : length mounted.image ≡ count

pub around_more : (size : ℕ) (device : Device) (count : ℕ) (mounted : Mounted) (caller : ℕ) (now : Between) (e : Event) (handed : Handed) → caller_of e ≡ caller → IsAround size device count mounted caller now → IsAround size device count mounted caller (with_event mounted now e handed)
around_more size device count mounted caller now e handed own around = record {
  others = others_stay mounted now.scene caller e handed own around.others;
  held = around.held;
  knows = around.knows;
  image = around.image;
  blocks = around.blocks;
  has_super = around.has_super;
  fits = around.fits;
  whole = around.whole;
}

-- an event by which a call finished
pub ends_between : (Has : Mounted → Scene → Type 0) (size : ℕ) (marks : Marks) (device : Device) (count : ℕ) (mounted : Mounted) (now : Between) (call next : Call) (done : Option Outcome) (e : Event)
    → IsAround size device count mounted call.caller now → AreMarks marks device → HasMade Has mounted now.scene call next done e Nothing → IsFinished next
    → IsBetween Has size marks device count mounted (with_event mounted now e Nothing)
ends_between Has size marks device count mounted now call next done e around agree made finished =
    let own : caller_of e ≡ call.caller = made_by Has mounted now.scene call next done e Nothing made in
    let behind : Scene = scene_after mounted.volume now.scene (Comes e Nothing) in
    let over : (one : ℕ) → IsOver (call_in mounted behind one) = all_over mounted behind call.caller (subst (λ s. StandsAt s next.request (call_in mounted behind call.caller)) finished made.stands.stands) (others_stay mounted now.scene call.caller e Nothing own around.others) in
    record {
      has = made.came.has;
      goes = record {
        orderly = made.orderly;
        over = over;
        idle = is_idle mounted now.scene e made.orderly over;
        held = around.held;
        knows = around.knows;
        size = around.image;
      };
      done = agree.done;
      tried = agree.tried;
      blocks = around.blocks;
      has_super = around.has_super;
      fits = around.fits;
      whole = around.whole;
    }

-- ---- a call that nobody keeps waiting

pub waits_for_none : (mounted : Mounted) (scene : Scene) (caller : ℕ) (turn : Turn) (holder : ℕ) (request : Request) → IsOrderly mounted scene → WantsFull request (call_in mounted scene caller).stage → (call_in mounted scene caller).cover ≢ covers.Full
    → (IsFullOf mounted scene caller → ⊥) → OthersAreOver mounted scene caller → HasToWait mounted scene caller turn holder → ⊥
waits_for_none mounted scene caller turn holder request orderly wants uncovered apart others waits = by_full (state_of mounted scene).full refl
  where
    by_full : (full : Option FullCommit) → (state_of mounted scene).full ≡ full → ⊥
    by_full None is = waits.may_not (record {
      wanted = want_is_there mounted scene orderly caller request wants uncovered apart;
      no_slot_is_busy = orderly.logs_free.no_slot_is_busy;
      root_is_free = orderly.logs_free.root_is_free;
      full_is_free = is;
    })
    by_full (Some full) is = elim (cases_eq full.holder caller) [
      | inl same ↦ apart (record { commit = full; runs = is; own = same })
      | inr other ↦ over_holds_none mounted scene orderly full.holder (others full.holder other) (record { commit = full; runs = is; own = refl })
    ]
