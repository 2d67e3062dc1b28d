-- What the events of other callers leave, and what there is behind the mount.
use Rattle.std.proofs.Common.{◌≡◌, ◌≢◌, ◌↔◌, ℕ, true, false, cond, Option, Some, None, refl, sym, ap, subst, ◌∙◌, inl, inr}
use Rattle.std.specs.Bool.{nat_eq}
use Rattle.std.proofs.lemmas.Bool.{ne_eqb}
use Rattle.disk_model.specs.Disk.{Held}
use Rattle.flat_model.specs.Coherent.{IsCoherentVolume}
use Rattle.flat_model.specs.declared.request.Request.{Request}
use Rattle.flat_model.proofs.Maps.{some_same, some_none}
use Rattle.commit_history.specs.declared.event.Event.{Event}
use Rattle.commit_history.specs.declared.event.Event.TheVariants as event
use Rattle.commit_history.specs.State.{FullCommit, State, SubLog, bare_log, mounted_state}
use Rattle.commit_history.specs.Effects.{after, full_without}
use Rattle.commit_history.specs.Legal.{HoldsFull, MayCome}
use Rattle.commit_history.specs.Calls as history
use Rattle.commit_history.specs.Calls.{call_after, caller_of}
use Rattle.commit_history.proofs.CallsOf.{answer_stays}
use Rattle.commit_history.proofs.Maps.{changed_there}
use Rattle.commit_images.specs.Admissible.{MayHappen}
use Rattle.commit_images.specs.Scene.{Comes, Commit, Handed, Mounted, Scene, first_scene, scene_after}
use Rattle.commit_laws.proofs.Covered.{stage_stays}
use Rattle.commit_core.specs.Coming.{call_in, state_of}
use Rattle.commit_core.specs.Holding.{IsFullOf}
use Rattle.call_steps.specs.declared.call.Call.{Call}
use Rattle.call_steps.specs.declared.call.Stage.{Stage}
use Rattle.call_steps.specs.declared.call.Stage.TheVariants as stages
use Rattle.call_steps.specs.Orderly.{IsOrderly}
use Rattle.call_steps.specs.Standing.{IsAt, IsOver, StandsAt, WantsFull}
use Rattle.call_steps.proofs.Behind.{other_behind, state_behind}

-- ---- an event of another caller

over_stays : (state : State) (caller : ℕ) (past : history.Call) (e : Event) → caller ≢ caller_of e → IsOver past → IsOver (call_after state caller past e)
over_stays state caller past e other (inl none) = inl (stage_stays state caller past e other ∙ none)
over_stays state caller past e other (inr (answer, is)) = inr (answer, answer_stays state caller past e answer is other)

stands_still : (stage : Stage) (request : Request) (state : State) (caller : ℕ) (past : history.Call) (e : Event) → caller ≢ caller_of e → StandsAt stage request past → StandsAt stage request (call_after state caller past e)
stands_still stages.New request state caller past e other stands = over_stays state caller past e other stands
stands_still stages.Wants request state caller past e other stands = subst (WantsFull request) (sym (stage_stays state caller past e other)) stands
stands_still stages.Finished request state caller past e other stands = over_stays state caller past e other stands

pub call_stays : (mounted : Mounted) (scene : Scene) (call : Call) (e : Event) (handed : Handed) → call.caller ≢ caller_of e
    → IsAt call (call_in mounted scene call.caller) → IsAt call (call_in mounted (scene_after mounted.volume scene (Comes e handed)) call.caller)
call_stays mounted scene call e handed other at = record {
  from_one = at.from_one;
  to_sixteen = at.to_sixteen;
  allowed = at.allowed;
  stands = subst (StandsAt call.stage call.request) (sym (other_behind mounted scene e handed call.caller))
      (stands_still call.stage call.request (state_of mounted scene) call.caller (call_in mounted scene call.caller) e other at.stands);
}

-- ---- who runs the full commit

same_holder : (state : State) (one two : ℕ) → HoldsFull state one → HoldsFull state two → one ≡ two
same_holder state one two a b = sym a.own ∙ ap (λ (c : FullCommit). c.holder) (some_same a.commit b.commit (sym a.runs ∙ b.runs)) ∙ b.own

kept_full : (before later : State) (caller : ℕ) → later.full ≡ before.full → (HoldsFull later caller ↔ HoldsFull before caller)
kept_full before later caller same =
    (λ h. record { commit = h.commit; runs = sym same ∙ h.runs; own = h.own }, λ h. record { commit = h.commit; runs = same ∙ h.runs; own = h.own })

module _ (state : State) (caller by : ℕ) (other : caller ≢ by) where
  failed_full : (full : Option FullCommit) (commit : FullCommit) → commit.holder ≡ caller → (full_without full by ≡ Some commit → full ≡ Some commit) × (full ≡ Some commit → full_without full by ≡ Some commit)
  failed_full None commit own = (λ e. e, λ e. e)
  failed_full (Some full) commit own = (without, λ e. ap (λ b. cond b None (Some full)) (ne_eqb full.holder by (λ same. other (sym own ∙ ap (λ (c : FullCommit). c.holder) (sym (some_same full commit e)) ∙ same))) ∙ e)
    where
      without : full_without (Some full) by ≡ Some commit → Some full ≡ Some commit
      without e = elim (nat_eq full.holder by) as (λ b. cond b None (Some full) ≡ Some commit → Some full ≡ Some commit) [ true ↦ λ x. absurd (some_none commit (sym x)) | false ↦ λ x. x ] e

pub full_stays : (state : State) (caller : ℕ) (e : Event) → caller ≢ caller_of e → MayCome state e → (HoldsFull (after state e) caller ↔ HoldsFull state caller)
unfolding after
full_stays state caller (event.Op by op again end indexes) other may = kept_full state _ caller refl
full_stays state caller (event.Refused by target answer) other may = kept_full state _ caller refl
full_stays state caller (event.Log by sub ino end datasync) other may = kept_full state _ caller (log_full end)
  where
    log_full : (told : Rattle.commit_history.specs.declared.event.Logged.Logged) → (Rattle.commit_history.specs.Effects.state_after_step state by sub.0 told).full ≡ state.full
    log_full Rattle.commit_history.specs.declared.event.Logged.TheVariants.Already = refl
    log_full (Rattle.commit_history.specs.declared.event.Logged.TheVariants.Ticket number) = refl
    log_full (Rattle.commit_history.specs.declared.event.Logged.TheVariants.Full reason) = refl
full_stays state caller (event.Ask by) other may = kept_full state _ caller refl
full_stays state caller (event.SealSub by sub number) other may = kept_full state _ caller refl
full_stays state caller (event.SubWritten by sub number) other may = kept_full state _ caller refl
full_stays state caller (event.SealRoot by) other may = kept_full state _ caller refl
full_stays state caller (event.RootDone by) other may = kept_full state _ caller refl
full_stays state caller (event.SealFull by) other may =
    (λ h. absurd (other (sym h.own ∙ ap (λ (c : FullCommit). c.holder) (sym (some_same _ h.commit h.runs)))), λ h. absurd (some_none h.commit (sym h.runs ∙ may.full_is_free)))
full_stays state caller (event.FullDone by) other may = (λ h. absurd (some_none h.commit (sym h.runs)), λ h. absurd (other (same_holder state caller by h may)))
full_stays state caller (event.Failed by turn tried) other may = (
  λ h. record { commit = h.commit; runs = (failed_full state caller by other state.full h.commit h.own).0 h.runs; own = h.own },
  λ h. record { commit = h.commit; runs = (failed_full state caller by other state.full h.commit h.own).1 h.runs; own = h.own },
)
full_stays state caller (event.GiveUp by sub number) other may = kept_full state _ caller refl

pub turn_stays : (mounted : Mounted) (scene : Scene) (caller : ℕ) (e : Event) (handed : Handed) → caller ≢ caller_of e → MayHappen mounted scene (Comes e handed)
    → (IsFullOf mounted (scene_after mounted.volume scene (Comes e handed)) caller ↔ IsFullOf mounted scene caller)
turn_stays mounted scene caller e handed other may =
    subst (λ s. HoldsFull s caller ↔ HoldsFull (state_of mounted scene) caller) (sym (state_behind mounted scene e handed)) (full_stays (state_of mounted scene) caller e other may.0)

-- ---- the mount

pub mount_orderly : (mounted : Mounted) (held : Held) (first : Commit) → IsCoherentVolume mounted.volume → IsOrderly mounted (first_scene held first)
unfolding mounted_state
mount_orderly mounted held first coherent = record {
  coherent = coherent;
  legal = tt;
  ruled = tt;
  logs_free = record {
    no_slot_is_busy = λ id log has. let made = changed_there (λ id sub. bare_log sub) mounted.volume id log has in ap (λ (l : SubLog). l.slots) made.2;
    root_is_free = refl;
  };
}

pub mount_free : (mounted : Mounted) (held : Held) (first : Commit) (caller : ℕ) → IsFullOf mounted (first_scene held first) caller → ⊥
unfolding mounted_state
mount_free mounted held first caller holds = some_none holds.commit (sym holds.runs)
