-- A caller's call, and what is known of the history, behind one event more.
use Rattle.std.proofs.Common.{◌≡◌, ℕ, Bool, cond, List, [], ◌∷◌, ◌++◌, Option, Some, None, refl, sym, ap, subst, ◌∙◌}
use Rattle.std.proofs.lemmas.Bool.{eq-eqb}
use Rattle.flat_model.specs.declared.op.Op.{Op}
use Rattle.flat_model.specs.Volume.{Subvolume}
use Rattle.flat_model.proofs.Maps.{some_none}
use Rattle.commit_history.specs.declared.event.Event.{Event}
use Rattle.commit_history.specs.declared.event.Event.TheVariants as event
use Rattle.commit_history.specs.declared.event.OpEnd.{OpEnd}
use Rattle.commit_history.specs.declared.event.Turn.TheVariants as turns
use Rattle.commit_history.specs.State.{State, SubLog, mounted_state}
use Rattle.commit_history.specs.Effects as effects
use Rattle.commit_history.specs.Effects.{after, after_events, full_without, log_after, log_with, slots_without_holder, sub_sealed}
use Rattle.commit_history.specs.Legal.{HoldsFull, IsLegalFrom, MayCome}
use Rattle.commit_history.specs.Calls.{Call, FollowsRules, IsDone, after_own, after_other, call_after, call_after_all, caller_of, duty, no_call}
use Rattle.commit_history.proofs.StateHolding.{logs_after}
use Rattle.commit_images.specs.Scene.{Comes, Handed, Mounted, Scene, scene_after}
use Rattle.commit_core.specs.Coming.{call_in, state_of}
use Rattle.call_steps.specs.Orderly.{AreLogsFree, IsOrderly}

-- ---- lists with one event more

more_state : (state : State) (past : List Event) (e : Event) → after_events state (past ++ e ∷ []) ≡ after (after_events state past) e
more_state state [] e = refl
more_state state (first ∷ past) e = more_state (after state first) past e

more_legal : (state : State) (past : List Event) (e : Event) → IsLegalFrom state past → MayCome (after_events state past) e → IsLegalFrom state (past ++ e ∷ [])
more_legal state [] e legal may = (may, tt)
more_legal state (first ∷ past) e legal may = (legal.0, more_legal (after state first) past e legal.1 may)

more_ruled : (state : State) (calls : ℕ → Call) (past : List Event) (e : Event) → FollowsRules state calls past
    → IsDone (after_events state past) (caller_of e) (duty (after_events state past) (call_after_all state (caller_of e) (calls (caller_of e)) past)) e → FollowsRules state calls (past ++ e ∷ [])
more_ruled state calls [] e follows does = (does, tt)
more_ruled state calls (first ∷ past) e follows does = (follows.0, more_ruled (after state first) (λ caller. call_after state caller (calls caller) first) past e follows.1 does)

more_call : (state : State) (caller : ℕ) (call : Call) (past : List Event) (e : Event)
    → call_after_all state caller call (past ++ e ∷ []) ≡ call_after (after_events state past) caller (call_after_all state caller call past) e
more_call state caller call [] e = refl
more_call state caller call (first ∷ past) e = more_call (after state first) caller (call_after state caller call first) past e

-- ---- the caller's call

own_call : (state : State) (call : Call) (e : Event) (caller : ℕ) → caller ≡ caller_of e → call_after state caller call e ≡ after_own state caller call e
own_call state call e caller own = ap (λ b. cond b (after_own state caller call e) (after_other state caller call e)) (eq-eqb caller (caller_of e) own)

-- the call of the event's caller, behind it
pub call_behind : (mounted : Mounted) (scene : Scene) (e : Event) (handed : Handed) (caller : ℕ) → caller ≡ caller_of e
    → call_in mounted (scene_after mounted.volume scene (Comes e handed)) caller ≡ after_own (state_of mounted scene) caller (call_in mounted scene caller) e
call_behind mounted scene e handed caller own =
    more_call (mounted_state mounted.volume) caller no_call scene.events e ∙ own_call (state_of mounted scene) (call_in mounted scene caller) e caller own

-- the call of another caller, behind it
pub other_behind : (mounted : Mounted) (scene : Scene) (e : Event) (handed : Handed) (caller : ℕ)
    → call_in mounted (scene_after mounted.volume scene (Comes e handed)) caller ≡ call_after (state_of mounted scene) caller (call_in mounted scene caller) e
other_behind mounted scene e handed caller = more_call (mounted_state mounted.volume) caller no_call scene.events e

-- ---- the history

pub state_behind : (mounted : Mounted) (scene : Scene) (e : Event) (handed : Handed) → state_of mounted (scene_after mounted.volume scene (Comes e handed)) ≡ after (state_of mounted scene) e
state_behind mounted scene e handed = more_state (mounted_state mounted.volume) scene.events e

pub order_behind : (mounted : Mounted) (scene : Scene) (e : Event) (handed : Handed) (caller : ℕ) → caller ≡ caller_of e → IsOrderly mounted scene → MayCome (state_of mounted scene) e
    → IsDone (state_of mounted scene) caller (duty (state_of mounted scene) (call_in mounted scene caller)) e → AreLogsFree (after (state_of mounted scene) e) → IsOrderly mounted (scene_after mounted.volume scene (Comes e handed))
order_behind mounted scene e handed caller own orderly may does logs_free = record {
  coherent = orderly.coherent;
  legal = more_legal (mounted_state mounted.volume) scene.events e orderly.legal may;
  ruled = more_ruled (mounted_state mounted.volume) (λ other. no_call) scene.events e orderly.ruled (subst (λ c. IsDone (state_of mounted scene) c (duty (state_of mounted scene) (call_in mounted scene c)) e) own does);
  logs_free = subst AreLogsFree (sym (more_state (mounted_state mounted.volume) scene.events e)) logs_free;
}

-- ---- events of operations and of full commits leave logs free

module _ (state : State) (free : AreLogsFree state) where
  pub op_frees : (by : ℕ) (op : Op) (again : Bool) (end : OpEnd) (indexes : List ℕ) → AreLogsFree (after state (event.Op by op again end indexes))
  unfolding after
  op_frees by op again end indexes =
      record { no_slot_is_busy = logs_after state (event.Op by op again end indexes) (λ id log. log.slots ≡ []) free.no_slot_is_busy; root_is_free = free.root_is_free }

  pub ask_frees : (by : ℕ) → AreLogsFree (after state (event.Ask by))
  unfolding after
  ask_frees by = record { no_slot_is_busy = logs_after state (event.Ask by) (λ id log. log.slots ≡ []) free.no_slot_is_busy; root_is_free = free.root_is_free }

  pub seal_frees : (by : ℕ) → AreLogsFree (after state (event.SealFull by))
  unfolding after
  seal_frees by = record { no_slot_is_busy = logs_after state (event.SealFull by) (λ id log. log.slots ≡ []) free.no_slot_is_busy; root_is_free = free.root_is_free }

  with_slots : (o : Option Subvolume) (log : SubLog) → (log_with o log).slots ≡ log.slots
  with_slots None log = refl
  with_slots (Some sub) log = refl

  pub done_frees : (by : ℕ) → AreLogsFree (after state (event.FullDone by))
  unfolding after
  done_frees by = record {
    no_slot_is_busy = logs_after state (event.FullDone by) (λ id log. log.slots ≡ []) (λ id log has. with_slots (sub_sealed state.full id) log ∙ free.no_slot_is_busy id log has);
    root_is_free = free.root_is_free;
  }

  pub failure_frees : (by : ℕ) (tried : Bool) → AreLogsFree (after state (event.Failed by turns.Full tried))
  unfolding after
  failure_frees by tried = record {
    no_slot_is_busy = logs_after state (event.Failed by turns.Full tried) (λ id log. log.slots ≡ []) (λ id log has. ap (λ slots. slots_without_holder slots by) (free.no_slot_is_busy id log has));
    root_is_free = ap (λ root. effects.root_without root by) free.root_is_free;
  }

-- ---- who runs the full commit behind them

module _ (state : State) (caller : ℕ) where
  pub op_holds : (by : ℕ) (op : Op) (again : Bool) (end : OpEnd) (indexes : List ℕ) → HoldsFull (after state (event.Op by op again end indexes)) caller → HoldsFull state caller
  unfolding after
  op_holds by op again end indexes holds = record { commit = holds.commit; runs = holds.runs; own = holds.own }

  pub ask_holds : (by : ℕ) → HoldsFull (after state (event.Ask by)) caller → HoldsFull state caller
  unfolding after
  ask_holds by holds = record { commit = holds.commit; runs = holds.runs; own = holds.own }

  pub seal_holds : HoldsFull (after state (event.SealFull caller)) caller
  unfolding after
  seal_holds = record { commit = _; runs = refl; own = refl }

  pub done_holds_none : (by : ℕ) → HoldsFull (after state (event.FullDone by)) caller → ⊥
  unfolding after
  done_holds_none by holds = some_none holds.commit (sym holds.runs)

  pub failure_holds_none : (tried : Bool) → HoldsFull state caller → HoldsFull (after state (event.Failed caller turns.Full tried)) caller → ⊥
  unfolding after
  failure_holds_none tried had holds =
      let left : full_without (Some had.commit) caller ≡ Some holds.commit = sym (ap (λ full. full_without full caller) had.runs) ∙ holds.runs in
      some_none holds.commit (sym left ∙ ap (λ b. cond b None (Some had.commit)) (eq-eqb had.commit.holder caller had.own))
