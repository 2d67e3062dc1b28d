-- Events that are of no log leave all logs quiet.
use Rattle.std.proofs.Common.{◌≡◌, ℕ, Bool, List, [], Option, Some, None, refl, ap, ◌∙◌}
use Rattle.flat_model.specs.declared.op.Op.{Op}
use Rattle.flat_model.specs.Volume.{Subvolume, Volume}
use Rattle.commit_history.specs.declared.event.Event.{Event}
use Rattle.commit_history.specs.declared.event.Event.TheVariants as event
use Rattle.commit_history.specs.declared.event.OpEnd.{OpEnd}
use Rattle.commit_history.specs.declared.event.Turn.TheVariants as turns
use Rattle.commit_history.specs.Effects.{after, log_after, log_with, root_without, slots_without_holder, sub_sealed}
use Rattle.commit_history.specs.State.{HasLog, Slot, State, SubLog, bare_log, mounted_state}
use Rattle.commit_history.proofs.LogNumbers.{log_before}
use Rattle.commit_history.proofs.Maps.{changed_there}
use Rattle.commit_callers.specs.GoWith.{IsQuiet}

-- after the mount no log is written
pub mounted_quiet : (volume : Volume) → IsQuiet (mounted_state volume)
unfolding mounted_state
mounted_quiet volume = record {
  no_ticket = refl;
  no_root = refl;
  no_slot = λ id log has. let bare = changed_there (λ id sub. bare_log sub) volume id log has in ap (λ (l : SubLog). l.slots) bare.2;
}

module _ (state : State) (quiet : IsQuiet state) where
  slots_after : (e : Event) → ((id : ℕ) (log : SubLog) → log.slots ≡ [] → (log_after state e id log).slots ≡ []) → (id : ℕ) (log : SubLog) → HasLog (after state e) id log → log.slots ≡ []
  slots_after e keeps id log has =
      let old = log_before state e id log has in
      ap (λ (l : SubLog). l.slots) old.2 ∙ keeps id old.0 (quiet.no_slot id old.0 old.1)

  pub operated_quiet : (by : ℕ) (op : Op) (again : Bool) (end : OpEnd) (indexes : List ℕ) → IsQuiet (after state (event.Op by op again end indexes))
  unfolding after
  operated_quiet by op again end indexes = record { no_ticket = quiet.no_ticket; no_root = quiet.no_root; no_slot = slots_after (event.Op by op again end indexes) (λ id log none. none) }

  pub asked_quiet : (by : ℕ) → IsQuiet (after state (event.Ask by))
  unfolding after
  asked_quiet by = record { no_ticket = quiet.no_ticket; no_root = quiet.no_root; no_slot = slots_after (event.Ask by) (λ id log none. none) }

  pub sealed_quiet : (by : ℕ) → IsQuiet (after state (event.SealFull by))
  unfolding after
  sealed_quiet by = record { no_ticket = quiet.no_ticket; no_root = quiet.no_root; no_slot = slots_after (event.SealFull by) (λ id log none. none) }

  with_slots : (sub : Option Subvolume) (log : SubLog) → (log_with sub log).slots ≡ log.slots
  with_slots None log = refl
  with_slots (Some sub) log = refl

  pub done_quiet : (by : ℕ) → IsQuiet (after state (event.FullDone by))
  unfolding after
  done_quiet by = record { no_ticket = refl; no_root = quiet.no_root; no_slot = slots_after (event.FullDone by) (λ id log none. with_slots (sub_sealed state.full id) log ∙ none) }

  pub failed_quiet : (by : ℕ) (tried : Bool) → IsQuiet (after state (event.Failed by turns.Full tried))
  unfolding after
  failed_quiet by tried = record {
    no_ticket = simp quiet.no_ticket;
    no_root = ap (λ o. root_without o by) quiet.no_root;
    no_slot = slots_after (event.Failed by turns.Full tried) (λ id log none. ap (λ (slots : List Slot). slots_without_holder slots by) none);
  }
