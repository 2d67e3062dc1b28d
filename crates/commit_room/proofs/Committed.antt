-- The committed volume from which room is counted is that of the logs.
use Rattle.std.proofs.Common.{◌≡◌, ℕ, Bool, List, [], ◌∷◌, fold, Option, Some, None, refl, sym, ap, subst, ◌∙◌}
use Rattle.std.specs.Bool.{nat_eq}
use Rattle.std.specs.FinMap.{get}
use Rattle.flat_model.specs.Volume.{Subvolume, Volume, RunSub}
use Rattle.flat_model.specs.Coherent.{IsCoherentVolume}
use Rattle.commit_history.specs.declared.event.Event.{Event}
use Rattle.commit_history.specs.declared.event.Event.TheVariants as event
use Rattle.commit_history.specs.declared.event.Logged.{Logged}
use Rattle.commit_history.specs.declared.event.Logged.TheVariants as logged
use Rattle.commit_history.specs.State.{SubLog, State, HasLog, bare_log, mounted_state, number_taken}
use Rattle.commit_history.specs.Effects.{after, after_events, state_of, log_after, log_after_step, log_stepped, log_sealed, log_taken, log_with, sub_sealed, slots_written, slots_without}
use Rattle.commit_history.specs.Legal.{MayCome, IsLegalFrom, IsLegal}
use Rattle.commit_history.proofs.Maps.{changed_there}
use Rattle.commit_history.proofs.LogNumbers.{log_before}
use Rattle.commit_history.proofs.StateHolding.{either}
use Rattle.commit_laws.proofs.Reaching.{IsReached, known, reached_more}
use Rattle.commit_room.specs.Ledger.{Ledger, mounted_ledger, ledger_after, ledger_of, volume_sealed}
use Rattle.commit_room.proofs.Counting.{state_after}

step_committed : (log : SubLog) (current : Subvolume) (caller point ino : ℕ) (end : Logged) (datasync : Bool) → (log_after_step log current caller point ino end datasync).committed ≡ log.committed
step_committed log current caller point ino logged.Already datasync = refl
step_committed log current caller point ino (logged.Ticket number) datasync = refl
step_committed log current caller point ino (logged.Full reason) datasync = refl

stepped_committed : (o : Option RunSub) (log : SubLog) (caller point ino : ℕ) (end : Logged) (datasync : Bool) → (log_stepped o log caller point ino end datasync).committed ≡ log.committed
stepped_committed None log caller point ino end datasync = refl
stepped_committed (Some run) log caller point ino end datasync = step_committed log run.sub caller point ino end datasync

taken_committed : (o : Option ℕ) (log : SubLog) → (log_taken o log).committed ≡ log.committed
taken_committed None log = refl
taken_committed (Some number) log = refl

-- the committed subvolumes of a ledger are those of the logs
abbrev IsOfLogs : Ledger → State → Type 0
IsOfLogs ledger state = (id : ℕ) (log : SubLog) → HasLog state id log → get ledger.committed id ≡ Some log.committed

module _ (state : State) (e : Event) (committed : Volume) (before : (id : ℕ) (log : SubLog) → HasLog state id log → get committed id ≡ Some log.committed) where
  kept : ((id : ℕ) (log : SubLog) → (log_after state e id log).committed ≡ log.committed) → (id : ℕ) (log : SubLog) → HasLog (after state e) id log → get committed id ≡ Some log.committed
  kept same id new has =
      let old = log_before state e id new has in
      before id old.0 old.1 ∙ ap Some (sym (same id old.0) ∙ ap (λ (l : SubLog). l.committed) (sym old.2))

one_event : (volume : Volume) (coherent : IsCoherentVolume volume) (ledger : Ledger) (e : Event) → IsReached volume ledger.state → MayCome ledger.state e → IsOfLogs ledger ledger.state → IsOfLogs (ledger_after ledger e) (after ledger.state e)
one_event volume coherent ledger (event.FullDone caller) reached may before = λ id new has.
    let state = ledger.state in
    let old = log_before state (event.FullDone caller) id new has in
    let sealed = (known volume coherent state reached).sealed_there may.commit may.runs id old.0 old.1 in
    let is : new.committed ≡ sealed.0 = ap (λ (l : SubLog). l.committed) old.2 ∙ ap (λ o. (log_with o old.0).committed) sealed.1 in
    ap (λ o. get (volume_sealed o ledger.committed) id) may.runs ∙ sym (ap (λ o. sub_sealed o id) may.runs) ∙ sealed.1 ∙ ap Some (sym is)
one_event volume coherent ledger (event.Op caller op again end indexes) reached may before = kept ledger.state (event.Op caller op again end indexes) ledger.committed before (λ id log. refl)
one_event volume coherent ledger (event.Refused caller target answer) reached may before = kept ledger.state (event.Refused caller target answer) ledger.committed before (λ id log. refl)
one_event volume coherent ledger (event.Log caller sub ino end datasync) reached may before = kept ledger.state (event.Log caller sub ino end datasync) ledger.committed before
    (λ id log. either (λ (l : SubLog). l.committed ≡ log.committed) (nat_eq id sub.0) (log_stepped (get ledger.state.current id) log caller ledger.state.point ino.0 end datasync) log
    (λ _. stepped_committed (get ledger.state.current id) log caller ledger.state.point ino.0 end datasync) (λ _. refl))
one_event volume coherent ledger (event.Ask caller) reached may before = kept ledger.state (event.Ask caller) ledger.committed before (λ id log. refl)
one_event volume coherent ledger (event.SealSub caller sub number) reached may before = kept ledger.state (event.SealSub caller sub number) ledger.committed before
    (λ id log. either (λ (l : SubLog). l.committed ≡ log.committed) (nat_eq id sub.0) (log_sealed log caller number) log (λ _. refl) (λ _. refl))
one_event volume coherent ledger (event.SubWritten caller sub number) reached may before = kept ledger.state (event.SubWritten caller sub number) ledger.committed before
    (λ id log. either (λ (l : SubLog). l.committed ≡ log.committed) (nat_eq id sub.0) (record log { slots = slots_written log.slots number }) log (λ _. refl) (λ _. refl))
one_event volume coherent ledger (event.SealRoot caller) reached may before = kept ledger.state (event.SealRoot caller) ledger.committed before (λ id log. refl)
one_event volume coherent ledger (event.RootDone caller) reached may before = kept ledger.state (event.RootDone caller) ledger.committed before (λ id log. taken_committed (number_taken ledger.state.root id) log)
one_event volume coherent ledger (event.SealFull caller) reached may before = kept ledger.state (event.SealFull caller) ledger.committed before (λ id log. refl)
one_event volume coherent ledger (event.Failed caller turn tried) reached may before = kept ledger.state (event.Failed caller turn tried) ledger.committed before (λ id log. refl)
one_event volume coherent ledger (event.GiveUp caller sub number) reached may before = kept ledger.state (event.GiveUp caller sub number) ledger.committed before
    (λ id log. either (λ (l : SubLog). l.committed ≡ log.committed) (nat_eq id sub.0) (record log { slots = slots_without log.slots number }) log (λ _. refl) (λ _. refl))

all_events : (volume : Volume) (coherent : IsCoherentVolume volume) (events : List Event) (ledger : Ledger) (state : State) → ledger.state ≡ state → IsReached volume state → IsLegalFrom state events → IsOfLogs ledger state → IsOfLogs (fold ledger_after ledger events) (after_events state events)
all_events volume coherent [] ledger state same reached legal before = before
all_events volume coherent (e ∷ events) ledger state same reached legal before =
    all_events volume coherent events (ledger_after ledger e) (after state e) (state_after ledger e ∙ ap (λ s. after s e) same) (reached_more volume state e reached legal.0) legal.1
    (subst (λ s. IsOfLogs (ledger_after ledger e) (after s e)) same (one_event volume coherent ledger e (subst (IsReached volume) (sym same) reached) (subst (λ s. MayCome s e) (sym same) legal.0) (subst (IsOfLogs ledger) (sym same) before)))

mounted_of_logs : (volume : Volume) → IsOfLogs (mounted_ledger volume) (mounted_state volume)
unfolding mounted_state
mounted_of_logs volume id log has = let first = changed_there (λ id sub. bare_log sub) volume id log has in first.1 ∙ ap Some (ap (λ (l : SubLog). l.committed) (sym first.2))

pub committed_of_logs : (volume : Volume) → IsCoherentVolume volume → (events : List Event) → IsLegal volume events → IsOfLogs (ledger_of volume events) (state_of volume events)
committed_of_logs volume coherent events legal = all_events volume coherent events (mounted_ledger volume) (mounted_state volume) refl (record { past = []; legal = tt; is = refl }) legal (mounted_of_logs volume)
