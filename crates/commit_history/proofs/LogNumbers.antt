-- Log numbers rise.
use Rattle.std.proofs.Common.{◌≡◌, ℕ, ◌≤◌, Bool, true, false, cond, List, [], ◌∷◌, Option, Some, None, sym, ap, subst, ◌∙◌, arith, inl, inr}
use Rattle.std.specs.Prelude.{nat_eq}
use Rattle.std.proofs.lemmas.Bool.{cases_eq, ne_eqb}
use Rattle.std.specs.FinMap.{get}
use Rattle.flat_model.specs.Volume.{Subvolume, RunSub}
use Rattle.flat_model.proofs.Maps.{some_same}
use Rattle.commit_history.specs.declared.event.Event.{Event}
use Rattle.commit_history.specs.declared.event.Event.TheVariants as event
use Rattle.commit_history.specs.declared.event.Logged.{Logged}
use Rattle.commit_history.specs.declared.event.Logged.TheVariants as logged
use Rattle.commit_history.specs.State.{State, SubLog, HasLog, number_taken}
use Rattle.commit_history.specs.Effects.{after, after_events, log_after, log_after_step, log_sealed, log_stepped, log_taken, log_with, sub_sealed}
use Rattle.commit_history.specs.Legal.{MayCome, IsLegalFrom}
use Rattle.commit_history.proofs.Maps.{changed_there, changed_stays}

-- the log of a subvolume before an event, from the one afterwards
pub log_before : (state : State) (e : Event) (id : ℕ) (new : SubLog) → HasLog (after state e) id new → (old : SubLog) × HasLog state id old × (new ≡ log_after state e id old)
unfolding after
log_before state e id new there = changed_there (log_after state e) state.logs id new there

-- and the other way
pub log_afterwards : (state : State) (e : Event) (id : ℕ) (old : SubLog) → HasLog state id old → HasLog (after state e) id (log_after state e id old)
unfolding after
log_afterwards state e id old there = changed_stays (log_after state e) state.logs id old there

step_open : (log : SubLog) (current : Subvolume) (caller point ino : ℕ) (end : Logged) (datasync : Bool) → log.open_number ≤ (log_after_step log current caller point ino end datasync).open_number
step_open log current caller point ino logged.Already datasync = omega arith
step_open log current caller point ino (logged.Ticket number) datasync = omega arith
step_open log current caller point ino (logged.Full reason) datasync = omega arith

either : (log : SubLog) (b : Bool) (here there : SubLog) → log.open_number ≤ here.open_number → log.open_number ≤ there.open_number → log.open_number ≤ (cond b here there).open_number
either log true here there one two = one
either log false here there one two = two

pub open_rises : (state : State) (e : Event) (id : ℕ) (log : SubLog) → MayCome state e → HasLog state id log → log.open_number ≤ (log_after state e id log).open_number
open_rises state (event.Op caller op again end indexes) id log may has = omega arith
open_rises state (event.Refused caller target answer) id log may has = omega arith
open_rises state (event.Log caller sub ino end datasync) id log may has = either log (nat_eq id sub.0) _ log (run_rises (get state.current id)) (omega arith)
  where
    run_rises : (o : Option RunSub) → log.open_number ≤ (log_stepped o log caller state.point ino.0 end datasync).open_number
    run_rises None = omega arith
    run_rises (Some run) = step_open log run.sub caller state.point ino.0 end datasync
open_rises state (event.Ask caller) id log may has = omega arith
open_rises state (event.SealSub caller sub number) id log may has =
    elim (cases_eq id sub.0) [
      | inl same ↦
          let own : log.open_number ≡ number = ap (λ (l : SubLog). l.open_number) (some_same log may.log (sym has ∙ subst (λ q. get state.logs q ≡ Some may.log) (sym same) may.of_sub)) ∙ may.is_open in
          either log (nat_eq id sub.0) (log_sealed log caller number) log (omega (arith, own)) (omega arith)
      | inr other ↦
          subst (λ b. log.open_number ≤ (cond b (log_sealed log caller number) log).open_number) (sym (ne_eqb id sub.0 other)) (omega arith)
    ]
open_rises state (event.SubWritten caller sub number) id log may has = either log (nat_eq id sub.0) _ log (omega arith) (omega arith)
open_rises state (event.SealRoot caller) id log may has = omega arith
open_rises state (event.RootDone caller) id log may has = taken_rises (number_taken state.root id)
  where
    taken_rises : (o : Option ℕ) → log.open_number ≤ (log_taken o log).open_number
    taken_rises None = omega arith
    taken_rises (Some number) = omega arith
open_rises state (event.SealFull caller) id log may has = omega arith
open_rises state (event.FullDone caller) id log may has = full_rises (sub_sealed state.full id)
  where
    full_rises : (o : Option Subvolume) → log.open_number ≤ (log_with o log).open_number
    full_rises None = omega arith
    full_rises (Some sub) = omega arith
open_rises state (event.Failed caller turn tried) id log may has = omega arith
open_rises state (event.GiveUp caller sub number) id log may has = either log (nat_eq id sub.0) _ log (omega arith) (omega arith)

-- over a whole list
pub numbers_rise : (state : State) (events : List Event) (id : ℕ) (old new : SubLog) → IsLegalFrom state events → HasLog state id old → HasLog (after_events state events) id new → old.open_number ≤ new.open_number
numbers_rise state [] id old new legal has later = let same : old ≡ new = some_same old new (sym has ∙ later) in let e = ap (λ (l : SubLog). l.open_number) same in omega (arith, e)
numbers_rise state (e ∷ events) id old new legal has later =
    let one = open_rises state e id old legal.0 has in
    let rest = numbers_rise (after state e) events id (log_after state e id old) new legal.1 (log_afterwards state e id old has) later in
    omega (arith, one, rest)
