-- What an event makes of the volumes that a crash may leave.
use Rattle.std.proofs.Common.{◌≡◌, ◌≢◌, ℕ, Bool, cond, List, [], ◌∷◌, ◌++◌, Option, Some, None, refl, sym, ap, subst, ◌∙◌, arith}
use Rattle.std.specs.Bool.{nat_eq}
use Rattle.std.specs.Option.{option_map, unwrap_or}
use Rattle.std.specs.Cmp.{nat_cmp_total}
use Rattle.std.specs.FinMap.{get, same_map, nat_cmp-IsAntisymmetric}
use Rattle.std.proofs.lemmas.Bool.{eqb-true}
use Rattle.blk_base.specs.declared.key.SubId.{SubId}
use Rattle.flat_model.specs.Volume.{Subvolume, Volume, RunSub}
use Rattle.flat_model.specs.Step.{Operated}
use Rattle.flat_model.proofs.Maps.{some_same, some_none, get_insert_other}
use Rattle.commit_history.specs.declared.event.Event.{Event}
use Rattle.commit_history.specs.declared.event.Event.TheVariants as event
use Rattle.commit_history.specs.declared.event.Logged.{Logged}
use Rattle.commit_history.specs.declared.event.Logged.TheVariants as logged
use Rattle.commit_history.specs.State.{SubLog, RootCommit, FullCommit, State, HasLog, changed, durable_volume, number_taken}
use Rattle.commit_history.specs.Effects.{after, log_after, log_after_step, log_stepped, log_taken, log_with, log_sealed, sub_sealed}
use Rattle.commit_history.specs.Legal.{MaySealSub}
use Rattle.commit_history.specs.Survival.{next_volumes, volume_by_root}
use Rattle.commit_history.proofs.Maps.{get_changed}
use Rattle.commit_history.proofs.StateHolding.{Holds, LeftSurvives, either}

-- ---- maps of logs behind an event

module _ (state : State) (e : Event) {B : Type 0} (f g : ℕ → SubLog → B) where
  -- what is made of the logs behind an event is what was made of them, where it is for each
  pub kept_logs : ((id : ℕ) (log : SubLog) → HasLog state id log → f id (log_after state e id log) ≡ g id log) → changed f (after state e).logs ≡ changed g state.logs
  unfolding after
  kept_logs same = same_map nat_cmp_total nat_cmp-IsAntisymmetric _ _ (λ id.
      get_changed f (changed (log_after state e) state.logs) id ∙ ap (option_map (f id)) (get_changed (log_after state e) state.logs id) ∙ each id (get state.logs id) refl ∙ sym (get_changed g state.logs id))
    where
      each : (id : ℕ) (o : Option SubLog) → get state.logs id ≡ o → option_map (f id) (option_map (log_after state e id) o) ≡ option_map (g id) o
      each id None is = refl
      each id (Some log) is = ap Some (same id log is)

-- an event leaves the durable subvolume of each log, and what was sealed under the number that a root commit takes
pub record KeepsDurable (root : Option RootCommit) (id : ℕ) (old new : SubLog) : Type 0 where
  pub durable : new.durable ≡ old.durable
  pub sealed : (number : ℕ) → number_taken root id ≡ Some number → get new.sealed number ≡ get old.sealed number

-- it leaves both as they are
pub record LeavesAlone (old new : SubLog) : Type 0 where
  pub durable : new.durable ≡ old.durable
  pub sealed : new.sealed ≡ old.sealed

pub left_alone : (root : Option RootCommit) (id : ℕ) (old new : SubLog) → LeavesAlone old new → KeepsDurable root id old new
left_alone root id old new alone = record { durable = alone.durable; sealed = λ number taken. ap (λ sealed. get sealed number) alone.sealed }

pub taken_kept : (root : Option RootCommit) (id : ℕ) (old new : SubLog) → KeepsDurable root id old new → (log_taken (number_taken root id) new).durable ≡ (log_taken (number_taken root id) old).durable
taken_kept root id old new keeps = each (number_taken root id) refl
  where
    each : (o : Option ℕ) → number_taken root id ≡ o → (log_taken o new).durable ≡ (log_taken o old).durable
    each None is = keeps.durable
    each (Some number) is = ap (λ s. unwrap_or s new.durable) (keeps.sealed number is) ∙ ap (unwrap_or (get old.sealed number)) keeps.durable

module _ (state : State) (e : Event) (keeps : (id : ℕ) (log : SubLog) → HasLog state id log → KeepsDurable state.root id log (log_after state e id log)) where
  pub durable_kept : durable_volume (after state e) ≡ durable_volume state
  unfolding durable_volume
  durable_kept = kept_logs state e (λ id log. log.durable) (λ id log. log.durable) (λ id log has. (keeps id log has).durable)

  pub by_root_kept : (root : RootCommit) → state.root ≡ Some root → volume_by_root (after state e) root ≡ volume_by_root state root
  by_root_kept root is = kept_logs state e (λ id log. (log_taken (number_taken (Some root) id) log).durable) (λ id log. (log_taken (number_taken (Some root) id) log).durable) (λ id log has.
      taken_kept (Some root) id log (log_after state e id log) (subst (λ o. KeepsDurable o id log (log_after state e id log)) is (keeps id log has)))

-- ---- the volumes of commits that run

abbrev pub root_part : State → Option RootCommit → List Volume
root_part state o = elim o as (λ x. List Volume) [ None ↦ [] | Some root ↦ volume_by_root state root ∷ [] ]

abbrev pub full_part : Option FullCommit → List Volume
full_part o = elim o as (λ x. List Volume) [ None ↦ [] | Some full ↦ full.volume ∷ [] ]

pub next_is : (state : State) (root : Option RootCommit) (full : Option FullCommit) → state.root ≡ root → state.full ≡ full → next_volumes state ≡ root_part state root ++ full_part full
next_is state root full root_is full_is = ap (λ o. root_part state o ++ full_part state.full) root_is ∙ ap (λ o. root_part state root ++ full_part o) full_is

-- where an event leaves both turns and what is durable, it leaves the volumes
module _ (state : State) (e : Event) (keeps : (id : ℕ) (log : SubLog) → HasLog state id log → KeepsDurable state.root id log (log_after state e id log)) where
  pub next_kept : (after state e).root ≡ state.root → (after state e).full ≡ state.full → next_volumes (after state e) ≡ next_volumes state
  next_kept same_root same_full = each state.root refl
    where
      each : (o : Option RootCommit) → state.root ≡ o → next_volumes (after state e) ≡ next_volumes state
      each None is = next_is (after state e) None state.full (same_root ∙ is) same_full ∙ sym (next_is state None state.full is refl)
      each (Some root) is =
          next_is (after state e) (Some root) state.full (same_root ∙ is) same_full
          ∙ ap (λ v. (v ∷ []) ++ full_part state.full) (by_root_kept state e keeps root is)
          ∙ sym (next_is state (Some root) state.full is refl)

-- ---- events that seal or finish nothing

step_alone : (log : SubLog) (current : Subvolume) (caller point ino : ℕ) (end : Logged) (datasync : Bool) → LeavesAlone log (log_after_step log current caller point ino end datasync)
step_alone log current caller point ino logged.Already datasync = record { durable = refl; sealed = refl }
step_alone log current caller point ino (logged.Ticket number) datasync = record { durable = refl; sealed = refl }
step_alone log current caller point ino (logged.Full reason) datasync = record { durable = refl; sealed = refl }

pub stepped_alone : (o : Option RunSub) (log : SubLog) (caller point ino : ℕ) (end : Logged) (datasync : Bool) → LeavesAlone log (log_stepped o log caller point ino end datasync)
stepped_alone None log caller point ino end datasync = record { durable = refl; sealed = refl }
stepped_alone (Some run) log caller point ino end datasync = step_alone log run.sub caller point ino end datasync

pub same_alone : (log : SubLog) → LeavesAlone log log
same_alone log = record { durable = refl; sealed = refl }

pub either_alone : (b : Bool) (log new : SubLog) → LeavesAlone log new → LeavesAlone log (cond b new log)
either_alone b log new alone = either (LeavesAlone log) b new log (λ _. alone) (λ _. same_alone log)

-- the seal of a subvolume's log leaves what was sealed under the number that a root commit takes: that is a lower one
module _ (volume : Volume) (history : List Operated) (tried : List Volume) (state : State) (holds : Holds volume history tried state) where
  pub sealing_keeps : (caller : ℕ) (sub : SubId) (number : ℕ) → MaySealSub state caller sub.0 number → (id : ℕ) (log : SubLog) → HasLog state id log
      → KeepsDurable state.root id log (log_after state (event.SealSub caller sub number) id log)
  sealing_keeps caller sub number may id log has =
      either (KeepsDurable state.root id log) (nat_eq id sub.0) (log_sealed log caller number) log
      (λ same. record { durable = refl; sealed = λ taken is. get_insert_other log.sealed number log.logged taken (below (eqb-true id sub.0 same) taken is) })
      (λ _. left_alone state.root id log log (same_alone log))
    where
      open_is : id ≡ sub.0 → log.open_number ≡ number
      open_is same = ap (λ (l : SubLog). l.open_number) (some_same log may.log (sym has ∙ ap (get state.logs) same ∙ may.of_sub)) ∙ may.is_open

      below : id ≡ sub.0 → (taken : ℕ) → number_taken state.root id ≡ Some taken → taken ≢ number
      below same taken is e = let before = (holds.root id log taken has is).1 in let own = open_is same in omega (arith, before, own, e)

-- ---- commits that are done

pub root_done_durable : (state : State) (caller : ℕ) (root : RootCommit) → state.root ≡ Some root → durable_volume (after state (event.RootDone caller)) ≡ volume_by_root state root
unfolding durable_volume
root_done_durable state caller root is = kept_logs state (event.RootDone caller) (λ id log. log.durable) (λ id log. (log_taken (number_taken (Some root) id) log).durable) (λ id log has. ap (λ o. (log_taken (number_taken o id) log).durable) is)

pub full_done_durable : (volume : Volume) (history : List Operated) (state : State) (caller : ℕ) (full : FullCommit) → state.full ≡ Some full → LeftSurvives volume history state full.volume
    → durable_volume (after state (event.FullDone caller)) ≡ full.volume
unfolding durable_volume after
full_done_durable volume history state caller full is left = same_map nat_cmp_total nat_cmp-IsAntisymmetric _ _ (λ id.
    get_changed (λ id log. log.durable) (changed (log_after state (event.FullDone caller)) state.logs) id
    ∙ ap (option_map (λ (log : SubLog). log.durable)) (get_changed (log_after state (event.FullDone caller)) state.logs id)
    ∙ each id (get state.logs id) refl)
  where
    each : (id : ℕ) (o : Option SubLog) → get state.logs id ≡ o → option_map (λ (log : SubLog). log.durable) (option_map (log_after state (event.FullDone caller) id) o) ≡ get full.volume id
    each id None gone = sym (none (get full.volume id) refl)
      where
        none : (o : Option Subvolume) → get full.volume id ≡ o → o ≡ None
        none None is' = refl
        none (Some sub) is' = let log = left.only id sub is' in absurd (some_none log.0 (sym log.1 ∙ gone))
    each id (Some log) has =
        let sub = left.there id log has in
        ap (λ o. Some ((log_with (sub_sealed o id) log).durable)) is ∙ ap (λ o. Some ((log_with o log).durable)) sub.1 ∙ sym sub.1
