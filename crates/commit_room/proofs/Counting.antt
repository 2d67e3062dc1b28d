-- The addresses in use are at most those of the last full commit and the charges since its seal.
use Rattle.std.proofs.Common.{◌≡◌, ℕ, zero, suc, ◌<◌, ◌≤◌, ◌+◌, Bool, true, false, cond, List, [], ◌∷◌, ◌++◌, fold, length, inl, inr, Option, Some, None, refl, sym, ap, subst, ◌∙◌, arith}
use Rattle.std.specs.Bool.{nat_lt}
use Rattle.std.proofs.lemmas.Bool.{cases_Bool, ltb-true}
use Rattle.blk_base.specs.declared.key.SubId.{SubId}
use Rattle.blk_base.specs.declared.key.Ino.{Ino}
use Rattle.flat_model.specs.declared.op.Op.{Op}
use Rattle.flat_model.specs.declared.answer.Reason.{Reason}
use Rattle.flat_model.specs.declared.answer.Reason.TheVariants as reasons
use Rattle.flat_model.specs.Volume.{Subvolume, Volume, RunVolume}
use Rattle.flat_model.specs.Needs.{need}
use Rattle.flat_model.proofs.Maps.{some_none}
use Rattle.logged_volume.specs.Drawn.{conflicts_of, stranded_of}
use Rattle.logged_volume.specs.Rules.{RoomNumbers, commit_reason, room_reason, step_need, most_conflicts}
use Rattle.commit_history.specs.declared.event.Event.{Event}
use Rattle.commit_history.specs.declared.event.Event.TheVariants as event
use Rattle.commit_history.specs.declared.event.Logged.TheVariants as logged
use Rattle.commit_history.specs.declared.event.OpEnd.TheVariants as ends
use Rattle.commit_history.specs.State.{SubLog, State, mounted_state}
use Rattle.commit_history.specs.Effects.{after, after_events, state_of}
use Rattle.commit_history.specs.Legal.{MayCome, IsLegalFrom, IsLegal, IsOpEnd, IsShort, IsLogEnd, Commits}
use Rattle.commit_room.specs.Items.{data_blocks, trees_room}
use Rattle.commit_room.specs.Ledger.{Ledger, mounted_ledger, ledger_after, ledger_of, charge_of}
use Rattle.commit_room.specs.Room.{InUse, sum_of, used_before, used, free_blocks, room_now, EndsByRoom, TakesRoom, TakeRoom, IsInUse, HasFree, ShortIsTrue, SpaceIsTrue}

-- ---- sums

sum_split : (f : ℕ → ℕ) (n a b : ℕ) → n ≡ a + b → sum_of f 0 n ≡ sum_of f 0 a + sum_of f a b
sum_split f n a zero e = let same : n ≡ a = omega (arith, e) in let x = ap (sum_of f 0) same in omega (arith, x)
sum_split f zero a (suc b) e = absurd (omega (arith, e))
sum_split f (suc n) a (suc b) e =
    let rest = sum_split f n a b (omega (arith, e)) in
    let same : 0 + n ≡ a + b = omega (arith, e) in
    let last = ap f same in
    omega (arith, rest, last)

sum_falls : (f g : ℕ → ℕ) (from count : ℕ) → ((i : ℕ) → i < from + count → f i ≤ g i) → sum_of f from count ≤ sum_of g from count
sum_falls f g from zero each = omega arith
sum_falls f g from (suc count) each =
    let rest = sum_falls f g from count (λ i below. each i (omega (arith, below))) in
    let last = each (from + count) (omega arith) in
    omega (arith, rest, last)

-- ---- the bound

pub record Bound (use_ : InUse) (count sealed sealing charged sealing_charged room : ℕ) : Type 0 where
  pub since : ℕ
  pub at : sealed + since ≡ count
  pub fresh : sum_of (use_.taken count) sealed since ≤ charged
  pub old : used_before use_ count sealed ≤ room
  pub sealing_since : ℕ
  pub sealing_at : sealing + sealing_since ≡ count
  pub sealing_fresh : sum_of (use_.taken count) sealing sealing_since ≤ sealing_charged

abbrev pub committed_room : Ledger → ℕ
committed_room ledger = data_blocks ledger.committed + trees_room ledger.committed

abbrev pub IsBound : InUse → Ledger → Type 0
IsBound use_ ledger = Bound use_ ledger.count ledger.sealed ledger.sealing ledger.charged ledger.sealing_charged (committed_room ledger)

module _ (blocks : ℕ) (use_ : InUse) (ledger : Ledger) (bound : IsBound use_ ledger) (e : Event) (takes : TakesRoom blocks use_ ledger e) where
  -- what some events took, with one more
  fresh_more : (from since charged : ℕ) → from + since ≡ ledger.count → sum_of (use_.taken ledger.count) from since ≤ charged → sum_of (use_.taken (ledger.count + 1)) from (suc since) ≤ charged + charge_of ledger e
  fresh_more from since charged at few =
      let falls = sum_falls (use_.taken (ledger.count + 1)) (use_.taken ledger.count) from since (λ i below. takes.taken_falls i (omega (arith, below, at))) in
      let new : use_.taken (ledger.count + 1) (from + since) ≤ charge_of ledger e = subst (λ n. use_.taken (ledger.count + 1) n ≤ charge_of ledger e) (sym at) takes.takes in
      omega (arith, falls, few, new)

  -- fewer are of before
  old_falls : (before : ℕ) → before ≤ ledger.count → used_before use_ (ledger.count + 1) before ≤ used_before use_ ledger.count before
  old_falls before low =
      let falls = sum_falls (use_.taken (ledger.count + 1)) (use_.taken ledger.count) 0 before (λ i below. takes.taken_falls i (omega (arith, below, low))) in
      let mounted = takes.mounted_falls in
      omega (arith, falls, mounted)

  -- an event that seals and ends no full commit
  counted_bound : Bound use_ (ledger.count + 1) ledger.sealed ledger.sealing (ledger.charged + charge_of ledger e) (ledger.sealing_charged + charge_of ledger e) (committed_room ledger)
  counted_bound = record {
    since = suc bound.since;
    at = let a = bound.at in omega (arith, a);
    fresh = fresh_more ledger.sealed bound.since ledger.charged bound.at bound.fresh;
    old = let a = bound.at in let o = bound.old in let f = old_falls ledger.sealed (omega (arith, a)) in omega (arith, o, f);
    sealing_since = suc bound.sealing_since;
    sealing_at = let a = bound.sealing_at in omega (arith, a);
    sealing_fresh = fresh_more ledger.sealing bound.sealing_since ledger.sealing_charged bound.sealing_at bound.sealing_fresh;
  }

  sealed_bound : Bound use_ (ledger.count + 1) ledger.sealed ledger.count (ledger.charged + charge_of ledger e) (charge_of ledger e) (committed_room ledger)
  sealed_bound = record {
    since = counted_bound.since;
    at = counted_bound.at;
    fresh = counted_bound.fresh;
    old = counted_bound.old;
    sealing_since = 1;
    sealing_at = omega arith;
    sealing_fresh =
        let same : ledger.count + 0 ≡ ledger.count = omega arith in
        let new : use_.taken (ledger.count + 1) (ledger.count + 0) ≤ charge_of ledger e = subst (λ n. use_.taken (ledger.count + 1) n ≤ charge_of ledger e) (sym same) takes.takes in
        omega (arith, new);
  }

  done_bound : (room : ℕ) → used_before use_ (ledger.count + 1) ledger.sealing ≤ room → charge_of ledger e ≡ 0 → Bound use_ (ledger.count + 1) ledger.sealing ledger.sealing ledger.sealing_charged (ledger.sealing_charged + charge_of ledger e) room
  done_bound room behind free = record {
    since = counted_bound.sealing_since;
    at = counted_bound.sealing_at;
    fresh = let f = counted_bound.sealing_fresh in omega (arith, f, free);
    old = behind;
    sealing_since = counted_bound.sealing_since;
    sealing_at = counted_bound.sealing_at;
    sealing_fresh = counted_bound.sealing_fresh;
  }

bound_after : (blocks : ℕ) (use_ : InUse) (ledger : Ledger) (e : Event) → IsBound use_ ledger → TakesRoom blocks use_ ledger e → IsBound use_ (ledger_after ledger e)
bound_after blocks use_ ledger (event.SealFull caller) bound takes = sealed_bound blocks use_ ledger bound (event.SealFull caller) takes
bound_after blocks use_ ledger (event.FullDone caller) bound takes = done_bound blocks use_ ledger bound (event.FullDone caller) takes _ (takes.behind_full caller refl) refl
bound_after blocks use_ ledger (event.Op caller op again end indexes) bound takes = counted_bound blocks use_ ledger bound (event.Op caller op again end indexes) takes
bound_after blocks use_ ledger (event.Refused caller target answer) bound takes = counted_bound blocks use_ ledger bound (event.Refused caller target answer) takes
bound_after blocks use_ ledger (event.Log caller sub ino end datasync) bound takes = counted_bound blocks use_ ledger bound (event.Log caller sub ino end datasync) takes
bound_after blocks use_ ledger (event.Ask caller) bound takes = counted_bound blocks use_ ledger bound (event.Ask caller) takes
bound_after blocks use_ ledger (event.SealSub caller sub number) bound takes = counted_bound blocks use_ ledger bound (event.SealSub caller sub number) takes
bound_after blocks use_ ledger (event.SubWritten caller sub number) bound takes = counted_bound blocks use_ ledger bound (event.SubWritten caller sub number) takes
bound_after blocks use_ ledger (event.SealRoot caller) bound takes = counted_bound blocks use_ ledger bound (event.SealRoot caller) takes
bound_after blocks use_ ledger (event.RootDone caller) bound takes = counted_bound blocks use_ ledger bound (event.RootDone caller) takes
bound_after blocks use_ ledger (event.Failed caller turn tried) bound takes = counted_bound blocks use_ ledger bound (event.Failed caller turn tried) takes
bound_after blocks use_ ledger (event.GiveUp caller sub number) bound takes = counted_bound blocks use_ ledger bound (event.GiveUp caller sub number) takes

all_bound : (blocks : ℕ) (use_ : InUse) (front rest : List Event) (ledger : Ledger) → IsBound use_ ledger → TakeRoom blocks use_ ledger (front ++ rest) → IsBound use_ (fold ledger_after ledger front) × TakeRoom blocks use_ (fold ledger_after ledger front) rest
all_bound blocks use_ [] rest ledger bound take = (bound, take)
all_bound blocks use_ (e ∷ front) rest ledger bound take = all_bound blocks use_ front rest (ledger_after ledger e) (bound_after blocks use_ ledger e bound take.0) take.1

mounted_bound : (use_ : InUse) (volume : Volume) → use_.mounted 0 ≤ data_blocks volume + trees_room volume → IsBound use_ (mounted_ledger volume)
mounted_bound use_ volume behind = record { since = 0; at = refl; fresh = omega arith; old = omega (arith, behind); sealing_since = 0; sealing_at = refl; sealing_fresh = omega arith }

-- so many blocks are free
bound_free : (blocks : ℕ) (use_ : InUse) (ledger : Ledger) (free : ℕ) → IsBound use_ ledger → free ≡ free_blocks blocks (used use_ ledger.count) → HasFree blocks ledger free
bound_free blocks use_ ledger free bound is =
    let split = sum_split (use_.taken ledger.count) ledger.count ledger.sealed bound.since (sym bound.at) in
    let old = bound.old in let fresh = bound.fresh in
    omega (arith, is, split, old, fresh)

-- ---- states

pub state_after : (ledger : Ledger) (e : Event) → (ledger_after ledger e).state ≡ after ledger.state e
state_after ledger (event.Op caller op again end indexes) = refl
state_after ledger (event.Refused caller target answer) = refl
state_after ledger (event.Log caller sub ino end datasync) = refl
state_after ledger (event.Ask caller) = refl
state_after ledger (event.SealSub caller sub number) = refl
state_after ledger (event.SubWritten caller sub number) = refl
state_after ledger (event.SealRoot caller) = refl
state_after ledger (event.RootDone caller) = refl
state_after ledger (event.SealFull caller) = refl
state_after ledger (event.FullDone caller) = refl
state_after ledger (event.Failed caller turn tried) = refl
state_after ledger (event.GiveUp caller sub number) = refl

states_after : (ledger : Ledger) (events : List Event) → (fold ledger_after ledger events).state ≡ after_events ledger.state events
states_after ledger [] = refl
states_after ledger (e ∷ events) = states_after (ledger_after ledger e) events ∙ ap (λ s. after_events s events) (state_after ledger e)

pub state_is : (volume : Volume) (events : List Event) → (ledger_of volume events).state ≡ state_of volume events
state_is volume events = states_after (mounted_ledger volume) events

legal_at : (state : State) (front : List Event) (e : Event) → IsLegalFrom state (front ++ e ∷ []) → MayCome (after_events state front) e
legal_at state [] e legal = legal.0
legal_at state (first ∷ front) e legal = legal_at (after state first) front e legal.1

-- ---- operations that were short

short_is : (current : RunVolume) (op : Op) (indexes : List ℕ) (free needed : ℕ) → IsOpEnd current op indexes (ends.Short free needed) → (free < needed) × (needed ≡ need current op)
short_is current op indexes free _ (IsShort own few) = (few, refl)

pub short_true : (blocks : ℕ) (use_ : InUse) (volume : Volume) (front : List Event) (caller : ℕ) (op : Op) (again : Bool) (free needed : ℕ) (indexes : List ℕ)
    → IsLegal volume (front ++ event.Op caller op again (ends.Short free needed) indexes ∷ []) → IsInUse blocks use_ volume (front ++ event.Op caller op again (ends.Short free needed) indexes ∷ []) → ShortIsTrue blocks (ledger_of volume front) op free needed
short_true blocks use_ volume front caller op again free needed indexes legal is_in_use =
    let e = event.Op caller op again (ends.Short free needed) indexes in
    let all = all_bound blocks use_ front (e ∷ []) (mounted_ledger volume) (mounted_bound use_ volume is_in_use.behind_mount) is_in_use.each in
    let may : MayCome (ledger_of volume front).state e = subst (λ s. MayCome s e) (sym (state_is volume front)) (legal_at (mounted_state volume) front e legal) in
    let short = short_is (ledger_of volume front).state.current op indexes free needed may.1 in
    record { too_few = short.0; of_op = short.1; has_free = bound_free blocks use_ (ledger_of volume front) free all.0 all.1.0.shows }

-- ---- log steps that found too little room

reason_of : (log : SubLog) (current : Subvolume) (ino : ℕ) (datasync : Bool) (room : RoomNumbers) (reason : Reason) → IsLogEnd log current ino datasync room (logged.Full reason) → commit_reason current log.logged ino datasync room ≡ Some reason
reason_of log current ino datasync room _ (Commits reason not_already e) = e

pub record SpaceOf (room : RoomNumbers) (free needed : ℕ) : Type 0 where
  pub of_room : free ≡ room.free
  pub of_step : needed ≡ step_need room
  pub too_few : free < needed

space_of : (room : RoomNumbers) (free needed : ℕ) → room_reason room ≡ Some (reasons.Space free needed) → SpaceOf room free needed
space_of room free needed e = elim (cases_Bool (nat_lt room.free (step_need room))) [
  | inl few ↦
      let is : Some (reasons.Space room.free (step_need room)) ≡ Some (reasons.Space free needed) = sym (ap (λ b. cond b (Some (reasons.Space room.free (step_need room))) (cond (nat_lt 0 room.failed) (Some (reasons.FailedLog room.failed)) None)) few) ∙ e in
      let one : room.free ≡ free = cc in
      let two : step_need room ≡ needed = cc in
      let low = ltb-true room.free (step_need room) few in
      record { of_room = sym one; of_step = sym two; too_few = omega (arith, low, one, two) }
  | inr enough ↦
      let is : cond (nat_lt 0 room.failed) (Some (reasons.FailedLog room.failed)) None ≡ Some (reasons.Space free needed) = sym (ap (λ b. cond b (Some (reasons.Space room.free (step_need room))) (cond (nat_lt 0 room.failed) (Some (reasons.FailedLog room.failed)) None)) enough) ∙ e in
      absurd (not_failed (nat_lt 0 room.failed) is)
]
  where
    not_failed : (b : Bool) → cond b (Some (reasons.FailedLog room.failed)) None ≡ Some (reasons.Space free needed) → ⊥
    not_failed true x = cc
    not_failed false x = some_none (reasons.Space free needed) (sym x)

space_reason : (current logged_sub : Subvolume) (ino : ℕ) (datasync : Bool) (room : RoomNumbers) (free needed : ℕ) → commit_reason current logged_sub ino datasync room ≡ Some (reasons.Space free needed) → SpaceOf room free needed
space_reason current logged_sub ino datasync room free needed e = by_conflicts (nat_lt most_conflicts (length (conflicts_of current logged_sub ino datasync))) (stranded_of current logged_sub ino datasync) e
  where
    by_stranded : (o : Option ℕ) → (elim o as (λ x. Option Reason) [ None ↦ room_reason room | Some dir ↦ Some (reasons.GoneDir (record { 0 = dir })) ]) ≡ Some (reasons.Space free needed) → SpaceOf room free needed
    by_stranded None x = space_of room free needed x
    by_stranded (Some dir) x = absurd (cc)

    by_conflicts : (b : Bool) (o : Option ℕ) → cond b (Some (reasons.Conflicts (length (conflicts_of current logged_sub ino datasync)))) (elim o as (λ x. Option Reason) [ None ↦ room_reason room | Some dir ↦ Some (reasons.GoneDir (record { 0 = dir })) ]) ≡ Some (reasons.Space free needed) → SpaceOf room free needed
    by_conflicts true o x = absurd (cc)
    by_conflicts false o x = by_stranded o x

pub space_true : (blocks : ℕ) (use_ : InUse) (volume : Volume) (front : List Event) (caller : ℕ) (sub : SubId) (ino : Ino) (datasync : Bool) (free needed : ℕ)
    → IsInUse blocks use_ volume (front ++ event.Log caller sub ino (logged.Full (reasons.Space free needed)) datasync ∷ []) → SpaceIsTrue blocks (ledger_of volume front) sub.0 ino.0 datasync free needed
space_true blocks use_ volume front caller sub ino datasync free needed is_in_use =
    let e = event.Log caller sub ino (logged.Full (reasons.Space free needed)) datasync in
    let ledger = ledger_of volume front in
    let all = all_bound blocks use_ front (e ∷ []) (mounted_ledger volume) (mounted_bound use_ volume is_in_use.behind_mount) is_in_use.each in
    let shows : EndsByRoom blocks use_ ledger sub.0 ino.0 (logged.Full (reasons.Space free needed)) datasync = all.1.0.shows in
    let room : RoomNumbers = room_now blocks use_ ledger sub.0 ino.0 datasync in
    let space = space_reason shows.run.sub shows.log.logged ino.0 datasync room free needed (reason_of shows.log shows.run.sub ino.0 datasync room (reasons.Space free needed) shows.ends) in
    record {
      tree_blocks = use_.trees ledger.count;
      too_few = space.too_few;
      of_step = space.of_step;
      of_trees = all.1.0.trees;
      has_free = bound_free blocks use_ ledger free all.0 space.of_room;
    }
