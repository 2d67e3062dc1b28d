-- What the turns, slots, tickets and wants of a state say of its callers, and the other way round.
use Rattle.std.proofs.Common.{◌≡◌, ◌≢◌, ℕ, ◌<◌, ◌≤◌, Bool, true, false, Some, refl, sym, subst, inl, inr, ◌⊎◌}
use Rattle.std.specs.Bool.{⊤}
use Rattle.std.specs.List.{Contains}
use Rattle.std.proofs.lemmas.Bool.{cases_eq}
use Rattle.commit_history.specs.State.{Slot, SubLog, Ticket, RootCommit, FullCommit, State, HasLog, is_taken}
use Rattle.commit_history.specs.Legal.{HoldsRoot, HoldsFull}
use Rattle.commit_history.specs.Calls.{Part, Unsealed, Sealed, Written, InRoot, GaveUp}
use Rattle.commit_laws.proofs.Roles.{Role, Idle, Holds, Wants, IsLoose}

-- ---- what a resource says of its holder

-- the holder of the root turn has a ticket that its commit takes
pub record RootHeld (commit : RootCommit) (role : Role) : Type 0 where
  pub sub : ℕ
  pub number : ℕ
  pub is : role ≡ Holds sub number InRoot
  pub taken : is_taken (Some commit) sub number ≡ true

-- the holder of the full turn wanted it when it was sealed
pub record FullHeld (commit : FullCommit) (role : Role) : Type 0 where
  pub is : role ≡ Wants true
  pub wanted : Contains commit.wants commit.holder

-- a slot is written where its holder's part is
abbrev pub IsPartOf : Bool → Part → Type 0
IsPartOf written Unsealed = ⊥
IsPartOf written Sealed = written ≡ false
IsPartOf written Written = written ≡ true
IsPartOf written InRoot = written ≡ true
IsPartOf written GaveUp = ⊥

pub record SlotHeld (id : ℕ) (slot : Slot) (role : Role) : Type 0 where
  pub part : Part
  pub is : role ≡ Holds id slot.number part
  pub fits : IsPartOf slot.written part

pub record WantHeld (role : Role) : Type 0 where
  pub sealed : Bool
  pub is : role ≡ Wants sealed

-- the numbers and slots of a log
pub record LogStands (failures : ℕ) (log : SubLog) : Type 0 where
  pub one_slot : (one two : Slot) → Contains log.slots one → Contains log.slots two → one.number ≡ two.number → one ≡ two
  pub slots_below : (slot : Slot) → Contains log.slots slot → slot.number < log.open_number
  pub has_slots : (number : ℕ) → failures ≡ 0 → log.covered < number → number < log.open_number → (slot : Slot) × Contains log.slots slot × (slot.number ≡ number)
  pub undurable_above : (number : ℕ) → log.undurable ≡ Some number → log.covered < number

-- ---- what a role says of the state

pub record HasTicket (state : State) (caller sub number : ℕ) : Type 0 where
  pub ticket : Contains state.tickets (record { caller = caller; sub = sub; number = number })
  pub log : SubLog
  pub of_sub : HasLog state sub log
  pub above : log.covered < number
  pub up_to_open : number ≤ log.open_number

pub record HasSlot (state : State) (caller sub number : ℕ) (written : Bool) : Type 0 where
  pub log : SubLog
  pub of_sub : HasLog state sub log
  pub slot : Contains log.slots (record { number = number; holder = caller; written = written })

abbrev pub OwnPart : State → ℕ → ℕ → ℕ → Part → Type 0
OwnPart state caller sub number Unsealed = ⊤
OwnPart state caller sub number Sealed = HasSlot state caller sub number false
OwnPart state caller sub number Written = HasSlot state caller sub number true
OwnPart state caller sub number InRoot = HoldsRoot state caller
OwnPart state caller sub number GaveUp = ⊤

abbrev pub OwnTurn : State → ℕ → Bool → Type 0
OwnTurn state caller true = HoldsFull state caller
OwnTurn state caller false = ⊤

abbrev pub Own : State → ℕ → Role → Type 0
Own state caller Idle = ⊤
Own state caller (Holds sub number part) = HasTicket state caller sub number × OwnPart state caller sub number part
Own state caller (Wants sealed) = Contains state.wants caller × OwnTurn state caller sealed

-- ---- both together

pub record Stands (state : State) (role : ℕ → Role) : Type 0 where
  pub root_held : (commit : RootCommit) → state.root ≡ Some commit → RootHeld commit (role commit.holder)
  pub full_held : (commit : FullCommit) → state.full ≡ Some commit → FullHeld commit (role commit.holder)
  pub slot_held : (id : ℕ) (log : SubLog) → HasLog state id log → (slot : Slot) → Contains log.slots slot → SlotHeld id slot (role slot.holder)
  pub logs : (id : ℕ) (log : SubLog) → HasLog state id log → LogStands state.failures log
  pub one_ticket : (one two : Ticket) → Contains state.tickets one → Contains state.tickets two → one.caller ≡ two.caller → one ≡ two
  pub want_held : (caller : ℕ) → Contains state.wants caller → WantHeld (role caller)
  pub own : (caller : ℕ) → Own state caller (role caller)

-- ---- roles apart

pub loose_slot : (id : ℕ) (slot : Slot) (role : Role) → SlotHeld id slot role → IsLoose role → ⊥
loose_slot id slot role held loose = by_part held.part held.fits (subst IsLoose held.is loose)
  where
    by_part : (part : Part) → IsPartOf slot.written part → IsLoose (Holds id slot.number part) → ⊥
    by_part Unsealed fits l = fits
    by_part Sealed fits l = l
    by_part Written fits l = l
    by_part InRoot fits l = l
    by_part GaveUp fits l = fits

pub loose_want : (role : Role) → WantHeld role → IsLoose role → ⊥
loose_want role held loose = subst IsLoose held.is loose

pub loose_root : (commit : RootCommit) (role : Role) → RootHeld commit role → IsLoose role → ⊥
loose_root commit role held loose = subst IsLoose held.is loose

pub loose_full : (commit : FullCommit) (role : Role) → FullHeld commit role → IsLoose role → ⊥
loose_full commit role held loose = subst IsLoose held.is loose

-- ---- what an event leaves of what a caller has

pub record Leaves (state later : State) (caller : ℕ) (role : Role) : Type 0 where
  pub root : HoldsRoot state caller → HoldsRoot later caller
  pub full : HoldsFull state caller → HoldsFull later caller
  pub ticket : (sub number : ℕ) (part : Part) → role ≡ Holds sub number part → HasTicket state caller sub number → HasTicket later caller sub number
  pub slot : (sub number : ℕ) (part : Part) (written : Bool) → role ≡ Holds sub number part → HasSlot state caller sub number written → HasSlot later caller sub number written
  pub want : Contains state.wants caller → Contains later.wants caller

pub own_left : (state later : State) (caller : ℕ) (role : Role) → Leaves state later caller role → Own state caller role → Own later caller role
own_left state later caller Idle leaves own = tt
own_left state later caller (Wants true) leaves own = (leaves.want own.0, leaves.full own.1)
own_left state later caller (Wants false) leaves own = (leaves.want own.0, tt)
own_left state later caller (Holds sub number Unsealed) leaves own = (leaves.ticket sub number Unsealed refl own.0, tt)
own_left state later caller (Holds sub number Sealed) leaves own = (leaves.ticket sub number Sealed refl own.0, leaves.slot sub number Sealed false refl own.1)
own_left state later caller (Holds sub number Written) leaves own = (leaves.ticket sub number Written refl own.0, leaves.slot sub number Written true refl own.1)
own_left state later caller (Holds sub number InRoot) leaves own = (leaves.ticket sub number InRoot refl own.0, leaves.root own.1)
own_left state later caller (Holds sub number GaveUp) leaves own = (leaves.ticket sub number GaveUp refl own.0, tt)

-- ---- all that stays where one caller acts and no commit ends

-- `by` acts; what others hold is left, and what there is afterwards is of others as before, or `by`'s
pub record Moves (state later : State) (role next : ℕ → Role) (by : ℕ) : Type 0 where
  pub others : (caller : ℕ) → caller ≢ by → next caller ≡ role caller
  pub root_was : (commit : RootCommit) → later.root ≡ Some commit → (state.root ≡ Some commit) × (commit.holder ≢ by) ⊎ RootHeld commit (next commit.holder)
  pub full_was : (commit : FullCommit) → later.full ≡ Some commit → (state.full ≡ Some commit) × (commit.holder ≢ by) ⊎ FullHeld commit (next commit.holder)
  pub slot_was : (id : ℕ) (log : SubLog) → HasLog later id log → (slot : Slot) → Contains log.slots slot
      → ((old : SubLog) × HasLog state id old × Contains old.slots slot × (slot.holder ≢ by)) ⊎ SlotHeld id slot (next slot.holder)
  pub logs : (id : ℕ) (log : SubLog) → HasLog later id log → LogStands later.failures log
  pub one_ticket : (one two : Ticket) → Contains later.tickets one → Contains later.tickets two → one.caller ≡ two.caller → one ≡ two
  pub want_was : (caller : ℕ) → Contains later.wants caller → Contains state.wants caller × (caller ≢ by) ⊎ WantHeld (next caller)
  pub leaves : (caller : ℕ) → caller ≢ by → Leaves state later caller (role caller)
  pub own : Own later by (next by)

pub moved : (state later : State) (role next : ℕ → Role) (by : ℕ) → Stands state role → Moves state later role next by → Stands later next
moved state later role next by stands moves = record {
  root_held = λ commit runs. elim (moves.root_was commit runs) [
    | inl was ↦ subst (RootHeld commit) (sym (moves.others commit.holder was.1)) (stands.root_held commit was.0)
    | inr new ↦ new
  ];
  full_held = λ commit runs. elim (moves.full_was commit runs) [
    | inl was ↦ subst (FullHeld commit) (sym (moves.others commit.holder was.1)) (stands.full_held commit was.0)
    | inr new ↦ new
  ];
  slot_held = λ id log has slot c. elim (moves.slot_was id log has slot c) [
    | inl was ↦ subst (SlotHeld id slot) (sym (moves.others slot.holder was.3)) (stands.slot_held id was.0 was.1 slot was.2)
    | inr new ↦ new
  ];
  logs = moves.logs;
  one_ticket = moves.one_ticket;
  want_held = λ caller c. elim (moves.want_was caller c) [
    | inl was ↦ subst WantHeld (sym (moves.others caller was.1)) (stands.want_held caller was.0)
    | inr new ↦ new
  ];
  own = λ caller. elim (cases_eq caller by) [
    | inl same ↦ subst (λ c. Own later c (next c)) (sym same) moves.own
    | inr other ↦ subst (Own later caller) (sym (moves.others caller other)) (own_left state later caller (role caller) (moves.leaves caller other) (stands.own caller))
  ];
}
