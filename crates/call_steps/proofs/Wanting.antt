-- What a call does next: one that is over, and one that wants a full commit.
use Rattle.std.proofs.Common.{cond, ◌≡◌, ◌≢◌, ℕ, Bool, true, false, None, refl, sym, ap, subst, ◌∙◌, inl, inr}
use denote.Enum.Bare.{sameb}
use Rattle.std.specs.List.{Contains}
use Rattle.std.proofs.lemmas.Bool.{true≢false}
use Rattle.flat_model.specs.declared.op.Op.{Op}
use Rattle.flat_model.specs.declared.request.Request.{Request}
use Rattle.flat_model.specs.declared.request.Request.TheVariants as requests
use Rattle.flat_model.proofs.Maps.{some_none}
use Rattle.commit_history.specs.declared.event.Cover.{Cover}
use Rattle.commit_history.specs.declared.event.Cover.TheVariants as covers
use Rattle.commit_history.specs.contracts.event.Cover.{the_type}
use Rattle.commit_history.specs.State.{State}
use Rattle.commit_history.specs.Legal.{HoldsFull}
use Rattle.commit_history.specs.Calls.{Asks, Begins, Call, Commits, GaveUp, GivesUp, InRoot, Part, Sealed, SealsRoot, SealsSub, Unsealed, Written, is_open_number, is_stopped, ticket_duty, Ended, EndsFull, HasTicket, SealsFull, Stage, Syncs, TriesAgain, WasShort, answer_of, asked, begun, duty, want_duty, with_seal}
use Rattle.commit_history.proofs.CallsOf.{finished_begins}
use Rattle.commit_images.specs.Scene.{Mounted, Scene}
use Rattle.commit_core.specs.Coming.{IsUnfinished, call_in, state_of}
use Rattle.commit_laws.proofs.Roles.{Wants, cover_role, role_of}
use Rattle.commit_laws.proofs.Standing.{Own}
use Rattle.commit_laws.proofs.Sane.{CoverSane, wants_busy}
use Rattle.commit_laws.proofs.Reaching.{AllStand, stand_after}
use Rattle.call_steps.specs.Orderly.{IsOrderly}
use Rattle.call_steps.specs.Standing.{IsOver, WantsFull}

abbrev pub call_at : Stage → Cover → ℕ → Call
call_at stage cover events = record { stage = stage; cover = cover; events = events }

-- ---- a call that is over

pub over_begins : (state : State) (call : Call) → IsOver call → duty state call ≡ Begins
over_begins state call (inl none) = at call.cover ∙ refl
  where
    at : (cover : Cover) → duty state (call_at call.stage cover call.events) ≡ Begins
    at covers.Open = ap (λ s. duty state (call_at s covers.Open call.events)) none
    at covers.Root = refl
    at covers.Full = ap (λ s. duty state (call_at s covers.Full call.events)) none
over_begins state call (inr (answer, is)) = finished_begins state call answer is

pub over_asks : (call : Call) (failures : ℕ) → IsOver call → asked call failures ≡ begun (Syncs false)
over_asks call failures over = at call.stage call.cover refl refl
  where
    ticket : (sub number : ℕ) (part : Rattle.commit_history.specs.Calls.Part) → call.stage ≡ HasTicket sub number part → call.cover ≡ covers.Open → IsOver call → ⊥
    ticket sub number part e is (inl none) = absurd (let both : HasTicket sub number part ≡ Ended None = sym e ∙ none in cc)
    ticket sub number part e is (inr (answer, told)) =
        some_none answer (sym told ∙ ap (λ s. answer_of (call_at s call.cover call.events)) e ∙ ap (λ c. answer_of (call_at (HasTicket sub number part) c call.events)) is)

    at : (stage : Stage) (cover : Cover) → call.stage ≡ stage → call.cover ≡ cover → asked (call_at stage cover call.events) failures ≡ begun (Syncs false)
    at (Ended answer) cover e is = refl
    at (WasShort op sealed) cover e is = refl
    at (Commits reason sealed) cover e is = refl
    at (Syncs sealed) cover e is = refl
    at (HasTicket sub number part) covers.Root e is = refl
    at (HasTicket sub number part) covers.Full e is = refl
    at (HasTicket sub number part) covers.Open e is = absurd (ticket sub number part e is over)

-- ---- a call that wants a full commit

-- the stage of a want
pub data IsWant (request : Request) (stage : Stage) : Type 0 where
  OfOp : (op : Op) (sealed : Bool) → request ≡ requests.Op op → stage ≡ WasShort op sealed → IsWant request stage
  OfSync : (sealed : Bool) → request ≡ requests.Sync → stage ≡ Syncs sealed → IsWant request stage

pub want_of : (request : Request) (stage : Stage) → WantsFull request stage → IsWant request stage
want_of (requests.Op op) stage (sealed, is) = OfOp op sealed refl is
want_of requests.Sync stage (sealed, is) = OfSync sealed refl is
want_of (requests.Fsync place) stage wants = absurd wants
want_of (requests.Fdatasync place) stage wants = absurd wants

pub want_unfinished : (request : Request) (call : Call) → WantsFull request call.stage → IsUnfinished call
want_unfinished request call wants answer ended = at (want_of request call.stage wants)
  where
    at : IsWant request call.stage → ⊥
    at (OfOp op sealed of is) = let both : WasShort op sealed ≡ Ended answer = sym is ∙ ended in cc
    at (OfSync sealed of is) = let both : Syncs sealed ≡ Ended answer = sym is ∙ ended in cc

-- a want that no commit has covered
want_role : (request : Request) (stage : Stage) (events : ℕ) → WantsFull request stage → (sealed : Bool) × (role_of (call_at stage covers.Open events) ≡ Wants sealed)
want_role request stage events wants = at (want_of request stage wants)
  where
    at : IsWant request stage → (sealed : Bool) × (role_of (call_at stage covers.Open events) ≡ Wants sealed)
    at (OfOp op sealed of is) = (sealed, ap (cover_role covers.Open) is)
    at (OfSync sealed of is) = (sealed, ap (cover_role covers.Open) is)

pub sealed_stays : (request : Request) (stage : Stage) → WantsFull request stage → WantsFull request (with_seal stage)
sealed_stays request stage wants = at (want_of request stage wants)
  where
    at : IsWant request stage → WantsFull request (with_seal stage)
    at (OfOp op sealed of is) = subst (λ r. WantsFull r (with_seal stage)) (sym of) (true, ap with_seal is)
    at (OfSync sealed of is) = subst (λ r. WantsFull r (with_seal stage)) (sym of) (true, ap with_seal is)

-- a call that has its full commit to end runs it
ends_role : (state : State) (cover : Cover) (stage : Stage) (events : ℕ) → duty state (call_at stage cover events) ≡ EndsFull → cover_role cover stage ≡ Wants true
ends_role state cover stage events ends = at cover stage ends
  where
    want : (sealed : Bool) → want_duty sealed ≡ EndsFull → Wants sealed ≡ Wants true
    want true e = refl
    want false e = absurd (cc)

    ticket : (sub number : ℕ) (part : Part) → ticket_duty state sub number part ≡ EndsFull → ⊥
    ticket sub number Unsealed = elim (is_stopped state sub number) as (λ b. cond b Asks (cond (is_open_number state sub number) (SealsSub sub number) SealsRoot) ≡ EndsFull → ⊥) [
      | true ↦ λ e. cc
      | false ↦ elim (is_open_number state sub number) as (λ b. cond b (SealsSub sub number) SealsRoot ≡ EndsFull → ⊥) [ true ↦ λ e. cc | false ↦ λ e. cc ]
    ]
    ticket sub number Sealed = λ e. cc
    ticket sub number Written = elim (is_stopped state sub number) as (λ b. cond b (GivesUp sub number) SealsRoot ≡ EndsFull → ⊥) [ true ↦ λ e. cc | false ↦ λ e. cc ]
    ticket sub number InRoot = λ e. cc
    ticket sub number GaveUp = λ e. cc

    at : (c : Cover) (s : Stage) → duty state (call_at s c events) ≡ EndsFull → cover_role c s ≡ Wants true
    at covers.Open (Ended answer) e = absurd (cc)
    at covers.Open (WasShort op sealed) e = want sealed e
    at covers.Open (Commits reason sealed) e = want sealed e
    at covers.Open (Syncs sealed) e = want sealed e
    at covers.Open (HasTicket sub number part) e = absurd (ticket sub number part e)
    at covers.Root s e = absurd (cc)
    at covers.Full (Ended answer) e = absurd (cc)
    at covers.Full (WasShort op sealed) e = absurd (cc)
    at covers.Full (Commits reason sealed) e = absurd (cc)
    at covers.Full (Syncs sealed) e = absurd (cc)
    at covers.Full (HasTicket sub number part) e = absurd (cc)

module _ (mounted : Mounted) (scene : Scene) (orderly : IsOrderly mounted scene) (caller : ℕ) where
  abbrev state : State
  state = state_of mounted scene

  abbrev past : Call
  past = call_in mounted scene caller

  all_stand : AllStand (state_of mounted scene) (λ other. call_in mounted scene other)
  all_stand = stand_after mounted.volume orderly.coherent scene.events orderly.legal orderly.ruled

  -- the caller that runs the full commit
  pub holder_wants : HoldsFull state caller → role_of past ≡ Wants true
  holder_wants holds = let held = all_stand.stands.full_held holds.commit holds.runs in ap (λ c. role_of (call_in mounted scene c)) (sym holds.own) ∙ held.is

  pub holder_ends : HoldsFull state caller → duty state past ≡ EndsFull
  holder_ends holds = (wants_busy state past true (all_stand.sane caller) (holder_wants holds)).does

  pub ends_holds : duty state past ≡ EndsFull → HoldsFull state caller
  ends_holds ends = (subst (Own state caller) (ends_role state past.cover past.stage past.events ends) (all_stand.stands.own caller)).1

  pub holder_open : HoldsFull state caller → past.cover ≡ covers.Open
  holder_open holds = at past.cover (holder_wants holds)
    where
      at : (cover : Cover) → cover_role cover past.stage ≡ Wants true → cover ≡ covers.Open
      at covers.Open e = refl
      at covers.Root e = absurd (cc)
      at covers.Full e = absurd (cc)

  -- a call that wants a full commit, and isn't covered by one
  module _ (request : Request) (wants : WantsFull request past.stage) (uncovered : past.cover ≢ covers.Full) where
    pub want_open : past.cover ≡ covers.Open
    want_open = at past.cover refl (all_stand.sane caller) (want_of request past.stage wants)
      where
        at : (cover : Cover) → past.cover ≡ cover → CoverSane cover past.stage past.events → IsWant request past.stage → cover ≡ covers.Open
        at covers.Open e sane want = refl
        at covers.Full e sane want = absurd (uncovered e)
        at covers.Root e sane (OfOp op sealed of is) = absurd (subst (λ s. CoverSane covers.Root s past.events) is sane)
        at covers.Root e sane (OfSync sealed of is) = absurd (subst (λ s. CoverSane covers.Root s past.events) is sane)

    module _ (apart : HoldsFull state caller → ⊥) where
      want_is : role_of past ≡ Wants false
      want_is = at (want_role request past.stage past.events wants)
        where
          at : (sealed : Bool) × (role_of (call_at past.stage covers.Open past.events) ≡ Wants sealed) → role_of past ≡ Wants false
          at (true, is) = absurd (apart (subst (Own state caller) (ap (λ c. cover_role c past.stage) want_open ∙ is) (all_stand.stands.own caller)).1)
          at (false, is) = ap (λ c. cover_role c past.stage) want_open ∙ is

      pub want_seals : duty state past ≡ SealsFull
      want_seals = (wants_busy state past false (all_stand.sane caller) want_is).does

      pub want_is_there : Contains state.wants caller
      want_is_there = (subst (Own state caller) want_is (all_stand.stands.own caller)).0

-- ---- whether a cover is that of a full commit

pub is_full : (cover : Cover) → sameb the_type cover covers.Full ≡ true → cover ≡ covers.Full
is_full covers.Open e = absurd (true≢false (sym e))
is_full covers.Root e = absurd (true≢false (sym e))
is_full covers.Full e = refl

pub not_full : (cover : Cover) → sameb the_type cover covers.Full ≡ false → cover ≢ covers.Full
not_full cover e is = true≢false (ap (λ c. sameb the_type c covers.Full) (sym is) ∙ e)
