-- What events of other callers leave of a call, and what a covered call does next.
use Rattle.std.proofs.Common.{◌≡◌, ◌≢◌, ℕ, Bool, false, cond, refl, ap, ◌∙◌}
use Rattle.std.proofs.lemmas.Bool.{ne_eqb}
use Rattle.commit_history.specs.declared.event.Event.{Event}
use Rattle.commit_history.specs.declared.event.Event.TheVariants as event
use Rattle.commit_history.specs.declared.event.Cover.{Cover}
use Rattle.commit_history.specs.declared.event.Cover.TheVariants as covers
use Rattle.commit_history.specs.State.{State, is_taken}
use Rattle.commit_history.specs.Calls.{Part, Stage, Ended, WasShort, HasTicket, Commits, Syncs, Call, asked, covered_by, is_covered_by_root, is_covered_by_full, after_own, after_other, caller_of, call_after, duty}
use Rattle.commit_laws.specs.Answers.{is_of_commit}

-- a covered call
pub covered_duty : (state : State) (call : Call) → call.cover ≢ covers.Open → is_of_commit (duty state call) ≡ false
covered_duty state call is_covered = at call.cover call.stage refl
  where
    at : (cover : Cover) (stage : Stage) → call.cover ≡ cover → is_of_commit (duty state (record { stage = stage; cover = cover; events = call.events })) ≡ false
    at covers.Open stage e = absurd (is_covered e)
    at covers.Root stage e = refl
    at covers.Full (Ended answer) e = refl
    at covers.Full (WasShort op sealed) e = refl
    at covers.Full (HasTicket sub number part) e = refl
    at covers.Full (Commits reason sealed) e = refl
    at covers.Full (Syncs sealed) e = refl

-- a caller's own event
pub own_same : (one two : State) (caller : ℕ) (call : Call) (e : Event) → one.failures ≡ two.failures → after_own one caller call e ≡ after_own two caller call e
own_same one two caller call (event.Ask by) same = ap (asked call) same
own_same one two caller call (event.Op by op again end indexes) same = refl
own_same one two caller call (event.Refused by target answer) same = refl
own_same one two caller call (event.Log by sub ino end datasync) same = refl
own_same one two caller call (event.SealSub by sub number) same = refl
own_same one two caller call (event.SubWritten by sub number) same = refl
own_same one two caller call (event.SealRoot by) same = refl
own_same one two caller call (event.RootDone by) same = refl
own_same one two caller call (event.SealFull by) same = refl
own_same one two caller call (event.FullDone by) same = refl
own_same one two caller call (event.Failed by turn tried) same = refl
own_same one two caller call (event.GiveUp by sub number) same = refl

-- a commit changes the cover alone, and once
covered_stage : (b : Bool) (by : Cover) (call : Call) → (covered_by b by call).stage ≡ call.stage
covered_stage b by call = at call.cover
  where
    at : (cover : Cover) → (covered_by b by (record { stage = call.stage; cover = cover; events = call.events })).stage ≡ call.stage
    at covers.Open = refl
    at covers.Root = refl
    at covers.Full = refl

covered_once : (b : Bool) (by : Cover) (call : Call) → call.cover ≢ covers.Open → covered_by b by call ≡ call
covered_once b by call is_covered = at call.cover refl
  where
    at : (cover : Cover) → call.cover ≡ cover → covered_by b by (record { stage = call.stage; cover = cover; events = call.events }) ≡ (let made : Call = record { stage = call.stage; cover = cover; events = call.events } in made)
    at covers.Open e = absurd (is_covered e)
    at covers.Root e = refl
    at covers.Full e = refl

other_stage : (state : State) (caller : ℕ) (call : Call) (e : Event) → (after_other state caller call e).stage ≡ call.stage
other_stage state caller call (event.RootDone by) = covered_stage (is_covered_by_root state call.stage) covers.Root call
other_stage state caller call (event.FullDone by) = covered_stage (is_covered_by_full state caller call.stage) covers.Full call
other_stage state caller call (event.Op by op again end indexes) = refl
other_stage state caller call (event.Refused by target answer) = refl
other_stage state caller call (event.Log by sub ino end datasync) = refl
other_stage state caller call (event.Ask by) = refl
other_stage state caller call (event.SealSub by sub number) = refl
other_stage state caller call (event.SubWritten by sub number) = refl
other_stage state caller call (event.SealRoot by) = refl
other_stage state caller call (event.SealFull by) = refl
other_stage state caller call (event.Failed by turn tried) = refl
other_stage state caller call (event.GiveUp by sub number) = refl

other_once : (state : State) (caller : ℕ) (call : Call) (e : Event) → call.cover ≢ covers.Open → after_other state caller call e ≡ call
other_once state caller call (event.RootDone by) is_covered = covered_once (is_covered_by_root state call.stage) covers.Root call is_covered
other_once state caller call (event.FullDone by) is_covered = covered_once (is_covered_by_full state caller call.stage) covers.Full call is_covered
other_once state caller call (event.Op by op again end indexes) is_covered = refl
other_once state caller call (event.Refused by target answer) is_covered = refl
other_once state caller call (event.Log by sub ino end datasync) is_covered = refl
other_once state caller call (event.Ask by) is_covered = refl
other_once state caller call (event.SealSub by sub number) is_covered = refl
other_once state caller call (event.SubWritten by sub number) is_covered = refl
other_once state caller call (event.SealRoot by) is_covered = refl
other_once state caller call (event.SealFull by) is_covered = refl
other_once state caller call (event.Failed by turn tried) is_covered = refl
other_once state caller call (event.GiveUp by sub number) is_covered = refl

pub call_of_other : (state : State) (caller : ℕ) (call : Call) (e : Event) → caller ≢ caller_of e → call_after state caller call e ≡ after_other state caller call e
call_of_other state caller call e other = ap (λ b. cond b (after_own state caller call e) (after_other state caller call e)) (ne_eqb caller (caller_of e) other)

pub stage_stays : (state : State) (caller : ℕ) (call : Call) (e : Event) → caller ≢ caller_of e → (call_after state caller call e).stage ≡ call.stage
stage_stays state caller call e other = ap (λ (c : Call). c.stage) (call_of_other state caller call e other) ∙ other_stage state caller call e

pub covered_stays : (state : State) (caller : ℕ) (call : Call) (e : Event) → caller ≢ caller_of e → call.cover ≢ covers.Open → call_after state caller call e ≡ call
covered_stays state caller call e other is_covered = call_of_other state caller call e other ∙ other_once state caller call e is_covered

-- a commit of another covers an open call
cover_of : (b : Bool) (by : Cover) (call : Call) → call.cover ≡ covers.Open → (covered_by b by call).cover ≡ cond b by covers.Open
cover_of b by call e = ap (λ (c : Cover). (covered_by b by (record { stage = call.stage; cover = c; events = call.events })).cover) e

pub root_covers : (state : State) (caller by sub number : ℕ) (part : Part) (call : Call) → caller ≢ by → call.stage ≡ HasTicket sub number part → call.cover ≡ covers.Open → (call_after state caller call (event.RootDone by)).cover ≡ cond (is_taken state.root sub number) covers.Root covers.Open
root_covers state caller by sub number part call other stage cover =
    ap (λ (c : Call). c.cover) (call_of_other state caller call (event.RootDone by) other) ∙ cover_of (is_covered_by_root state call.stage) covers.Root call cover ∙ ap (λ (s : Stage). cond (is_covered_by_root state s) covers.Root covers.Open) stage

pub full_covers : (state : State) (caller by sub number : ℕ) (part : Part) (call : Call) → caller ≢ by → call.stage ≡ HasTicket sub number part → call.cover ≡ covers.Open → (call_after state caller call (event.FullDone by)).cover ≡ covers.Full
full_covers state caller by sub number part call other stage cover =
    ap (λ (c : Call). c.cover) (call_of_other state caller call (event.FullDone by) other) ∙ cover_of (is_covered_by_full state caller call.stage) covers.Full call cover ∙ ap (λ (s : Stage). cond (is_covered_by_full state caller s) covers.Full covers.Open) stage
