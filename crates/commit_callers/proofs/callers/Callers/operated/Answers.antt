use Rattle.std.proofs.Common.{◌≡◌, ◌++◌, ◌∷◌, [], ℕ, Bool, List, ap, sym, ◌∙◌, inl, inr}
use Rattle.flat_model.specs.declared.op.Op.{Op}
use Rattle.flat_model.specs.Volume.{Volume}
use Rattle.commit_history.specs.declared.event.Event.{Event}
use Rattle.commit_history.specs.declared.event.Event.TheVariants as event
use Rattle.commit_history.specs.declared.event.OpEnd.{OpEnd}
use Rattle.commit_history.specs.Calls.{call_of}
use Rattle.commit_history.specs.Effects.{after, state_of, wants_after_op}
use Rattle.commit_callers.specs.declared.callers.Callers.{Callers}
use Rattle.commit_callers.specs.declared.covered.Covered.{Covered}
use Rattle.commit_callers.specs.declared.wants.Wants.{Wants}
use Rattle.commit_callers.specs.GoWith.{GoWith}
use Rattle.commit_callers.specs.Wants.{callers_in}
use Rattle.commit_callers.proofs.Behind.{goes_on}
use Rattle.commit_callers.proofs.Known.{IsCleared, operated_known, other_wants, short_wants}
use Rattle.commit_callers.proofs.Quiet.{operated_quiet}
use Rattle.commit_callers.proofs.callers.Callers.operated.Goals as goal

-- callers of whom one was cleared, with the wants after the operation
goes : (old : Callers) (wants : Wants) (covered : Covered) (by : ℕ) → IsCleared old.covered covered by → (volume : Volume) (events : List Event) (op : Op) (again : Bool) (end : OpEnd) (indexes : List ℕ) → GoWith old volume events
    → callers_in wants ≡ wants_after_op (callers_in old.wants) by again end → GoWith (record { wants = wants; full = old.full; covered = covered }) volume (events ++ event.Op by op again end indexes ∷ [])
unfolding after
goes old wants covered by cleared volume events op again end indexes go now =
    let state = state_of volume events in
    goes_on _ volume events (event.Op by op again end indexes)
    (now ∙ ap (λ before. wants_after_op before by again end) go.wants)
    go.full
    (operated_quiet state go.quiet by op again end indexes)
    (λ caller. operated_known old.covered covered by cleared state.wants state op again end indexes caller (call_of volume events caller) (go.calls caller))

pub returns-then-not-again : goal.returns-then-not-again
returns-then-not-again c = λ volume events op end indexes short go.
    goes c.args.self.now c.add.new.self c.clear.new.self c.args.caller (record { own = c.clear.ensures.own; others = c.clear.ensures.others }) volume events op c.args.again end indexes go
    (c.add.ensures ∙ sym (short_wants _ c.args.caller c.args.again end (short ∙ c.if-short.true) c.if-not-again.true))

pub returns-else-short : goal.returns-else-short
returns-else-short c = λ volume events op end indexes short go.
    goes c.args.self.now c.args.self.now.wants c.clear.new.self c.args.caller (record { own = c.clear.ensures.own; others = c.clear.ensures.others }) volume events op c.args.again end indexes go
    (sym (other_wants _ c.args.caller c.args.again end (elim c.else-short.either [ inl both ↦ inl (short ∙ both.0, both.1) | inr long ↦ inr (short ∙ long) ])))
