-- What is known of the calls of a run that lacked room.
use Rattle.std.proofs.Common.{◌≡◌, ℕ, zero, suc, List, [], ◌∷◌, Some, refl, sym, subst, take}
use Rattle.std.specs.Prelude.{slice_get}
use Rattle.commit_core.specs.Coming.{state_of}
use Rattle.commit_images.specs.Scene.{Mounted}
use Rattle.flat_model.proofs.Maps.{some_none, some_same}
use Rattle.flat_model.specs.declared.answer.Answer.{Answer}
use Rattle.flat_model.specs.declared.answer.Answer.TheVariants as answers
use Rattle.flat_model.specs.declared.op.Op.{Op}
use Rattle.flat_model.specs.declared.request.Line.{Line}
use Rattle.flat_model.specs.declared.request.Line.TheVariants.{Plain, Start, Step, End}
use Rattle.flat_model.specs.declared.request.Request.{Request}
use Rattle.flat_model.specs.declared.request.Request.TheVariants as requests
use Rattle.volume_calls.proofs.NoSpace.{no_space}
use Rattle.volume_calls.specs.Between.{Between}
use Rattle.volume_calls.specs.Calls.{IsCalled, LacksRoom}
use Rattle.script_lines.specs.Lines.{AreCalled}

same_caller : (one two : ℕ) (asked request : Request) → Plain one asked ≡ Plain two request → one ≡ two
same_caller one two asked request is = cc

same_request : (one two : ℕ) (asked request : Request) → Plain one asked ≡ Plain two request → asked ≡ request
same_request one two asked request is = cc

module _ (mounted : Mounted) (caller : ℕ) (op : Op) (free needed : ℕ) where
  -- the call of the first line
  first_lacks : (by : ℕ) (asked : Request) (answer : Answer) (before next : Between) → IsCalled mounted by asked answer before next → Plain by asked ≡ Plain caller (requests.Op op) → answer ≡ answers.NoSpace free needed
      → LacksRoom before.blocks (state_of mounted next.scene).current op free needed
  first_lacks by asked answer before next called is_line is_answer =
      subst (λ (blocks : ℕ). LacksRoom blocks (state_of mounted next.scene).current op free needed) called.happened.blocks
      (no_space mounted caller op free needed before next
      (subst (λ (a : Answer). IsCalled mounted caller (requests.Op op) a before next) is_answer
      (subst (λ (r : Request). IsCalled mounted caller r answer before next) (same_request by caller asked (requests.Op op) is_line)
      (subst (λ (c : ℕ). IsCalled mounted c asked answer before next) (same_caller by caller asked (requests.Op op) is_line) called))))

  pub lacks_at : (before : Between) (lines : List Line) (given : List Answer) (after : Between) → AreCalled mounted before lines given after → (place : ℕ) → slice_get lines place ≡ Some (Plain caller (requests.Op op))
      → slice_get given place ≡ Some (answers.NoSpace free needed) → (next : Between) × AreCalled mounted before (take (suc place) lines) (take (suc place) given) next × LacksRoom before.blocks (state_of mounted next.scene).current op free needed
  lacks_at before [] given after are place line answer = absurd (some_none (Plain caller (requests.Op op)) (sym line))
  lacks_at before (one ∷ lines) [] after are place line answer = absurd (some_none (answers.NoSpace free needed) (sym answer))
  lacks_at before (Plain by asked ∷ lines) (said ∷ given) after (next, called, are) zero line answer =
      (next, (next, called, refl), first_lacks by asked said before next called (some_same (Plain by asked) (Plain caller (requests.Op op)) line) (some_same said (answers.NoSpace free needed) answer))
  lacks_at before (Plain by asked ∷ lines) (said ∷ given) after (next, called, are) (suc place) line answer =
      let later = lacks_at next lines given after are place line answer in
      (later.0, (next, called, later.1), subst (λ (blocks : ℕ). LacksRoom blocks (state_of mounted later.0.scene).current op free needed) called.happened.blocks later.2)
  lacks_at before (Start by asked ∷ lines) (said ∷ given) after are place line answer = absurd are
  lacks_at before (Step by ∷ lines) (said ∷ given) after are place line answer = absurd are
  lacks_at before (End by ∷ lines) (said ∷ given) after are place line answer = absurd are
