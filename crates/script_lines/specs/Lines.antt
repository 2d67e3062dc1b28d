-- What a run of a script's lines comes to, and its text.
use Rattle.std.specs.Prelude.{◌≡◌, ◌≤◌, ℕ, List, [], ◌∷◌, ◌++◌, length, All, Option, Result, Ok, Err}
use Rattle.call_steps.specs.Standing.{IsAllowed}
use Rattle.commit_images.specs.Scene.{Mounted}
use Rattle.flat_model.specs.declared.answer.Answer.{Answer}
use Rattle.flat_model.specs.declared.request.Line.{Line}
use Rattle.flat_model.specs.declared.request.Line.TheVariants.{Plain, Start, Step, End}
use Rattle.flat_model.specs.declared.request.Request.{Request}
use Rattle.io_edge.specs.Edge.{Takes, TakesFront}
use Rattle.script_answer.specs.Words.{answer_line, done_line}
use Rattle.volume_calls.specs.Between.{Between}
use Rattle.volume_calls.specs.Calls.{IsCalled, IsLeft}
use Rattle.script_lines.specs.declared.fault.RunFault.{RunFault}
use Rattle.script_lines.specs.declared.fault.RunFault.TheVariants as faults

-- a line that is run: a call that begins and ends, of a caller, 1 to 16, with a request that may be called
abbrev pub IsAllowedLine : Line → Type 0
IsAllowedLine (Plain caller request) = (1 ≤ caller) × (caller ≤ 16) × IsAllowed request
IsAllowedLine line = ⊥

abbrev pub AreAllowed : List Line → Type 0
AreAllowed lines = All IsAllowedLine lines

-- the calls of these lines were made, one after the other, with these answers (own)
abbrev pub AreCalled : Mounted → Between → List Line → List Answer → Between → Type 0
AreCalled mounted before [] [] after = after ≡ before
AreCalled mounted before [] (answer ∷ answers) after = ⊥
AreCalled mounted before (line ∷ lines) [] after = ⊥
AreCalled mounted before (Plain caller request ∷ lines) (answer ∷ answers) after =
    (next : Between) × IsCalled mounted caller request answer before next × AreCalled mounted next lines answers after
AreCalled mounted before (line ∷ lines) (answer ∷ answers) after = ⊥

-- ---- the text

-- the caller of a line
abbrev pub line_caller : Line → ℕ
line_caller (Plain caller request) = caller
line_caller (Start caller request) = caller
line_caller (Step caller) = caller
line_caller (End caller) = caller

-- the lines of the text for these calls, one for each (own)
abbrev pub calls_text : List Line → List Answer → List ℕ
calls_text (line ∷ lines) (answer ∷ answers) = answer_line (line_caller line) answer ++ calls_text lines answers
calls_text (line ∷ lines) [] = []
calls_text [] answers = []

-- the whole text of a script's run (own)
abbrev pub run_text : List Line → List Answer → List ℕ
run_text lines answers = calls_text lines answers ++ done_line (length lines)

-- the sink took a text whole, and a prefix of one more (own)
pub record TakesUpTo (whole last : List ℕ) (taken now : Option (List ℕ)) : Type 0 where
  pub mid : Option (List ℕ)
  pub before : Takes taken whole mid
  pub part : TakesFront mid last now

-- ---- how a run ends

-- How a run of lines ended, and what the sink took of its text. All lines were run, and it took the whole text. Or it failed in the line of the last call that was
-- made, having taken all lines before it, or in the last line. Or memory lacked in a call, and it took the lines of all calls before that (own).
pub data HasRun (mounted : Mounted) (lines : List Line) (before after : Between) (taken now : Option (List ℕ)) : Result (Unit {0}) RunFault → Type 0 where
  AllRun : (answers : List Answer) → AreCalled mounted before lines answers after → Takes taken (run_text lines answers) now
      → HasRun mounted lines before after taken now (Ok tt)
  SinkFailedInLine : (front rest : List Line) (caller : ℕ) (request : Request) (answers : List Answer) (answer : Answer)
      → lines ≡ front ++ Plain caller request ∷ rest
      → AreCalled mounted before (front ++ Plain caller request ∷ []) (answers ++ answer ∷ []) after → length answers ≡ length front
      → TakesUpTo (calls_text front answers) (answer_line caller answer) taken now → HasRun mounted lines before after taken now (Err faults.Sink)
  SinkFailedAtEnd : (answers : List Answer) → AreCalled mounted before lines answers after
      → TakesUpTo (calls_text lines answers) (done_line (length lines)) taken now → HasRun mounted lines before after taken now (Err faults.Sink)
  MemoryLacked : (front rest : List Line) (caller : ℕ) (request : Request) (answers : List Answer) (mid : Between)
      → lines ≡ front ++ Plain caller request ∷ rest → AreCalled mounted before front answers mid → IsLeft mounted caller request mid after
      → Takes taken (calls_text front answers) now → HasRun mounted lines before after taken now (Err faults.OutOfMemory)

-- ---- one line

-- How the run of one line ended: its call was made, and the sink took the line of its answer; or the sink failed in that line; or memory lacked in the call, and
-- the sink took nothing (own).
pub data HasRunLine (mounted : Mounted) (line : Line) (before after : Between) (taken now : Option (List ℕ)) : Result (Unit {0}) RunFault → Type 0 where
  LineDone : (caller : ℕ) (request : Request) (answer : Answer) → line ≡ Plain caller request → IsCalled mounted caller request answer before after
      → Takes taken (answer_line caller answer) now → HasRunLine mounted line before after taken now (Ok tt)
  LineCut : (caller : ℕ) (request : Request) (answer : Answer) → line ≡ Plain caller request → IsCalled mounted caller request answer before after
      → TakesFront taken (answer_line caller answer) now → HasRunLine mounted line before after taken now (Err faults.Sink)
  LineLeft : (caller : ℕ) (request : Request) → line ≡ Plain caller request → IsLeft mounted caller request before after
      → now ≡ taken → HasRunLine mounted line before after taken now (Err faults.OutOfMemory)
