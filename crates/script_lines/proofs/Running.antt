-- Lines that were run so far, one more behind them, and the end.
use Rattle.std.proofs.Common.{◌≡◌, ◌++◌, ◌∷◌, [], ℕ, List, length, Option, Some, None, Result, Ok, Err, append-nil, append_assoc, refl, sym, ap, subst, ◌∙◌, arith}
use Rattle.std.specs.Prelude.{Contains, OnOk}
use Rattle.std.specs.Result.{IsErrAnd}
use Rattle.std.proofs.lemmas.List.Elements.{All-contains, Contains-append_right}
use Rattle.disk_model.proofs.CrashLaws.{Contains-here}
use Rattle.commit_images.specs.Scene.{Mounted}
use Rattle.io_edge.specs.Edge.{Takes, TakesFront}
use Rattle.io_edge.proofs.Sinks.{Takes-joins}
use Rattle.flat_model.specs.declared.answer.Answer.{Answer}
use Rattle.flat_model.specs.declared.request.Line.{Line}
use Rattle.flat_model.specs.declared.request.Line.TheVariants.{Plain, Start, Step, End}
use Rattle.flat_model.specs.declared.request.Request.{Request}
use Rattle.script_answer.specs.Words.{answer_line, done_line}
use Rattle.disk_model.specs.Disk.{Told}
use Rattle.volume_calls.specs.Between.{Between, TellsStill}
use Rattle.volume_calls.specs.Calls.{IsCalled}
use Rattle.script_lines.specs.declared.fault.RunFault.{RunFault}
use Rattle.script_lines.specs.declared.fault.RunFault.TheVariants as faults
use Rattle.script_lines.specs.Lines.{AreAllowed, AreCalled, AllRun, HasRun, HasRunLine, IsAllowedLine, LineCut, LineDone, LineLeft, MemoryLacked, SinkFailedAtEnd, SinkFailedInLine, calls_text, line_caller}

-- ---- one call more

called_more : (mounted : Mounted) (before : Between) (lines : List Line) (answers : List Answer) (mid next : Between) (caller : ℕ) (request : Request) (answer : Answer) → AreCalled mounted before lines answers mid
    → IsCalled mounted caller request answer mid next → AreCalled mounted before (lines ++ Plain caller request ∷ []) (answers ++ answer ∷ []) next
called_more mounted before [] [] mid next caller request answer are is = (next, subst (λ (b : Between). IsCalled mounted caller request answer b next) are is, refl)
called_more mounted before [] (first ∷ answers) mid next caller request answer are is = absurd are
called_more mounted before (line ∷ lines) [] mid next caller request answer are is = absurd are
called_more mounted before (Plain asker asked ∷ lines) (first ∷ answers) mid next caller request answer (then_, called, are) is =
    (then_, called, called_more mounted then_ lines answers mid next caller request answer are is)
called_more mounted before (Start asker asked ∷ lines) (first ∷ answers) mid next caller request answer are is = absurd are
called_more mounted before (Step asker ∷ lines) (first ∷ answers) mid next caller request answer are is = absurd are
called_more mounted before (End asker ∷ lines) (first ∷ answers) mid next caller request answer are is = absurd are

same_length : (mounted : Mounted) (before : Between) (lines : List Line) (answers : List Answer) (mid : Between) → AreCalled mounted before lines answers mid → length answers ≡ length lines
same_length mounted before [] [] mid are = refl
same_length mounted before [] (first ∷ answers) mid are = absurd are
same_length mounted before (line ∷ lines) [] mid are = absurd are
same_length mounted before (Plain asker asked ∷ lines) (first ∷ answers) mid (then_, called, are) = (let rest = same_length mounted then_ lines answers mid are in omega (arith, rest))
same_length mounted before (Start asker asked ∷ lines) (first ∷ answers) mid are = absurd are
same_length mounted before (Step asker ∷ lines) (first ∷ answers) mid are = absurd are
same_length mounted before (End asker ∷ lines) (first ∷ answers) mid are = absurd are

text_more : (lines : List Line) (answers : List Answer) (caller : ℕ) (request : Request) (answer : Answer) → length answers ≡ length lines
    → calls_text (lines ++ Plain caller request ∷ []) (answers ++ answer ∷ []) ≡ calls_text lines answers ++ answer_line caller answer
text_more [] [] caller request answer same = append-nil (answer_line caller answer)
text_more [] (first ∷ answers) caller request answer same = absurd (omega (arith, same))
text_more (line ∷ lines) [] caller request answer same = absurd (omega (arith, same))
text_more (line ∷ lines) (first ∷ answers) caller request answer same =
    ap (λ (text : List ℕ). answer_line (line_caller line) first ++ text) (text_more lines answers caller request answer (omega (arith, same)))
    ∙ sym (append_assoc (answer_line (line_caller line) first) (calls_text lines answers) (answer_line caller answer))

-- ---- the lines so far

-- they were run, and the sink took the lines of their answers
pub record AreDone (mounted : Mounted) (before : Between) (lines : List Line) (taken now : Option (List ℕ)) (mid : Between) : Type 0 where
  pub answers : List Answer
  pub called : AreCalled mounted before lines answers mid
  pub text : Takes taken (calls_text lines answers) now

-- nothing was taken
takes_none : (taken : Option (List ℕ)) → Takes taken [] taken
takes_none None = tt
takes_none (Some taken) = sym (append-nil taken)

pub done_none : (mounted : Mounted) (before : Between) (taken : Option (List ℕ)) → AreDone mounted before [] taken taken before
done_none mounted before taken = record { answers = []; called = refl; text = takes_none taken }

pub done_more : (mounted : Mounted) (before : Between) (lines : List Line) (taken mid_taken now : Option (List ℕ)) (mid next : Between) (line : Line) → AreDone mounted before lines taken mid_taken mid
    → HasRunLine mounted line mid next mid_taken now (Ok tt) → AreDone mounted before (lines ++ line ∷ []) taken now next
done_more mounted before lines taken mid_taken now mid next line done (LineDone caller request answer is called takes) =
    subst (λ (l : Line). AreDone mounted before (lines ++ l ∷ []) taken now next) (sym is) (record {
      answers = done.answers ++ answer ∷ [];
      called = called_more mounted before lines done.answers mid next caller request answer done.called called;
      text =
          subst (λ (text : List ℕ). Takes taken text now) (sym (text_more lines done.answers caller request answer (same_length mounted before lines done.answers mid done.called)))
          (Takes-joins taken mid_taken now (calls_text lines done.answers) (answer_line caller answer) done.text takes);
    })

-- ---- how a run ends

-- in a line
pub ends_in_line : (mounted : Mounted) (before : Between) (all front rest : List Line) (taken mid_taken now : Option (List ℕ)) (mid next : Between) (line : Line) (fault : RunFault)
    → all ≡ front ++ line ∷ rest → AreDone mounted before front taken mid_taken mid → HasRunLine mounted line mid next mid_taken now (Err fault) → HasRun mounted all before next taken now (Err fault)
ends_in_line mounted before all front rest taken mid_taken now mid next line _ split done (LineCut caller request answer is called part) =
    SinkFailedInLine front rest caller request done.answers answer (split ∙ ap (λ (l : Line). front ++ l ∷ rest) is)
    (called_more mounted before front done.answers mid next caller request answer done.called called) (same_length mounted before front done.answers mid done.called)
    (record { mid = mid_taken; before = done.text; part = part })
ends_in_line mounted before all front rest taken mid_taken now mid next line _ split done (LineLeft caller request is left same) =
    MemoryLacked front rest caller request done.answers mid (split ∙ ap (λ (l : Line). front ++ l ∷ rest) is) done.called left (subst (Takes taken (calls_text front done.answers)) (sym same) done.text)

-- in the last line
pub ends_at_end : (mounted : Mounted) (before : Between) (lines : List Line) (taken mid_taken now : Option (List ℕ)) (mid : Between) → AreDone mounted before lines taken mid_taken mid
    → TakesFront mid_taken (done_line (length lines)) now → HasRun mounted lines before mid taken now (Err faults.Sink)
ends_at_end mounted before lines taken mid_taken now mid done part = SinkFailedAtEnd done.answers done.called (record { mid = mid_taken; before = done.text; part = part })

-- well
pub ends_well : (mounted : Mounted) (before : Between) (lines : List Line) (taken mid_taken now : Option (List ℕ)) (mid : Between) → AreDone mounted before lines taken mid_taken mid
    → Takes mid_taken (done_line (length lines)) now → HasRun mounted lines before mid taken now (Ok tt)
ends_well mounted before lines taken mid_taken now mid done last =
    AllRun done.answers done.called (Takes-joins taken mid_taken now (calls_text lines done.answers) (done_line (length lines)) done.text last)

-- ---- the line that comes

-- a line behind those that were run is allowed
pub next_allowed : (lines front rest : List Line) (line : Line) → AreAllowed lines → lines ≡ front ++ line ∷ rest → IsAllowedLine line
next_allowed lines front rest line all split =
    All-contains IsAllowedLine lines line all (subst (λ (ls : List Line). Contains ls line) (sym split) (Contains-append_right front (line ∷ rest) line (Contains-here line rest)))

-- ---- results

-- an error that is this
pub err_is : (result : Result (Unit {0}) RunFault) (fault : RunFault) → IsErrAnd result (λ error. error ≡ fault) → result ≡ Err fault
err_is (Ok done) fault is = absurd is
err_is (Err error) fault is = ap (λ (e : RunFault). Err e) is

-- at an error nothing is said of Ok
pub none_at_err : (result : Result (Unit {0}) RunFault) (fault : RunFault) (P : Type 0) → result ≡ Err fault → OnOk result P
none_at_err result fault P is = subst (λ (r : Result (Unit {0}) RunFault). OnOk r P) (sym is) tt

-- ---- the end of the lines

no_more : (lines : List Line) → length lines ≡ 0 → lines ≡ []
no_more [] is = refl
no_more (line ∷ lines) is = absurd (omega (arith, is))

-- all lines were run where none is left
pub all_done : (lines so_far rest : List Line) → lines ≡ so_far ++ rest → length rest ≡ 0 → so_far ≡ lines
all_done lines so_far rest split none = sym (append-nil so_far) ∙ ap (λ (ls : List Line). so_far ++ ls) (sym (no_more rest none)) ∙ sym split

-- ---- whether the disk tells its record

pub tells_same : (told : Option Told) → TellsStill told told
tells_same None = tt
tells_same (Some told) = tt

pub tells_on : (one two three : Option Told) → TellsStill one two → TellsStill two three → TellsStill one three
tells_on None None None first second = tt
tells_on None None (Some three) first second = absurd second
tells_on None (Some two) three first second = absurd first
tells_on (Some one) None three first second = absurd first
tells_on (Some one) (Some two) None first second = absurd second
tells_on (Some one) (Some two) (Some three) first second = tt
