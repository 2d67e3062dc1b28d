-- The operations that a script's lines ask for are in their limits.
use Rattle.std.proofs.Common.{◌≡◌, ◌≤◌, inl, inr, ℕ, List, [], ◌∷◌, length, replicate, Ok, ap, sym, ◌∙◌, subst, arith}
use Rattle.std.proofs.lemmas.List.{length-replicate}
use Rattle.std.proofs.lemmas.List.Elements.{All-cons, All-nil}
use Rattle.flat_model.specs.declared.op.Op.{Op}
use Rattle.flat_model.specs.declared.op.Op.TheVariants.{Create, Mkdir, Symlink, Link, Unlink, Rmdir, Rename, Exchange, Lookup, Write, Truncate, Read, SetAttr, DelAttr, GetAttr}
use Rattle.flat_model.specs.Step.{IsInLimits}
use Rattle.flat_model.specs.declared.request.Line.{Line}
use Rattle.flat_model.specs.declared.request.Line.TheVariants.{Plain}
use Rattle.flat_model.specs.declared.request.Request.{Request}
use Rattle.flat_model.specs.declared.request.Request.TheVariants as requests
use Rattle.script_text.specs.Script.{script_of}
use Rattle.script_text.specs.Grammar.{AreOp, AreRequest, IsLine, Speak}
use Rattle.script_text.proofs.ScriptLaw.{script_both}
use Rattle.call_steps.specs.Standing.{IsAllowed}
use Rattle.script_lines.specs.Lines.{AreAllowed, IsAllowedLine}

-- so many equal bytes as a fill may write
filled : (count byte : ℕ) (text : List ℕ) → text ≡ replicate count byte → 1 ≤ count → count ≤ 65536 → (1 ≤ length text) × (length text ≤ 65536)
filled count byte text same least most =
    let n : length text ≡ count = ap length same ∙ length-replicate count byte in
    (omega (arith, n, least), omega (arith, n, most))

in_limits : (words : List (List ℕ)) (op : Op) → AreOp words op → IsInLimits op
in_limits words (Symlink place target) are = (are.target_is.least, are.target_is.at_most)
in_limits words (Write place offset text) (inl are) = (are.text_is.least, are.text_is.at_most)
in_limits words (Write place offset text) (inr are) = filled are.count are.byte text are.text_is are.count_is.at_least are.count_is.at_most
in_limits words (SetAttr place name value) are = are.value_is.least
in_limits words (Create place) are = tt
in_limits words (Mkdir place) are = tt
in_limits words (Link old new) are = tt
in_limits words (Unlink place) are = tt
in_limits words (Rmdir place) are = tt
in_limits words (Rename old new) are = tt
in_limits words (Exchange one two) are = tt
in_limits words (Lookup place) are = tt
in_limits words (Truncate place size) are = tt
in_limits words (Read place offset count) are = tt
in_limits words (DelAttr place name) are = tt
in_limits words (GetAttr place name) are = tt

allowed_request : (words : List (List ℕ)) (request : Request) → AreRequest words request → IsAllowed request
allowed_request words (requests.Op op) are = in_limits words op are
allowed_request words requests.Sync are = tt
allowed_request words request are = absurd are

allowed_line : (bytes : List ℕ) (line : Line) → IsLine bytes line → IsAllowedLine line
allowed_line bytes (Plain caller request) is = (is.least, is.most, allowed_request is.words request is.request_is)
allowed_line bytes line is = absurd is

allowed_lines : (texts : List (List ℕ)) (lines : List Line) → Speak texts lines → AreAllowed lines
allowed_lines [] lines speak = subst AreAllowed (sym speak) (All-nil IsAllowedLine)
allowed_lines (bytes ∷ texts) lines (inl (silent, speak)) = allowed_lines texts lines speak
allowed_lines (bytes ∷ texts) lines (inr (line, others, same, is, speak)) =
    subst AreAllowed (sym same) (All-cons IsAllowedLine line others (allowed_line bytes line is) (allowed_lines texts others speak))

pub script_allowed : (bytes : List ℕ) (lines : List Line) → script_of bytes ≡ Ok lines → AreAllowed lines
script_allowed bytes lines read = let script = (script_both bytes lines).0 read in allowed_lines script.texts lines script.spoken
