-- Names and lines, read one after the other.
use Rattle.std.proofs.Common.{◌≡◌, ◌≤◌, ◌<◌, ◌+◌, ℕ, Bool, true, false, cond, eqb, ltb, List, [], ◌∷◌, ◌++◌, length, drop, get_or, Option, Some, None, Result, Ok, Err, ap, sym, refl, ◌∙◌, append_assoc, arith}
use denote.Ref.{Bor}
use Rattle.std.specs.List.{before_first, after_first}
use Rattle.std.proofs.lemmas.Bool.{ltb-false}
use Rattle.std.proofs.lemmas.Bool.Decides.{nat_tests}
use Rattle.std.proofs.lemmas.List.{append-nil}
use Rattle.script_text.specs.declared.fault.ScriptKind.{ScriptKind}
use Rattle.script_text.specs.declared.fault.ScriptKind.TheVariants as kinds
use Rattle.script_text.specs.declared.fault.LineFault.{LineFault}
use Rattle.script_text.specs.declared.fault.LineFault.TheVariants as line_faults
use Rattle.flat_model.specs.declared.request.Line.{Line}
use Rattle.script_text.specs.Kinds.{◌>>=◌, Fails, IsFaultOf, fault_at}
use Rattle.script_text.specs.Paths.{name_of, all_names}
use Rattle.script_text.specs.Script.{line_of, lines_of, script_behind, script_with, script_from, script_of}
use Rattle.script_text.specs.Parts.{bytes_of}
use Rattle.script_text.proofs.PartLemmas.{part_at, parts_past, lines_of-cut}

-- ---- names

-- names behind those that were read before
abbrev pub with_names : List (List ℕ) → Result (List (List ℕ)) ScriptKind → Result (List (List ℕ)) ScriptKind
with_names front read = read >>= λ back. Ok (front ++ back)

names_regroup : (front : List (List ℕ)) (name : List ℕ) (read : Result (List (List ℕ)) ScriptKind) → with_names front (read >>= λ back. Ok (name ∷ back)) ≡ with_names (front ++ name ∷ []) read
names_regroup front name (Ok back) = ap (λ (names : List (List ℕ)). Ok names) (sym (append_assoc front (name ∷ []) back))
names_regroup front name (Err kind) = refl

-- a name more
pub names_go_on : (front : List (List ℕ)) (pieces : List (Bor (List ℕ))) (place : ℕ) (d : Bor (List ℕ)) (name : List ℕ) → place < length pieces → name_of (get_or pieces place d).now ≡ Ok name
    → with_names front (all_names (drop place (bytes_of pieces))) ≡ with_names (front ++ name ∷ []) (all_names (drop (place + 1) (bytes_of pieces)))
unfolding all_names
names_go_on front pieces place d name within is = rw (part_at pieces place d within, is) (names_regroup front name (all_names (drop (place + 1) (bytes_of pieces))))

-- a piece that spells no name
pub names_stop : (fault : LineFault) (front : List (List ℕ)) (pieces : List (Bor (List ℕ))) (place : ℕ) (d : Bor (List ℕ)) (total : Result (List (List ℕ)) ScriptKind) → place < length pieces → Fails fault (name_of (get_or pieces place d).now)
    → with_names front (all_names (drop place (bytes_of pieces))) ≡ total → Fails fault total
unfolding all_names
names_stop line_faults.OutOfMemory front pieces place d total within fails so_far = tt
names_stop (line_faults.Kind kind) front pieces place d total within fails so_far =
    let one : with_names front (all_names (drop place (bytes_of pieces))) ≡ Err kind = rw (part_at pieces place d within, fails) refl in
    sym so_far ∙ one

-- the end of the pieces
pub names_end : (front : List (List ℕ)) (pieces : List (Bor (List ℕ))) (place : ℕ) → length pieces ≤ place → with_names front (all_names (drop place (bytes_of pieces))) ≡ Ok front
unfolding all_names
names_end front pieces place past = rw (parts_past pieces place past) (ap (λ (names : List (List ℕ)). Ok names) (append-nil front))

-- ---- lines

-- lines behind those that were read before
abbrev pub with_lines : List Line → Result (List Line) (ℕ × ScriptKind) → Result (List Line) (ℕ × ScriptKind)
with_lines front (Ok lines) = Ok (front ++ lines)
with_lines front (Err fault) = Err fault

lines_regroup : (front : List Line) (line : Line) (read : Result (List Line) (ℕ × ScriptKind)) → with_lines front (script_behind (Some line) read) ≡ with_lines (front ++ line ∷ []) read
lines_regroup front line (Ok lines) = ap (λ (all : List Line). Ok all) (sym (append_assoc front (line ∷ []) lines))
lines_regroup front line (Err fault) = refl

silent_regroup : (front : List Line) (read : Result (List Line) (ℕ × ScriptKind)) → with_lines front (script_behind None read) ≡ with_lines front read
silent_regroup front (Ok lines) = refl
silent_regroup front (Err fault) = refl

-- what is given at the first line of a rest that is_not empty
first_line : (number : ℕ) (rest : List ℕ) → 1 ≤ length rest
    → script_from number (lines_of rest) ≡ script_with number (line_of number (before_first (λ byte. eqb byte 10) rest)) (script_from (number + 1) (lines_of (after_first (λ byte. eqb byte 10) rest)))
unfolding script_from
first_line number rest some = ap (script_from number) (lines_of-cut rest some)

-- a line that does something
pub script_goes_on : (front : List Line) (number : ℕ) (rest text after : List ℕ) (line : Line) → 1 ≤ length rest → text ≡ before_first (λ byte. eqb byte 10) rest → after ≡ after_first (λ byte. eqb byte 10) rest → line_of number text ≡ Ok (Some line)
    → with_lines front (script_from number (lines_of rest)) ≡ with_lines (front ++ line ∷ []) (script_from (number + 1) (lines_of after))
script_goes_on front number rest text after line some text_is after_is read =
    rw (first_line number rest some, ← text_is, ← after_is, read) (lines_regroup front line (script_from (number + 1) (lines_of after)))

-- a line that does nothing
pub script_skips : (front : List Line) (number : ℕ) (rest text after : List ℕ) → 1 ≤ length rest → text ≡ before_first (λ byte. eqb byte 10) rest → after ≡ after_first (λ byte. eqb byte 10) rest → line_of number text ≡ Ok None
    → with_lines front (script_from number (lines_of rest)) ≡ with_lines front (script_from (number + 1) (lines_of after))
script_skips front number rest text after some text_is after_is read =
    rw (first_line number rest some, ← text_is, ← after_is, read) (silent_regroup front (script_from (number + 1) (lines_of after)))

-- a line with a fault
pub script_stops : (fault : LineFault) (front : List Line) (number : ℕ) (rest text : List ℕ) (total : Result (List Line) (ℕ × ScriptKind)) → 1 ≤ length rest → text ≡ before_first (λ byte. eqb byte 10) rest → Fails fault (line_of number text)
    → with_lines front (script_from number (lines_of rest)) ≡ total → IsFaultOf (fault_at fault number) total
script_stops line_faults.OutOfMemory front number rest text total some text_is fails so_far = tt
script_stops (line_faults.Kind kind) front number rest text total some text_is fails so_far =
    let one : with_lines front (script_from number (lines_of rest)) ≡ Err (number, kind) = rw (first_line number rest some, ← text_is, fails) refl in
    sym so_far ∙ one

too_many : {A : Type 0} (many : Bool) (kind : ScriptKind) (other : Result A ScriptKind) (read : A) → cond many (Err kind) other ≡ Ok read → many ≡ false
too_many true kind other read is = absurd cc
too_many false kind other read is = refl

-- a line without a fault is one of the first 65,536
pub line_is_in_range : (number : ℕ) (text : List ℕ) (read : Option Line) → line_of number text ≡ Ok read → number ≤ 65536
unfolding line_of
line_is_in_range number text read is = ltb-false 65536 number (too_many (ltb 65536 number) kinds.Lines _ read is)

-- the end of a script
pub script_ends : (front : List Line) (number : ℕ) (rest : List ℕ) → length rest ≡ 0 → with_lines front (script_from number (lines_of rest)) ≡ Ok front
unfolding script_from lines_of
script_ends front number [] none = ap (λ (lines : List Line). Ok lines) (append-nil front)
script_ends front number (byte ∷ rest) none = absurd (omega (arith, none))

same_lines : (read : Result (List Line) (ℕ × ScriptKind)) → with_lines [] read ≡ read
same_lines (Ok lines) = refl
same_lines (Err fault) = refl

-- the start of a script
pub lines_begin : (bytes : List ℕ) → with_lines [] (script_from 1 (lines_of bytes)) ≡ script_of bytes
unfolding script_of
lines_begin bytes = same_lines (script_from 1 (lines_of bytes))

-- ---- tests of code

pub is_some_byte : (bytes : List ℕ) → eqb (length bytes) 0 ≡ false → 1 ≤ length bytes
is_some_byte bytes other = grind (arith, nat_tests)

pub is_no_byte : (bytes : List ℕ) → eqb (length bytes) 0 ≡ true → length bytes ≡ 0
is_no_byte bytes none = grind (arith, nat_tests)
