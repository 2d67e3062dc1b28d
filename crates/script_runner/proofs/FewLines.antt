-- A script has few lines.
use Rattle.std.proofs.Common.{◌≡◌, ◌≤◌, ◌+◌, ℕ, Bool, true, false, List, [], ◌∷◌, length, Option, Some, None, Result, Ok, Err, nat_lt, if◌then◌else◌, refl, arith}
use Rattle.std.proofs.lemmas.Bool.{ltb-false}
use Rattle.flat_model.specs.declared.request.Line.{Line}
use Rattle.script_text.specs.declared.fault.ScriptKind.{ScriptKind}
use Rattle.script_text.specs.declared.fault.ScriptKind.TheVariants.{Lines}
use Rattle.script_text.specs.Script.{line_of, lines_of, script_from, script_of, script_with}

-- the list that a script's result is
lines_are : (one two : List Line) → ◌≡◌ {A = Result (List Line) (ℕ × ScriptKind)} (Ok one) (Ok two) → length one ≡ length two
lines_are one two is = cc

-- a line behind the 65,536th is a fault
checked : (number : ℕ) (far : Bool) (rest : Result (Option Line) ScriptKind) (line : Option Line) → nat_lt 65536 number ≡ far → (if far then Err Lines else rest) ≡ Ok line → number ≤ 65536
checked number true rest line above is = absurd cc
checked number false rest line above is = ltb-false 65536 number above

low_number : (number : ℕ) (text : List ℕ) (line : Option Line) → line_of number text ≡ Ok line → number ≤ 65536
unfolding line_of
low_number number text line is = checked number (nat_lt 65536 number) _ line refl is

few_with : (number : ℕ) (line : Result (Option Line) ScriptKind) (rest : Result (List Line) (ℕ × ScriptKind)) (lines : List Line) → ((it : Option Line) → line ≡ Ok it → number ≤ 65536)
    → ((some : List Line) → number ≤ 65536 → rest ≡ Ok some → number + 1 + length some ≤ 65537) → script_with number line rest ≡ Ok lines → number + length lines ≤ 65537
few_with number (Err kind) rest lines low few is = absurd cc
few_with number (Ok line) (Err fault) lines low few is = absurd cc
few_with number (Ok None) (Ok some) lines low few is = (let same = lines_are some lines is in let rest = few some (low None refl) refl in omega (arith, same, rest))
few_with number (Ok (Some line)) (Ok some) lines low few is = (let same = lines_are (line ∷ some) lines is in let rest = few some (low (Some line) refl) refl in omega (arith, same, rest))

few_from : (number : ℕ) (texts : List (List ℕ)) (lines : List Line) → number ≤ 65537 → script_from number texts ≡ Ok lines → number + length lines ≤ 65537
unfolding script_from
few_from number [] lines small is = (let same = lines_are [] lines is in omega (arith, same, small))
few_from number (text ∷ texts) lines small is =
    few_with number (line_of number text) (script_from (number + 1) texts) lines (low_number number text) (λ some low read. few_from (number + 1) texts some (omega (arith, low)) read) is

pub few_lines : (bytes : List ℕ) (lines : List Line) → script_of bytes ≡ Ok lines → length lines ≤ 65536
unfolding script_of
few_lines bytes lines is = (let few = few_from 1 (lines_of bytes) lines (omega arith) is in omega (arith, few))
