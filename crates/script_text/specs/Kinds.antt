-- Faults of a script, and what a reader's answer says of what a definition gives.
use Rattle.std.specs.Prelude.{◌≡◌, ℕ, List, codes, Result, Ok, Err}
use Rattle.script_text.specs.declared.fault.ScriptKind.{ScriptKind}
use Rattle.script_text.specs.declared.fault.ScriptKind.TheVariants as kinds
use Rattle.script_text.specs.declared.fault.ScriptFault.{ScriptFault}
use Rattle.script_text.specs.declared.fault.ScriptFault.TheVariants as faults
use Rattle.script_text.specs.declared.fault.LineFault.{LineFault}
use Rattle.script_text.specs.declared.fault.LineFault.TheVariants as line_faults

-- the name of a kind, in lower case (own)
abbrev pub kind_word : ScriptKind → List ℕ
kind_word kinds.Lines = codes "lines"
kind_word kinds.Utf8 = codes "utf8"
kind_word kinds.Caller = codes "caller"
kind_word kinds.Word = codes "word"
kind_word kinds.Escape = codes "escape"
kind_word kinds.Path = codes "path"
kind_word kinds.Number = codes "number"
kind_word kinds.Order = codes "order"

-- what is read, and then what is read with its value; the first fault ends it
infixl 10 ◌>>=◌
abbrev pub ◌>>=◌ : {A B : Type 0} → Result A ScriptKind → (A → Result B ScriptKind) → Result B ScriptKind
(Ok value) >>= next = next value
(Err kind) >>= next = Err kind

-- the fault is what is read, or memory ran out
abbrev pub Fails : {Y : Type 0} → LineFault → Result Y ScriptKind → Type 0
Fails line_faults.OutOfMemory read = Unit {0}
Fails (line_faults.Kind kind) read = read ≡ Err kind

-- the answer, seen by `view`, is what is read, unless memory ran out
abbrev pub Gives : {X Y : Type 0} → (X → Y) → Result X LineFault → Result Y ScriptKind → Type 0
Gives view (Ok value) read = read ≡ Ok (view value)
Gives view (Err fault) read = Fails fault read

-- the fault of a script whose line of this number has this one
abbrev pub fault_at : LineFault → ℕ → ScriptFault
fault_at (line_faults.Kind kind) line = faults.Bad line kind
fault_at line_faults.OutOfMemory line = faults.OutOfMemory

-- the fault is that of the script that is read, with its line, or memory ran out
abbrev pub IsFaultOf : {Y : Type 0} → ScriptFault → Result Y (ℕ × ScriptKind) → Type 0
IsFaultOf faults.OutOfMemory read = Unit {0}
IsFaultOf (faults.Bad line kind) read = read ≡ Err (line, kind)
