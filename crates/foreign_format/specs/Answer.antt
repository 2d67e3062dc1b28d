-- How the answer of a reader meets what is defined of a volume: a value, or its first fault.
use Rattle.std.specs.Prelude.{◌≡◌, Result, Ok, Err, IsErrAnd}
use Rattle.std.proofs.Common.{refl, ◌∙◌}
use Rattle.foreign_format.specs.declared.fault.ForeignFault.{ForeignFault}
use Rattle.foreign_format.specs.declared.fault.ReadFault.{ReadFault}
use Rattle.foreign_format.specs.declared.fault.ReadFault.TheVariants.{Foreign, Disk, OutOfMemory}

-- the first fault of two steps, one behind the other, else what the second gives
abbrev pub and_then : {A B : Type 0} → Result A ForeignFault → (A → Result B ForeignFault) → Result B ForeignFault
and_then (Ok value) next = next value
and_then (Err fault) next = Err fault

-- An answer is the defined one: the value by what shows of it, or the fault. Where the disk failed, or memory, nothing is said.
abbrev pub Answers : {A B : Type 0} → (A → B) → Result A ReadFault → Result B ForeignFault → Type 0
Answers shown (Ok value) defined = defined ≡ Ok (shown value)
Answers shown (Err (Foreign fault)) defined = defined ≡ Err fault
Answers shown (Err Disk) defined = Unit {0}
Answers shown (Err OutOfMemory) defined = Unit {0}

-- an answer without memory is one
pub answers_no_memory : {A B : Type 0} (shown : A → B) (answer : Result A ReadFault) (defined : Result B ForeignFault) → IsErrAnd answer (λ fault. fault ≡ OutOfMemory) → Answers shown answer defined
answers_no_memory shown (Ok value) defined h = absurd h
answers_no_memory shown (Err (Foreign fault)) defined h = absurd cc
answers_no_memory shown (Err Disk) defined h = tt
answers_no_memory shown (Err OutOfMemory) defined h = tt

-- a step of which the defined value is known
pub then_ok : {A B : Type 0} (first : Result A ForeignFault) (next : A → Result B ForeignFault) (value : A) → first ≡ Ok value → and_then first next ≡ next value
then_ok first next value is = rw is refl

-- a step that has a fault
pub then_err : {A B : Type 0} (first : Result A ForeignFault) (next : A → Result B ForeignFault) (fault : ForeignFault) → first ≡ Err fault → and_then first next ≡ Err fault
then_err first next fault is = rw is refl

-- an answer is one of what is equal
pub answers_same : {A B : Type 0} (shown : A → B) (answer : Result A ReadFault) (defined other : Result B ForeignFault) → other ≡ defined → Answers shown answer defined → Answers shown answer other
answers_same shown (Ok value) defined other same h = same ∙ h
answers_same shown (Err (Foreign fault)) defined other same h = same ∙ h
answers_same shown (Err Disk) defined other same h = tt
answers_same shown (Err OutOfMemory) defined other same h = tt

-- what the first step answers with a fault, both answer
pub answers_err : {A B C D : Type 0} (shown : D → B) (failed : ReadFault) (first : Result A ForeignFault) (next : A → Result B ForeignFault) (shown_there : C → A) → Answers shown_there (Err failed) first → Answers shown (Err failed) (and_then first next)
answers_err shown (Foreign fault) first next shown_there h = then_err first next fault h
answers_err shown Disk first next shown_there h = tt
answers_err shown OutOfMemory first next shown_there h = tt

-- a value made of what the first step answers
pub answers_map : {A B C : Type 0} (shown : C → A) (make : A → B) (answer : Result C ReadFault) (first : Result A ForeignFault) → Answers shown answer first → Answers (λ c. make (shown c)) answer (and_then first (λ value. Ok (make value)))
answers_map shown make (Ok value) first h = then_ok first (λ value. Ok (make value)) (shown value) h
answers_map shown make (Err (Foreign fault)) first h = then_err first (λ value. Ok (make value)) fault h
answers_map shown make (Err Disk) first h = tt
answers_map shown make (Err OutOfMemory) first h = tt

-- the second step's answer, where the first gave a value
pub answers_then : {A B C : Type 0} (shown : C → B) (answer : Result C ReadFault) (first : Result A ForeignFault) (next : A → Result B ForeignFault) (value : A) → first ≡ Ok value → Answers shown answer (next value) → Answers shown answer (and_then first next)
answers_then shown answer first next value is h = answers_same shown answer (next value) (and_then first next) (then_ok first next value is) h

-- the exit of a step that failed
pub exit_err : {A B C D : Type 0} (shown : A → B) (answer : Result A ReadFault) (failed : ReadFault) (first : Result C ForeignFault) (next : C → Result B ForeignFault) (there : D → C)
    → IsErrAnd answer (λ fault. fault ≡ failed) → Answers there (Err failed) first → Answers shown answer (and_then first next)
exit_err shown (Ok value) failed first next there h callee = absurd h
exit_err shown (Err fault) failed first next there h callee = rw h (answers_err shown failed first next there callee)

-- the same, where the step is all
pub exit_same : {A B D : Type 0} (shown : A → B) (answer : Result A ReadFault) (failed : ReadFault) (defined : Result B ForeignFault) (there : D → B)
    → IsErrAnd answer (λ fault. fault ≡ failed) → Answers there (Err failed) defined → Answers shown answer defined
exit_same shown (Ok value) failed defined there h callee = absurd h
exit_same shown (Err fault) (Foreign w) defined there h callee = rw h callee
exit_same shown (Err fault) Disk defined there h callee = rw h tt
exit_same shown (Err fault) OutOfMemory defined there h callee = rw h tt
