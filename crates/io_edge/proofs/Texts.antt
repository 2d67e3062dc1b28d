-- Texts that grow piece by piece.
use Rattle.std.proofs.Common.{◌≡◌, List, ◌++◌, Result, Ok, Err, OnOk, ap, ◌∙◌, append_assoc}

-- what follows from what holds at success holds there
pub on_ok : {T E : Type 0} {P Q : Type 0} (result : Result T E) → (P → Q) → OnOk result P → OnOk result Q
on_ok (Ok value) f holds = f holds
on_ok (Err error) f holds = holds

-- one piece behind another
pub joined : {A : Type 0} (old mid new xs ys : List A) → mid ≡ old ++ xs → new ≡ mid ++ ys → new ≡ old ++ (xs ++ ys)
joined {A} old mid new xs ys first second = second ∙ ap (λ (taken : List A). taken ++ ys) first ∙ append_assoc old xs ys

pub joined_ok : {A T E : Type 0} (result : Result T E) (old mid new xs ys : List A) → mid ≡ old ++ xs → OnOk result (new ≡ mid ++ ys) → OnOk result (new ≡ old ++ (xs ++ ys))
joined_ok result old mid new xs ys first = on_ok result (joined old mid new xs ys first)
