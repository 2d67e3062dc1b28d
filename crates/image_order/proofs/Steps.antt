-- Steps that went well.
use Rattle.std.proofs.Common.{◌≡◌, Bool, true, false, cond, not, Option, Some, None, Result, Ok, Err, refl, ap, ◌∙◌}
use Rattle.image_order.specs.FirstFault.{ImageFault, ◌>>=◌, or_fault, first_of, unless}

same_ok : {A E : Type 0} (x y : A) → ◌≡◌ {A = Result A E} (Ok x) (Ok y) → x ≡ y
same_ok x y e = cc

pub bind_ok : {A B : Type 0} (r : Result A ImageFault) (f : A → Result B ImageFault) (y : B) → ◌>>=◌ r f ≡ Ok y → (x : A) × (r ≡ Ok x) × (f x ≡ Ok y)
bind_ok (Ok x) f y h = (x, refl, h)
bind_ok (Err fault) f y h = absurd cc

pub ok_bind : {A B : Type 0} (r : Result A ImageFault) (f : A → Result B ImageFault) (x : A) (y : B) → r ≡ Ok x → f x ≡ Ok y → ◌>>=◌ r f ≡ Ok y
ok_bind r f x y e h = ap (λ q. ◌>>=◌ q f) e ∙ h

pub fault_ok : {A E : Type 0} (fault : E → ImageFault) (r : Result A E) (x : A) → or_fault fault r ≡ Ok x → r ≡ Ok x
fault_ok fault (Ok y) x h = ap Ok (same_ok y x h)
fault_ok fault (Err e) x h = absurd cc

pub ok_fault : {A E : Type 0} (fault : E → ImageFault) (r : Result A E) (x : A) → r ≡ Ok x → or_fault fault r ≡ Ok x
ok_fault fault r x e = ap (or_fault fault) e

pub unless_ok : {A : Type 0} (o : Option ImageFault) (rest : Result A ImageFault) (x : A) → unless o rest ≡ Ok x → (o ≡ None) × (rest ≡ Ok x)
unless_ok None rest x h = (refl, h)
unless_ok (Some fault) rest x h = absurd cc

pub ok_unless : {A : Type 0} (o : Option ImageFault) (rest : Result A ImageFault) (x : A) → o ≡ None → rest ≡ Ok x → unless o rest ≡ Ok x
ok_unless o rest x e h = ap (λ p. unless p rest) e ∙ h

pub first_none : {F : Type 0} (a b : Option F) → first_of a b ≡ None → (a ≡ None) × (b ≡ None)
first_none None b e = (refl, e)
first_none (Some fault) b e = absurd cc

pub none_first : {F : Type 0} (a b : Option F) → a ≡ None → b ≡ None → first_of a b ≡ None
none_first a b e h = ap (λ o. first_of o b) e ∙ h

-- a test that passed, and what came then
pub passed : {A : Type 0} (b : Bool) (fault : ImageFault) (rest : Result A ImageFault) (x : A) → cond (not b) (Err fault) rest ≡ Ok x → (b ≡ true) × (rest ≡ Ok x)
passed true fault rest x h = (refl, h)
passed false fault rest x h = absurd cc

pub not_found : {A : Type 0} (b : Bool) (fault : ImageFault) (rest : Result A ImageFault) (x : A) → cond b (Err fault) rest ≡ Ok x → (b ≡ false) × (rest ≡ Ok x)
not_found false fault rest x h = (refl, h)
not_found true fault rest x h = absurd cc

pub passes : {A : Type 0} (b : Bool) (fault : ImageFault) (rest : Result A ImageFault) → b ≡ true → cond (not b) (Err fault) rest ≡ rest
passes b fault rest e = ap (λ c. cond (not c) (Err fault) rest) e

pub finds_none : {A : Type 0} (b : Bool) (fault : ImageFault) (rest : Result A ImageFault) → b ≡ false → cond b (Err fault) rest ≡ rest
finds_none b fault rest e = ap (λ c. cond c (Err fault) rest) e
