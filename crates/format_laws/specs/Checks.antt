-- Checks in order: what it says that all of them pass.
use Rattle.std.proofs.Common.{◌≡◌, Bool, true, false, not, Result, Ok, Err, if◌then◌else◌, refl}

-- a check passes where there is an answer
pub passed : {A E : Type 0} (b : Bool) (e : E) (r : Result A E) (a : A) → (if not b then Err e else r) ≡ Ok a → (b ≡ true) × (r ≡ Ok a)
passed true e r a h = (refl, h)
passed false e r a h = cc

-- and there is the later checks' answer where it passes
pub passes : {A E : Type 0} (b : Bool) (e : E) (r : Result A E) → b ≡ true → (if not b then Err e else r) ≡ r
passes b e r h = rw h refl

-- the same of a fault that is looked for
pub found_none : {A E : Type 0} (b : Bool) (e : E) (r : Result A E) (a : A) → (if b then Err e else r) ≡ Ok a → (b ≡ false) × (r ≡ Ok a)
found_none false e r a h = (refl, h)
found_none true e r a h = cc

pub finds_none : {A E : Type 0} (b : Bool) (e : E) (r : Result A E) → b ≡ false → (if b then Err e else r) ≡ r
finds_none b e r h = rw h refl

-- the value of an answer
pub same_ok : {A E : Type 0} {a b : A} → ◌≡◌ {A = Result A E} (Ok a) (Ok b) → a ≡ b
same_ok h = cc

-- the fault of the first check that fails
pub fails : {A E : Type 0} (b : Bool) (e : E) (r : Result A E) → b ≡ false → (if not b then Err e else r) ≡ Err e
fails b e r h = rw h refl

pub finds : {A E : Type 0} (b : Bool) (e : E) (r : Result A E) → b ≡ true → (if b then Err e else r) ≡ Err e
finds b e r h = rw h refl
