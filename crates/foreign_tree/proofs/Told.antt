-- What holds of an image, where one is told.
use Rattle.std.proofs.Common.{◌≡◌, false, Option, Some, None, Result, Ok, Err, sym}
use Rattle.std.specs.Prelude.{OnOk}
use Rattle.std.specs.Result.{is_err}
use Rattle.disk_model.specs.Disk.{IfTold}

-- what holds of every image holds of the one that is told
pub told_always : {A : Type 0} (seen : Option A) (P : A → Type 0) → ((image : A) → P image) → IfTold seen P
told_always None P h = tt
told_always (Some image) P h = h image

pub told_from : {A : Type 0} (seen : Option A) (P Q : A → Type 0) → IfTold seen P → ((image : A) → P image → Q image) → IfTold seen Q
told_from None P Q p h = tt
told_from (Some image) P Q p h = h image p

pub told_both : {A : Type 0} (seen : Option A) (P Q R : A → Type 0) → IfTold seen P → IfTold seen Q → ((image : A) → P image → Q image → R image) → IfTold seen R
told_both None P Q R p q h = tt
told_both (Some image) P Q R p q h = h image p q

pub told_three : {A : Type 0} (seen : Option A) (P Q R S : A → Type 0) → IfTold seen P → IfTold seen Q → IfTold seen R → ((image : A) → P image → Q image → R image → S image) → IfTold seen S
told_three None P Q R S p q r h = tt
told_three (Some image) P Q R S p q r h = h image p q r

-- what holds at Ok, where there is no fault
pub at_ok : {A E P : Type 0} (r : Result A E) → is_err r ≡ false → OnOk r P → P
at_ok (Ok x) is h = h
at_ok (Err fault) is h = absurd cc

-- what holds of what is told elsewhere holds here, where it is the same
pub told_same : {A : Type 0} (one two : Option A) (P : A → Type 0) → two ≡ one → IfTold two P → IfTold one P
told_same one two P same h = rw (sym same) h
