use Rattle.std.proofs.Common.{◌≡◌, Some, None, refl, sym, ◌∙◌, inr}
use Rattle.coherent_slots.proofs.slots.lower.Goals as goal

none_some : {A B : Type 0} (x : A) → ◌≡◌ {A = Rattle.std.proofs.Common.Option A} None (Some x) → B
none_some x e = absurd cc

pub returns-in-None : goal.returns-in-None
returns-in-None c = (inr refl, λ number below. (λ found e. none_some found (sym c.in-None.is ∙ e), below c.args.ino refl))
