use Rattle.std.proofs.Common.{◌≡◌, true, false, refl, sym, ◌∙◌}
use Rattle.coherent_slots.specs.Slots.{Put, Left}
use Rattle.coherent_slots.proofs.slots.Slots.add.Goals as goal

clash : {A : Type 0} → true ≡ false → A
clash e = absurd cc

pub returns-then-not-is_right_ref : goal.returns-then-not-is_right_ref
returns-then-not-is_right_ref c = λ blocks. Left (λ right. clash (sym ((c.is_right_ref.ensures c.args.name.now.near blocks).1 right) ∙ c.if-not-is_right_ref.true)) refl (λ dir bytes. refl)

pub returns : goal.returns
returns c = λ blocks. Put ((c.is_right_ref.ensures c.args.name.now.near blocks).0 c.if-not-is_right_ref.false) c.in_ok-alone.ensures.is_new c.in_ok-alone.ensures.updates
