use Rattle.std.proofs.Common.{◌+◌, List, ℕ, length, Some, None, refl, sym, ap, ◌∙◌}
use Rattle.drawn_set.proofs.Crowded.{free_slot, taken_slot}
use Rattle.drawn_set.proofs.slots.bytes_beside.Goals as goal

pub returns-in-Some : goal.returns-in-Some
returns-in-Some g c = sym (taken_slot (g.V.NameView.sub c.args.current.now) c.args.other.now (Some c.in-Some.field-0) c.in-Some.field-0 (rw c.as_bytes-name.ensures.value at c.in-Some.ensures) refl)

pub returns-in-None : goal.returns-in-None
returns-in-None g c =
    ap (λ (bytes : List ℕ). 30 + length bytes) c.as_bytes-name.ensures.value
    ∙ sym (free_slot (g.V.NameView.sub c.args.current.now) c.args.other.now None (rw c.as_bytes-name.ensures.value at c.in-None.ensures) refl)
