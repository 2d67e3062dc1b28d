use Rattle.std.proofs.Common.{Bool, cond, Some, ap, ◌∙◌}
use Rattle.coherent_slots.specs.Slots.{index_at}
use Rattle.coherent_slots.proofs.Same.{same_slot}
use Rattle.coherent_slots.proofs.slots.Slots.put.Goals as goal

pub returns-clause-updates : goal.returns-clause-updates
returns-clause-updates c = λ dir bytes.
    c.in_ok-old.ensures.updates.0 (dir, record { ref_ptr = (0, 0); now = bytes })
    ∙ ap (λ (b : Bool). cond b (Some c.args.name.now.found.index) (index_at c.args.self.now dir bytes)) (same_slot c.args.name.now.found.dir.0 dir c.args.name.now.found.name.now bytes)
