use Rattle.std.proofs.Common.{◌-◌, ◌*◌, ℕ, ap, drop, take, ◌∙◌}
use Rattle.file_extents.proofs.fresh.lay.Goals as goal

pub returns : goal.returns
returns c = c.copy_to.ensures ∙ ap (λ (n : ℕ). take n (drop (4096 * c.args.number - c.args.offset) c.args.text.now)) c.told-block
