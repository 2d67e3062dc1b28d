use Rattle.std.proofs.Common.{ℕ, List, ap, sym, ◌∙◌, Some}
use Rattle.flat_record.proofs.Files.{get_place, get_nowhere}
use Rattle.flat_record.proofs.blocks.block_at.Goals as goal

pub returns-in-Some : goal.returns-in-Some
returns-in-Some c = ap (λ (e : ℕ × List ℕ). Some e.1) c.index-entry.ensures ∙ sym (get_place c.args.number c.args.blocks.now.items c.in-Some.at c.index-entry.result.now c.in-Some.ensures)

pub returns-in-None : goal.returns-in-None
returns-in-None c = sym (get_nowhere c.args.number c.args.blocks.now.items c.in-None.ensures)
