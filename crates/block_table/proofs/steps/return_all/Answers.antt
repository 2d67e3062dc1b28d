use Rattle.std.proofs.Common.{◌∙◌, ap, sym, List}
use Rattle.block_table.specs.Slot.{BlockSlot}
use Rattle.block_table.specs.Table.{all_back}
use Rattle.block_table.specs.Blocks.{BlockList}
use Rattle.block_table.proofs.Kept.{back_step}
use Rattle.block_table.proofs.steps.return_all.Goals as goal

pub loop-at-preserved : goal.loop-at-preserved
loop-at-preserved c =
    (ap (λ (slots : List BlockSlot). all_back slots c.pop.new.self.pairs) c.bring_back.ensures.slots ∙ (back_step c.loop-at.slots.items c.loop-at.blocks c.pop.new.self c.in-Some.at c.in-Some.block.value c.in-Some.ensures.blocks ∙ c.loop-at.invariant.0), c.bring_back.ensures.len ∙ c.loop-at.invariant.1, sym (ap (λ (l : BlockList). l.room) c.in-Some.ensures.blocks) ∙ c.loop-at.invariant.2)
