use Rattle.std.proofs.Common.{◌≡◌, ℕ, rules, sym, ap, ◌∙◌}
use Rattle.blk_base.specs.Address.{is_allowed}
use Rattle.block_table.specs.declared.state.SlotState.TheVariants.{Free}
use Rattle.block_table.specs.Table.{state_at}
use Rattle.disk_model.specs.Disk.{known}
use Rattle.tree_load.proofs.Loading.{at_ok}
use Rattle.tree_check.proofs.Reading.{read_one}
use Rattle.tree_check.proofs.blocks.read_data.Goals as goal

pub returns-in-Ok-clause-ok : goal.returns-in-Ok-clause-ok
returns-in-Ok-clause-ok g c =
    let free : state_at c.args.table.now c.args.at ≡ Free = search rules in
    read_one (known (g.D.Disk.seen c.args.disk.now) (g.D.Disk.lost c.args.disk.now)) c.args.table.now c.stand.new.table c.args.at.0 c.read_block.new.into (ap (λ (n : ℕ). is_allowed n c.args.at.0) (sym c.blocks-blocks.ensures) ∙ sym c.is_allowed.ensures.test ∙ c.if-not-is_allowed.false) free c.in-Ok.ensures.load
    (at_ok c.read_block.result (sym c.is_err.ensures.value ∙ c.if-is_err.false) c.read_block.ensures.bytes) c.in-Ok.ensures.bytes
