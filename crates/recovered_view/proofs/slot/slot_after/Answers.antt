use Rattle.std.proofs.Common.{sym, ◌∙◌}
use Rattle.current_view.specs.View.{seen}
use Rattle.recovered_view.proofs.InSlot.{kept_there, logged_there}
use Rattle.recovered_view.proofs.slot.slot_after.Goals as goal

pub returns-in-Some : goal.returns-in-Some
returns-in-Some c = logged_there c.args.table.now c.args.committed.now c.args.log c.requires c.args.dir c.args.name.now c.in-Some.ino (sym c.in-Some.is ∙ c.logged_slot.ensures)

pub returns-in-None : goal.returns-in-None
returns-in-None c =
    c.kept_slot.ensures (seen c.args.table.now c.args.committed.now) c.requires.committed
    ∙ kept_there c.args.table.now c.args.committed.now c.args.log c.requires c.args.dir c.args.name.now (sym c.in-None.is ∙ c.logged_slot.ensures)
