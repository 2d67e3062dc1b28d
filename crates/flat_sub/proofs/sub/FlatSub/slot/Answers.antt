use Rattle.std.proofs.Common.{sym, ◌∙◌}
use Rattle.flat_sub.proofs.Walks.{slot_taken, slot_free}
use Rattle.flat_sub.proofs.sub.FlatSub.slot.Goals as goal

pub returns-in-Some : goal.returns-in-Some
returns-in-Some c =
    slot_taken c.args.self.now c.args.dir c.args.bytes.now (sym c.is_dir.ensures ∙ c.if-not-is_dir.false) c.in-Some.at c.index-name.result.now c.requires (sym c.in-Some.ensures) c.index-name.ensures

pub returns-in-None : goal.returns-in-None
returns-in-None c = slot_free c.args.self.now c.args.dir c.args.bytes.now (sym c.is_dir.ensures ∙ c.if-not-is_dir.false) (sym c.in-None.ensures)
