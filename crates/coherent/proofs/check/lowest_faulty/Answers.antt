use Rattle.std.proofs.Common.{◌∙◌, sym}
use Rattle.table_volume.specs.Gives.{data_in}
use Rattle.tree_range.specs.Shape.{tree_items}
use Rattle.coherent.proofs.Lists.{clash}
use Rattle.coherent.proofs.Seen.{root_right, root_wrong}
use Rattle.coherent.proofs.check.lowest_faulty.Goals as goal

pub returns-then-is_right_root : goal.returns-then-is_right_root
returns-then-is_right_root c =
    root_right (tree_items c.args.table.now c.args.tree.now) c.args.table.now c.in_ok-survey.survey c.requires.readable c.requires.there (c.in_ok-survey.ensures.survey (data_in c.args.table.now)) c.least_of_items-least.result
    c.least_of_items-least.ensures ((c.is_right_root.ensures (data_in c.args.table.now)).0 c.if-is_right_root.true)

pub returns : goal.returns
returns c =
    root_wrong (tree_items c.args.table.now c.args.tree.now) c.args.table.now c.in_ok-survey.survey c.requires.readable c.requires.there (c.in_ok-survey.ensures.survey (data_in c.args.table.now)) c.least_of_items-least.result
    c.lower.result c.least_of_items-least.ensures (λ right. clash (sym ((c.is_right_root.ensures (data_in c.args.table.now)).1 right) ∙ c.if-is_right_root.false)) c.lower.ensures
