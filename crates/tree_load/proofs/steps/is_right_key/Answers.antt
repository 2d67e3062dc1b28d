use Rattle.std.proofs.Common.{sym, ◌∙◌}
use Rattle.tree_load.proofs.Checked.{above_last, right_key}
use Rattle.tree_load.proofs.steps.is_right_key.Goals as goal

pub returns-then-is_same_key : goal.returns-then-is_same_key
returns-then-is_same_key c = λ before ends. right_key c.args.under c.args.first before.items c.in-Some.key c.in-Some-first.found c.is_above.result c.in-Some.is c.in-Some-first.is
    (sym c.is_same_key.ensures ∙ c.if-is_same_key.true) (c.is_above.ensures ∙ sym (above_last before c.args.last c.in-Some-first.found ends))
