use Rattle.std.proofs.Common.{length, arith, ◌∙◌}
use Rattle.tree_load.proofs.Checked.{allowed_test, is_entered, is_high, is_outside, is_twice}
use Rattle.tree_load.proofs.steps.enter.Goals as goal

pub returns-then-not-is_allowed-clause-checks : goal.returns-then-not-is_allowed-clause-checks
returns-then-not-is_allowed-clause-checks c = λ before taken. is_outside (length c.args.table.now.slots) c.args.want.now before (allowed_test _ _ c.is_allowed.result c.is_allowed.ensures ∙ c.if-not-is_allowed.true)

pub returns-then-not-is_free-clause-checks : goal.returns-then-not-is_free-clause-checks
returns-then-not-is_free-clause-checks c = λ before taken. is_twice c.args.table.now c.args.want.now before taken (allowed_test _ _ c.is_allowed.result c.is_allowed.ensures ∙ c.if-not-is_allowed.false) (λ free. let test = c.is_free.ensures.1 free in absurd cc)

pub returns-then-want-gt-MAX_LEVEL-clause-checks : goal.returns-then-want-gt-MAX_LEVEL-clause-checks
returns-then-want-gt-MAX_LEVEL-clause-checks c = λ before taken. is_high c.args.table.now c.args.want.now before taken (allowed_test _ _ c.is_allowed.result c.is_allowed.ensures ∙ c.if-not-is_allowed.false) (c.is_free.ensures.0 c.if-not-is_free.false) (omega arith)

pub returns-clause-checks : goal.returns-clause-checks
returns-clause-checks c = λ before taken. is_entered c.args.table.now c.args.want.now before taken (allowed_test _ _ c.is_allowed.result c.is_allowed.ensures ∙ c.if-not-is_allowed.false) (c.is_free.ensures.0 c.if-not-is_free.false) (omega arith)
