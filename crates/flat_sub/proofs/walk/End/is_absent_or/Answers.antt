use Rattle.std.proofs.Common.{sym, ◌∙◌}
use Rattle.flat_sub.proofs.Rows.{or_first, or_second}
use Rattle.flat_sub.proofs.walk.End.is_absent_or.Goals as goal

pub returns-then-is_absent : goal.returns-then-is_absent
returns-then-is_absent c = λ names before after is also. or_first _ _ _ (sym (c.is_absent.ensures names before is) ∙ c.if-is_absent.true) c.if-is_absent.true

pub returns-else-is_absent : goal.returns-else-is_absent
returns-else-is_absent c = λ names before after is also. or_second _ _ _ (sym (c.is_absent.ensures names before is) ∙ c.if-is_absent.false) (c.is_absent-else-is_absent.ensures names after also)
