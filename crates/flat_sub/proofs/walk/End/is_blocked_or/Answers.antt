use Rattle.std.proofs.Common.{sym, ◌∙◌}
use Rattle.flat_sub.proofs.Rows.{or_first, or_second}
use Rattle.flat_sub.proofs.walk.End.is_blocked_or.Goals as goal

pub returns-then-is_blocked : goal.returns-then-is_blocked
returns-then-is_blocked c = λ names before after is also. or_first _ _ _ (sym (c.is_blocked.ensures names before is) ∙ c.if-is_blocked.true) c.if-is_blocked.true

pub returns-else-is_blocked : goal.returns-else-is_blocked
returns-else-is_blocked c = λ names before after is also. or_second _ _ _ (sym (c.is_blocked.ensures names before is) ∙ c.if-is_blocked.false) (c.is_blocked-else-is_blocked.ensures names after also)
