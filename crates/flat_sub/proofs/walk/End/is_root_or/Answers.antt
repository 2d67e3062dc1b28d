use Rattle.std.proofs.Common.{sym, ◌∙◌}
use Rattle.flat_sub.proofs.Rows.{or_first, or_second}
use Rattle.flat_sub.proofs.walk.End.is_root_or.Goals as goal

pub returns-then-is_root : goal.returns-then-is_root
returns-then-is_root c = λ names before after is also. or_first _ _ _ (sym (c.is_root.ensures names before is) ∙ c.if-is_root.true) c.if-is_root.true

pub returns-then-is_root-2 : goal.returns-then-is_root-2
returns-then-is_root-2 c = λ names before after is also.
    or_second _ _ _ (sym (c.is_root.ensures names before is) ∙ c.if-is_root.false) (or_first _ _ _ (sym (c.is_root-else-is_root.ensures names after also) ∙ c.if-is_root-2.true) c.if-is_root-2.true)

pub returns-then-is_below : goal.returns-then-is_below
returns-then-is_below c = λ names before after is also.
    or_second _ _ _ (sym (c.is_root.ensures names before is) ∙ c.if-is_root.false) (or_second _ _ _ (sym (c.is_root-else-is_root.ensures names after also) ∙ c.if-is_root-2.false) (or_first _ _ _ (sym c.is_below.ensures ∙ c.if-is_below.true) c.if-is_below.true))

pub returns-else-is_below : goal.returns-else-is_below
returns-else-is_below c = λ names before after is also.
    or_second _ _ _ (sym (c.is_root.ensures names before is) ∙ c.if-is_root.false) (or_second _ _ _ (sym (c.is_root-else-is_root.ensures names after also) ∙ c.if-is_root-2.false) (or_second _ _ _ (sym c.is_below.ensures ∙ c.if-is_below.false) c.is_below-else-is_below.ensures))
