use Rattle.std.proofs.Common.{sym, ap, not, ◌∙◌}
use Rattle.flat_sub.proofs.Rows.{and_first, and_second}
use Rattle.flat_sub.proofs.sub.FlatSub.moves_other_onto_dir.Goals as goal

pub returns-else-not-is_root : goal.returns-else-not-is_root
returns-else-not-is_root c = λ names before after is also. and_first _ _ _ (ap not (sym (c.is_root.ensures names after also) ∙ c.if-not-is_root.false)) (ap not c.if-not-is_root.false)

pub returns-then-is_other_there : goal.returns-then-is_other_there
returns-then-is_other_there c = λ names before after is also.
    and_second _ _ _ (ap not (sym (c.is_root.ensures names after also) ∙ c.if-not-is_root.true)) (and_second _ _ _ (sym (c.is_other_there.ensures names before is) ∙ c.if-is_other_there.true) (c.is_dir_there.ensures names after also))

pub returns-else-is_other_there : goal.returns-else-is_other_there
returns-else-is_other_there c = λ names before after is also.
    and_second _ _ _ (ap not (sym (c.is_root.ensures names after also) ∙ c.if-not-is_root.true)) (and_first _ _ _ (sym (c.is_other_there.ensures names before is) ∙ c.if-is_other_there.false) c.if-is_other_there.false)
