use Rattle.std.proofs.Common.{sym, ◌∙◌}
use Rattle.flat_sub.proofs.Rows.{or_first, or_second, and_first, and_second}
use Rattle.flat_sub.proofs.sub.FlatSub.moves_in_loop.Goals as goal

pub returns-then-is_root : goal.returns-then-is_root
returns-then-is_root c = λ names before after is also. or_first _ _ _ (sym (c.is_root.ensures names before is) ∙ c.if-is_root.true) c.if-is_root.true

pub returns-then-is_root-2 : goal.returns-then-is_root-2
returns-then-is_root-2 c = λ names before after is also.
    or_second _ _ _ (sym (c.is_root.ensures names before is) ∙ c.if-is_root.false) (or_first _ _ _ (sym (c.is_root-else-is_root.ensures names after also) ∙ c.if-is_root-2.true) c.if-is_root-2.true)

pub returns-then-is_dir_there : goal.returns-then-is_dir_there
returns-then-is_dir_there c = λ names before after is also.
    or_second _ _ _ (sym (c.is_root.ensures names before is) ∙ c.if-is_root.false) (or_second _ _ _ (sym (c.is_root-else-is_root.ensures names after also) ∙ c.if-is_root-2.false) (and_second _ _ _ (sym (c.is_dir_there.ensures names before is) ∙ c.if-is_dir_there.true) c.is_below.ensures))

pub returns-else-is_dir_there : goal.returns-else-is_dir_there
returns-else-is_dir_there c = λ names before after is also.
    or_second _ _ _ (sym (c.is_root.ensures names before is) ∙ c.if-is_root.false) (or_second _ _ _ (sym (c.is_root-else-is_root.ensures names after also) ∙ c.if-is_root-2.false) (and_first _ _ _ (sym (c.is_dir_there.ensures names before is) ∙ c.if-is_dir_there.false) c.if-is_dir_there.false))
