use Rattle.std.proofs.Common.{sym, ap, not, ◌∙◌}
use Rattle.flat_sub.proofs.Rows.{and_first, and_second}
use Rattle.flat_sub.proofs.sub.FlatSub.is_full_dir.Goals as goal

pub returns-else-not-is_root : goal.returns-else-not-is_root
returns-else-not-is_root c = λ names after also. and_first _ _ _ (ap not (sym (c.is_root.ensures names after also) ∙ c.if-not-is_root.false)) (ap not c.if-not-is_root.false)

pub returns-then-is_dir_there : goal.returns-then-is_dir_there
returns-then-is_dir_there c = λ names after also.
    and_second _ _ _ (ap not (sym (c.is_root.ensures names after also) ∙ c.if-not-is_root.true)) (and_second _ _ _ (sym (c.is_dir_there.ensures names after also) ∙ c.if-is_dir_there.true) (c.has_entries_there.ensures names after also))

pub returns-else-is_dir_there : goal.returns-else-is_dir_there
returns-else-is_dir_there c = λ names after also.
    and_second _ _ _ (ap not (sym (c.is_root.ensures names after also) ∙ c.if-not-is_root.true)) (and_first _ _ _ (sym (c.is_dir_there.ensures names after also) ∙ c.if-is_dir_there.false) c.if-is_dir_there.false)
