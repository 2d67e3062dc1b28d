use Rattle.std.proofs.Common.{sym, ◌∙◌}
use Rattle.flat_sub.proofs.Rows.{and_first, and_second}
use Rattle.flat_sub.proofs.sub.FlatSub.moves_dir_onto_other.Goals as goal

pub returns-then-is_dir_there : goal.returns-then-is_dir_there
returns-then-is_dir_there c = λ names before after is also. and_second _ _ _ (sym (c.is_dir_there.ensures names before is) ∙ c.if-is_dir_there.true) (c.is_other_there.ensures names after also)

pub returns-else-is_dir_there : goal.returns-else-is_dir_there
returns-else-is_dir_there c = λ names before after is also. and_first _ _ _ (sym (c.is_dir_there.ensures names before is) ∙ c.if-is_dir_there.false) c.if-is_dir_there.false
