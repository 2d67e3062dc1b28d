use Rattle.std.proofs.Common.{List, sym, subst, ◌∙◌}
use Rattle.std.specs.Prelude.{OnOk}
use Rattle.blk_base.specs.Leaf.{Item}
use Rattle.format_laws.specs.Checks.{same_ok}
use Rattle.tree_check.specs.Items.{AreBytes}
use Rattle.tree_check.proofs.Each.{keys_fit}
use Rattle.tree_check.proofs.leaves.check_block.Goals as goal

pub returns-clause-bytes : goal.returns-clause-bytes
returns-clause-bytes c = λ leaf is. subst (λ (l : List Item). OnOk c.check_leaf.result (AreBytes l)) (same_ok (sym c.of_body.ensures ∙ is)) c.check_leaf.ensures.bytes

pub returns-clause-keys : goal.returns-clause-keys
returns-clause-keys c = λ leaf is. keys_fit c.args.block.now leaf c.fits-block is
