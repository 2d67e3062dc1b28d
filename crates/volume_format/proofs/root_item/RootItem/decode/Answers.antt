use Rattle.std.proofs.Common.{sym}
use Rattle.std.proofs.lemmas.Bool.{ne_eqb, eq-eqb}
use Rattle.blk_base.specs.Items.{root_of}
use Rattle.format_laws.specs.Checks.{passes, fails}
use Rattle.volume_format.proofs.root_item.RootItem.decode.Goals as goal

pub returns-then-bytes-ne-ROOT_ITEM_SIZE : goal.returns-then-bytes-ne-ROOT_ITEM_SIZE
unfolding root_of
returns-then-bytes-ne-ROOT_ITEM_SIZE c = sym (fails _ _ _ (ne_eqb _ _ c.if-bytes-ne-ROOT_ITEM_SIZE.true))

pub returns : goal.returns
unfolding root_of
returns c = rw (c.u64_at.ensures, c.u64_at-2.ensures, c.u8_at.ensures) (sym (passes _ _ _ (eq-eqb _ _ c.if-bytes-ne-ROOT_ITEM_SIZE.false)))
