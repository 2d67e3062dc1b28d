-- The entries of an item of attributes are such entries.
use Rattle.std.proofs.Common.{sym, arith}
use Rattle.blk_base.specs.Keys.{xattr_item}
use Rattle.item_laws.specs.Directories.{entries_from}
use Rattle.attribute_items.proofs.Named.{attributes_spelled}
use Rattle.attribute_items.proofs.entries.put_others.Goals as goal

pub put_among-requires-clause-each : goal.put_among-requires-clause-each
put_among-requires-clause-each c = attributes_spelled c.args.bytes.now c.in-Ok.entries (entries_from xattr_item c.args.bytes.now c.in-Ok.entries (λ i. let h = c.type_inv.bytes i in omega arith) (sym c.in-Ok.ensures))
