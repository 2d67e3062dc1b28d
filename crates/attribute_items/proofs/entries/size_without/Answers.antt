-- The entries take no more bytes than the item.
use Rattle.std.proofs.Common.{not, sym, ap, arith, length, ◌∙◌}
use Rattle.std.specs.Str.{bytes_eq}
use Rattle.blk_base.specs.Keys.{xattr_item}
use Rattle.item_laws.specs.Directories.{entries_from}
use Rattle.flat_model.proofs.Maps.{sum_filter_le}
use Rattle.attribute_items.specs.Found.{entry_size}
use Rattle.attribute_items.proofs.Named.{spelled_size}
use Rattle.attribute_items.proofs.entries.size_without.Goals as goal

pub size_among-requires : goal.size_among-requires
size_among-requires c =
    let is = entries_from xattr_item c.args.bytes.now c.in-Ok.entries (λ i. let h = c.type_inv.bytes i in omega arith) (sym c.in-Ok.ensures) in
    let size = ap length is.spelled ∙ spelled_size c.in-Ok.entries in
    let less = sum_filter_le entry_size (λ e. not (bytes_eq e.name c.args.name.now)) c.in-Ok.entries in
    omega (arith, size, less)

pub returns-in-Ok-clause-within : goal.returns-in-Ok-clause-within
returns-in-Ok-clause-within c =
    let is = entries_from xattr_item c.args.bytes.now c.in-Ok.entries (λ i. let h = c.type_inv.bytes i in omega arith) (sym c.in-Ok.ensures) in
    let size = ap length is.spelled ∙ spelled_size c.in-Ok.entries in
    let less = sum_filter_le entry_size (λ e. not (bytes_eq e.name c.args.name.now)) c.in-Ok.entries in
    omega (arith, size, less, c.size_among.ensures)
