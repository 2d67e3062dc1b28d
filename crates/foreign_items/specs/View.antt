-- Rows as their caller has them.
use Rattle.std.specs.Prelude.{map, Result, Ok, Err}
use Rattle.blk_base.specs.declared.fault.ItemFault.{ItemFault}
use Rattle.foreign_format.specs.Items.{EntryValue}
use Rattle.foreign_items.specs.declared.items.SubvolumeItems.{SubvolumeItems}
use Rattle.foreign_items.specs.declared.rows.Name.{Name}
use Rattle.foreign_items.specs.declared.rows.NameRow.{NameRow}
use Rattle.foreign_items.specs.Rows.{ItemsValue, NameValue}

abbrev pub name_value : Result Name ItemFault → Result EntryValue ItemFault
name_value (Ok name) = Ok (record { to = name.to; kind = name.kind; name = name.bytes.items })
name_value (Err fault) = Err fault

abbrev pub name_view : NameRow → NameValue
name_view row = record { leaf = row.leaf; key = row.key; entry = name_value row.name }

abbrev pub items_value : SubvolumeItems → ItemsValue
items_value items = record { inodes = items.inodes.items; names = map name_view items.names.items; extents = items.extents.items }
