-- What an inode item says, as a value of the format.
use Rattle.std.specs.Prelude.{Result, Ok, Err}
use Rattle.blk_base.specs.declared.fault.ItemFault.{ItemFault}
use Rattle.blk_base.specs.Items.{InodeValue}
use Rattle.item_inode.specs.declared.inode.InodeItem.{InodeItem}

-- the fields
abbrev pub inode_view : InodeItem → InodeValue
inode_view item = record { generation = item.generation; transid = item.transid; size = item.size; nbytes = item.nbytes; nlink = item.nlink; mode = item.mode }

-- the answer of the reader, with what its item says
abbrev pub answer_view : Result InodeItem ItemFault → Result InodeValue ItemFault
answer_view (Ok item) = Ok (inode_view item)
answer_view (Err fault) = Err fault
