use Rattle.volume_format.specs.Views.{root_view}
use Rattle.volume_format.proofs.Written.{root_written}
use Rattle.volume_format.proofs.root_item.RootItem.encode.Goals as goal

pub returns : goal.returns
returns c =
    root_written (root_view c.args.self.now) c.put_u64.ensures c.put_u64-2.ensures c.put_u64-3.ensures c.put_u32.ensures c.put_u8.ensures c.put_u64-4.ensures
