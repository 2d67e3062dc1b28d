use Rattle.leaf_edit.proofs.Packing.{room_to_pack, order_to_pack, packed_anew}
use Rattle.leaf_edit.proofs.whole.pack.Goals as goal

pub append_items-requires-clause-room : goal.append_items-requires-clause-room
append_items-requires-clause-room c = room_to_pack c.args.block.now c.clear.new.block c.of_body.result c.told-block c.of_body.ensures c.clear.ensures

pub append_items-requires-clause-order : goal.append_items-requires-clause-order
append_items-requires-clause-order c = order_to_pack c.args.block.now c.clear.new.block c.of_body.result c.requires c.of_body.ensures c.clear.ensures

pub returns : goal.returns
returns c = packed_anew c.args.block.now c.clear.new.block c.append_items.new.block c.of_body.result c.of_body.ensures c.clear.ensures c.append_items.ensures
