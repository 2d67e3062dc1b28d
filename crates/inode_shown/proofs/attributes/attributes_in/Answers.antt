use Rattle.inode_shown.specs.Attributes.{lent_pairs}
use Rattle.inode_shown.proofs.Said.{item_put}
use Rattle.inode_shown.proofs.attributes.attributes_in.Goals as goal

pub loop-bytes-preserved : goal.loop-bytes-preserved
loop-bytes-preserved c = record {
  put = item_put (lent_pairs c.loop-bytes.attributes.entries) (lent_pairs c.add_item.new.attributes.entries) (c.in-Some.field-0-0, c.in-Some.bytes.now) c.loop-bytes.bytes-iterator c.next.new.self _ c.loop-bytes.invariant.put c.in-Some.ensures.steps c.in_ok-add_item.ensures;
  can_next = tt;
  is_finite = tt;
}
