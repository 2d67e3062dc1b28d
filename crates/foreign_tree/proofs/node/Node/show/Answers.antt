use Rattle.foreign_tree.proofs.Walking.{found_is, met_next}
use Rattle.foreign_tree.proofs.node.Node.show.Goals as goal

pub loop-i-preserved : goal.loop-i-preserved
loop-i-preserved g c =
    let item = c.item_at-start in
    let bytes = c.args.self.now.bytes.items in
    met_next g.V.Visit.has_met c.args.visitor.now c.loop-i.visitor c.meet.new.self c.args.leaf c.args.self.now.place bytes c.loop-i.i _ c.loop-i.invariant c.in_ok-meet.ensures
    (found_is c.args.leaf c.args.self.now.place bytes c.deref-in-loop-i.result.now c.deref-in-loop-i-2.result.now c.loop-i.i item.result.1 item.result.2 item.result.0 c.deref-in-loop-i.ensures.value c.deref-in-loop-i-2.ensures.value item.ensures.key item.ensures.offset item.ensures.end)
