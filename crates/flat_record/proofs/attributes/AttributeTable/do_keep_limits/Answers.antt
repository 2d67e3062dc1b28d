use Rattle.std.specs.Cmp.Lexicographic.{nat_list_cmp_total}
use Rattle.flat_record.specs.AttributeShares.{KeepsAttribute}
use Rattle.flat_record.proofs.Orders.{names_apart}
use Rattle.flat_record.proofs.Limits.{to_get, from_get}
use Rattle.flat_record.proofs.attributes.AttributeTable.do_keep_limits.Goals as goal

pub returns : goal.returns
returns c =
    let es = c.self.inside.entries.items in
    let m = c.args.self.now in
    (λ t. to_get nat_list_cmp_total names_apart KeepsAttribute es m c.self.view_is (c.do_keep_limits.ensures.0 t), λ keep. c.do_keep_limits.ensures.1 (from_get nat_list_cmp_total KeepsAttribute es m c.self.invariant c.self.view_is keep))
