use Rattle.std.proofs.Common.{ap, ◌∙◌}
use Rattle.std.specs.Cmp.Lexicographic.{nat_list_cmp_total}
use Rattle.std.specs.FinMap.{from_entries, insert, is_sorted}
use Rattle.flat_record.proofs.Orders.{name_order, names_apart, map_put_by, rising_put_by}
use Rattle.flat_record.proofs.attributes.AttributeTable.set.Goals as goal

pub invariant_of-self-2 : goal.invariant_of-self-2
invariant_of-self-2 c =
    ap (is_sorted name_order) c.put_attribute.ensures.items
    ∙ rising_put_by nat_list_cmp_total names_apart c.in_ok-name.name c.in_ok-value.value c.reserve.new.self.items (ap (is_sorted name_order) c.reserve.ensures.items ∙ c.self.invariant)

pub returns-clause-ok : goal.returns-clause-ok
returns-clause-ok c =
    ap from_entries c.put_attribute.ensures.items
    ∙ map_put_by nat_list_cmp_total names_apart c.in_ok-name.name c.in_ok-value.value c.reserve.new.self.items
    ∙ (λ i. insert (from_entries (c.reserve.ensures.items i)) (c.in_ok-name.ensures i) (c.in_ok-value.ensures i))
    ∙ ap (λ m. insert m c.args.name.now c.args.value.now) c.self.view_is
