use Rattle.std.proofs.Common.{ap, sym, ◌∙◌}
use Rattle.std.specs.Cmp.Lexicographic.{nat_list_cmp_total}
use Rattle.std.specs.FinMap.{entries, from_entries}
use Rattle.flat_record.proofs.Limits.{entries_view}
use Rattle.flat_record.proofs.attributes.AttributeTable.is_same.Goals as goal

pub returns : goal.returns
returns c =
    let one = entries_view nat_list_cmp_total c.self.inside.entries.items c.args.self.now c.self.invariant c.self.view_is in
    let two = entries_view nat_list_cmp_total c.other.inside.entries.items c.args.other.now c.other.invariant c.other.view_is in
    (λ t. sym c.self.view_is ∙ ap from_entries (c.are_same.ensures.0 t) ∙ c.other.view_is, λ same. c.are_same.ensures.1 (sym one ∙ ap entries same ∙ two))
