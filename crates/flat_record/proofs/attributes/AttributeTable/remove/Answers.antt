use Rattle.std.proofs.Common.{ap, ◌∙◌, rules}
use Rattle.std.specs.FinMap.{from_entries, remove, is_sorted}
use Rattle.std.proofs.lemmas.Fn.{filter_same}
use Rattle.flat_record.proofs.Orders.{name_order, map_unnamed, rising_unnamed}
use Rattle.flat_record.proofs.attributes.AttributeTable.remove.Goals as goal

pub invariant_of-self : goal.invariant_of-self
invariant_of-self c = ap (is_sorted name_order) (filter_same _ _ _ (λ x b f' k. search rules) _ _ c.retain.ensures.filtered) ∙ rising_unnamed c.args.name.now c.self.inside.entries.items c.self.invariant

pub returns : goal.returns
returns c =
    ap from_entries (filter_same _ _ _ (λ x b f' k. search rules) _ _ c.retain.ensures.filtered)
    ∙ map_unnamed c.args.name.now c.self.inside.entries.items ∙ ap (λ m. remove m c.args.name.now) c.self.view_is
