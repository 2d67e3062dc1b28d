use Rattle.std.proofs.Common.{ℕ, List, Some, sym, ap, ◌∙◌}
use Rattle.std.specs.FinMap.{get}
use Rattle.flat_record.proofs.Orders.{get_named, get_unnamed}
use Rattle.flat_record.proofs.attributes.AttributeTable.get.Goals as goal

pub returns-in_ok-copy-in-Some : goal.returns-in_ok-copy-in-Some
returns-in_ok-copy-in-Some c =
    let entries = c.self.inside.entries.items in
    let name = c.args.name.now in
    ap Some (c.in_ok-copy-in-Some.ensures ∙ ap (λ (e : List ℕ × List ℕ). e.1) c.index-entry.ensures)
    ∙ sym (get_named name entries c.in-Some.at c.index-entry.result.now c.in-Some.ensures) ∙ ap (λ m. get m name) c.self.view_is

pub returns-in-None : goal.returns-in-None
returns-in-None c = sym (get_unnamed c.args.name.now c.self.inside.entries.items c.in-None.ensures) ∙ ap (λ m. get m c.args.name.now) c.self.view_is
