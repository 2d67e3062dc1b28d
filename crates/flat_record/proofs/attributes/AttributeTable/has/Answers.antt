use Rattle.std.proofs.Common.{[], sym, ap, ◌∙◌, is_some}
use Rattle.std.specs.FinMap.{get}
use Rattle.flat_record.proofs.Orders.{get_named, get_unnamed}
use Rattle.flat_record.proofs.attributes.AttributeTable.has.Goals as goal

pub returns-in-Some : goal.returns-in-Some
returns-in-Some c = sym (ap is_some (get_named c.args.name.now c.self.inside.entries.items c.in-Some.field-0 ([], []) c.in-Some.ensures)) ∙ ap (λ m. is_some (get m c.args.name.now)) c.self.view_is

pub returns-in-None : goal.returns-in-None
returns-in-None c = sym (ap is_some (get_unnamed c.args.name.now c.self.inside.entries.items c.in-None.ensures)) ∙ ap (λ m. is_some (get m c.args.name.now)) c.self.view_is
