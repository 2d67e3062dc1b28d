use Rattle.std.proofs.Common.{sym, ◌∙◌}
use Rattle.flat_model.specs.Names.{FlatName}
use Rattle.log_image.specs.LogItems.{names_in_item}
use Rattle.recovered_view.specs.Sought.{is_sought}
use Rattle.recovered_view.proofs.Loops.{item_found, item_missed}
use Rattle.recovered_view.proofs.sought.find_name.Goals as goal

pub returns-then-is_some : goal.returns-then-is_some
returns-then-is_some c =
    item_found (λ (n : FlatName). n.ino) names_in_item (is_sought c.args.sought.now) c.loop-key.key-iterator c.next.new.self (c.in-Some.key, c.in-Some.bytes.now) _ c.find_in_item-found.result
    c.loop-key.invariant.0 c.in-Some.ensures.steps c.find_in_item-found.ensures (sym c.is_some.ensures ∙ c.if-is_some.true)

pub loop-key-preserved : goal.loop-key-preserved
loop-key-preserved c = (
  item_missed (λ (n : FlatName). n.ino) names_in_item (is_sought c.args.sought.now) c.loop-key.key-iterator c.next.new.self (c.in-Some.key, c.in-Some.bytes.now) _ c.find_in_item-found.result
      c.loop-key.invariant.0 c.in-Some.ensures.steps c.find_in_item-found.ensures (sym c.is_some.ensures ∙ c.if-is_some.false),
  tt,
  tt,
)
