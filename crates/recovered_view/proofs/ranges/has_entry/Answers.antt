use Rattle.std.proofs.Common.{[], sym, ap, ◌∙◌}
use Rattle.std.specs.List.{list_any}
use Rattle.blk_base.specs.Entries.{entries_of}
use Rattle.blk_base.specs.Keys.{dir_index}
use Rattle.blk_base.specs.Leaf.{Item}
use Rattle.log_image.specs.LogItems.{read_or}
use Rattle.tree_range.specs.Shape.{tree_items}
use Rattle.recovered_view.specs.Kept.{is_entry_to}
use Rattle.recovered_view.proofs.Loops.{any_found, any_step}
use Rattle.recovered_view.proofs.Narrow.{entry_between}
use Rattle.recovered_view.proofs.ranges.has_entry.Goals as goal

pub loop-key-init : goal.loop-key-init
loop-key-init c = (
  ap (list_any (λ (item : Item). list_any (is_entry_to c.args.name.now c.args.ino) (read_or [] (entries_of dir_index item.1)))) (c.into_iter-key-iterator.ensures.into_iter_gives ∙ c.range-key-items.ensures)
      ∙ entry_between c.args.dir c.args.index c.args.name.now c.args.ino (tree_items c.args.table.now c.args.log.now),
  tt,
  tt,
)

pub returns-then-does_say : goal.returns-then-does_say
returns-then-does_say c =
    any_found (λ (item : Item). list_any (is_entry_to c.args.name.now c.args.ino) (read_or [] (entries_of dir_index item.1))) c.loop-key._key-iterator c.next.new.self (c.in-Some._key, c.in-Some.bytes.now) _
    c.loop-key.invariant.0 c.in-Some.ensures.steps (sym c.does_say.ensures ∙ c.if-does_say.true)

pub loop-key-preserved : goal.loop-key-preserved
loop-key-preserved c = (
  any_step (λ (item : Item). list_any (is_entry_to c.args.name.now c.args.ino) (read_or [] (entries_of dir_index item.1))) c.loop-key._key-iterator c.next.new.self (c.in-Some._key, c.in-Some.bytes.now) _
      c.loop-key.invariant.0 c.in-Some.ensures.steps (sym c.does_say.ensures ∙ c.if-does_say.false),
  tt,
  tt,
)
