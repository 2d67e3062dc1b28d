use Rattle.std.proofs.Common.{List, ◌∙◌, ap, filter, sym, arith}
use Rattle.blk_base.specs.Leaf.{Item}
use Rattle.blk_base.specs.Trees.{first_key}
use Rattle.tree_range.specs.Shape.{tree_items}
use Rattle.log_items.specs.Forgotten.{is_entry_to}
use Rattle.log_items.proofs.Ranges.{all_from}
use Rattle.log_items.proofs.Walk.{IsFirstLeft, begins, ends, first_is_there, goes_on, left_behind, one_less, room_at_end, room_left}
use Rattle.log_items.proofs.entries.delete_entries_to.Goals as goal

pub loop-key-init : goal.loop-key-init
loop-key-init c = record {
  way = begins (is_entry_to c.args.ino.0) c.args.table.now c.args.log.now c.requires.tree c.requires.current c.requires.keys;
  behind = ap (λ (l : List Item). filter (is_entry_to c.args.ino.0) l) (all_from (tree_items c.args.table.now c.args.log.now));
}

pub delete_item-requires-clause-present : goal.delete_item-requires-clause-present
delete_item-requires-clause-present c =
    let here : IsFirstLeft (is_entry_to c.args.ino.0) c.loop-key.table c.loop-key.log c.in-Some.key = sym (ap first_key c.loop-key.invariant.behind) ∙ sym c.first_entry_to.ensures ∙ c.in-Some.is in
    first_is_there (is_entry_to c.args.ino.0) (tree_items c.loop-key.table c.loop-key.log) c.in-Some.key here

pub delete_item-requires-clause-room : goal.delete_item-requires-clause-room
delete_item-requires-clause-room c =
    room_left (is_entry_to c.args.ino.0) c.args.table.now c.args.log.now c.loop-key.table c.loop-key.log c.loop-key.invariant.way c.requires.room

pub loop-key-smaller : goal.loop-key-smaller
loop-key-smaller c =
    let here : IsFirstLeft (is_entry_to c.args.ino.0) c.loop-key.table c.loop-key.log c.in-Some.key = sym (ap first_key c.loop-key.invariant.behind) ∙ sym c.first_entry_to.ensures ∙ c.in-Some.is in
    let less = one_less (is_entry_to c.args.ino.0) c.in-Some.key c.loop-key.table c.loop-key.log c.delete_item.new.table c.delete_item.new.tree c.loop-key.invariant.way.tree here c.delete_item.ensures.items in
    omega (arith, less)

pub loop-key-preserved : goal.loop-key-preserved
loop-key-preserved c =
    let here : IsFirstLeft (is_entry_to c.args.ino.0) c.loop-key.table c.loop-key.log c.in-Some.key = sym (ap first_key c.loop-key.invariant.behind) ∙ sym c.first_entry_to.ensures ∙ c.in-Some.is in
    record {
      way =
          goes_on (is_entry_to c.args.ino.0) c.in-Some.key c.args.table.now c.args.log.now c.loop-key.table c.loop-key.log c.delete_item.new.table c.delete_item.new.tree c.loop-key.invariant.way here
          (record {
            tree = c.delete_item.ensures.tree;
            items = c.delete_item.ensures.items;
            owner = c.delete_item.ensures.owner;
            edit = c.delete_item.ensures.edit;
            current = c.delete_item.ensures.current;
            blocks = c.delete_item.ensures.blocks;
            buffers = c.delete_item.ensures.buffers;
            sealed = c.delete_item.ensures.sealed;
          });
      behind = left_behind (is_entry_to c.args.ino.0) c.in-Some.key (tree_items c.loop-key.table c.loop-key.log) (tree_items c.delete_item.new.table c.delete_item.new.tree) c.loop-key.invariant.way.tree.order here c.delete_item.ensures.items;
    }

pub returns-clause-items : goal.returns-clause-items
returns-clause-items c =
    ends (is_entry_to c.args.ino.0) c.args.table.now c.args.log.now c.loop-key.table c.loop-key.log c.loop-key.invariant.way (sym (ap first_key c.loop-key.invariant.behind) ∙ sym c.first_entry_to.ensures ∙ c.in_default.is)

pub returns-clause-room : goal.returns-clause-room
returns-clause-room c =
    room_at_end (is_entry_to c.args.ino.0) c.args.table.now c.args.log.now c.loop-key.table c.loop-key.log c.loop-key.invariant.way (sym (ap first_key c.loop-key.invariant.behind) ∙ sym c.first_entry_to.ensures ∙ c.in_default.is)
