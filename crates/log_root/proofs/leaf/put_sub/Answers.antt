use Rattle.std.proofs.Common.{◌∙◌, ap, subst, sym}
use Rattle.std.specs.Prelude.{insert}
use Rattle.blk_base.specs.declared.key.Key.{Key}
use Rattle.leaf_view.specs.Search.{IsPlace, keys_of}
use Rattle.tree_blocks.specs.Steps.{leaf_at}
use Rattle.log_root.proofs.Filled.{entries_more, place_at_end, room_at_end, root_at}
use Rattle.log_root.proofs.leaf.put_sub.Goals as goal

pub leaf_insert-requires-clause-order : goal.leaf_insert-requires-clause-order
leaf_insert-requires-clause-order c =
    subst (λ (key : Key). IsPlace (keys_of (leaf_at c.args.table.now c.args.at.0)) key c.args.place) (sym c.log_key.ensures) (place_at_end c.args.subs.now c.args.place _ (root_at c.args.subs.now c.args.place _ c.requires.within) _ c.requires.before c.requires.rise)

pub leaf_insert-requires-clause-room : goal.leaf_insert-requires-clause-room
leaf_insert-requires-clause-room c =
    room_at_end c.args.subs.now c.args.place _ (root_at c.args.subs.now c.args.place _ c.requires.within) _ _ c.requires.before c.requires.few c.encode.ensures

pub returns-clause-items : goal.returns-clause-items
returns-clause-items c =
    c.leaf_insert.ensures.items ∙ ap (λ (key : Key). insert (leaf_at c.args.table.now c.args.at.0) c.args.place (key, c.encode.new.into)) c.log_key.ensures ∙ entries_more c.args.subs.now c.args.place _ (root_at c.args.subs.now c.args.place _ c.requires.within) _ _ c.requires.before c.encode.ensures
