use Rattle.std.proofs.Common.{◌≢◌, subst, sym, ap, List, ◌++◌, flat_map, ◌∙◌}
use Rattle.std.specs.Prelude.{All}
use Rattle.std.proofs.lemmas.List.Elements.{All-tail}
use Rattle.blk_base.specs.Leaf.{Item}
use Rattle.flat_model.specs.declared.view.NameAt.{NameAt}
use Rattle.tree_range.specs.Shape.{tree_items}
use Rattle.current_view.specs.Told.{refs_of, refs_told}
use Rattle.current_view.proofs.Refs.{never_root}
use Rattle.current_view.proofs.Steps.{some_more}
use Rattle.current_view.proofs.told.named_by_refs.Goals as goal

pub loop-key-init : goal.loop-key-init
loop-key-init c =
    let items = refs_of (tree_items c.args.table.now c.args.tree.now) c.args.ino.0 in
    let are = c.into_iter-key-iterator.ensures.into_iter_gives ∙ c.range-key-items.ensures in
    record {
      names = ap (λ (ns : List NameAt). ns ++ flat_map refs_told c.into_iter-key-iterator.result) c.new-names.ensures.items ∙ ap (flat_map refs_told) are;
      inos = subst (All (λ (item : Item). item.0.objectid ≢ 256)) (sym are) (never_root (tree_items c.args.table.now c.args.tree.now) c.args.ino.0 c.requires.not_root);
      can_next = tt;
      is_finite = tt;
    }

pub loop-key-preserved : goal.loop-key-preserved
loop-key-preserved c =
    let first : Item = (c.in-Some.key, c.in-Some.bytes.now) in
    let rest = c.next.new.self in
    record {
      names = some_more refs_told c.loop-key.names.items c.add_refs.new.names.items c.loop-key.key-iterator rest first _ c.loop-key.invariant.names c.in-Some.ensures.steps c.in_ok-add_refs.ensures;
      inos = All-tail (λ (item : Item). item.0.objectid ≢ 256) first rest (subst (All (λ (item : Item). item.0.objectid ≢ 256)) c.in-Some.ensures.steps c.loop-key.invariant.inos);
      can_next = tt;
      is_finite = tt;
    }
