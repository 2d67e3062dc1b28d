use Rattle.std.proofs.Common.{◌∙◌, ◌||◌, Bool, ap, sym}
use Rattle.std.specs.Option.{is_some}
use Rattle.std.proofs.lemmas.Bool.{ltb-false}
use Rattle.blk_base.specs.Trees.{first_key}
use Rattle.tree_range.specs.Shape.{tree_items}
use Rattle.dir_ranges.specs.Indexes.{all_in, end_of, indexes_between}
use Rattle.dir_ranges.proofs.Between.{met_to, not_met}
use Rattle.dir_ranges.proofs.ranges.is_met.Goals as goal

pub returns-then-not-is_before : goal.returns-then-not-is_before
returns-then-not-is_before c =
    sym (not_met (all_in (tree_items c.args.table.now c.args.committed.now) (tree_items c.args.table.now c.args.current.now) c.args.dir.0) c.args.first (end_of c.args.end)
    (ltb-false c.args.first (end_of c.args.end) (sym c.is_before.ensures ∙ c.if-not-is_before.true)))

pub returns-then-has_index : goal.returns-then-has_index
returns-then-has_index c =
    let is = met_to c.args.dir.0 c.args.first (end_of c.args.end) c.last_before-last.result (tree_items c.args.table.now c.args.committed.now) (tree_items c.args.table.now c.args.current.now) (sym c.is_before.ensures ∙ c.if-not-is_before.false) c.last_before-last.ensures
    c.last_before-last.type_inv in
    c.if-has_index.true ∙ sym (is ∙ ap (λ (b : Bool). b || is_some (first_key (indexes_between c.args.dir.0 c.args.first c.last_before-last.result (tree_items c.args.table.now c.args.current.now)))) (sym c.has_index.ensures ∙ c.if-has_index.true))

pub returns-else-has_index : goal.returns-else-has_index
returns-else-has_index c =
    let is = met_to c.args.dir.0 c.args.first (end_of c.args.end) c.last_before-last.result (tree_items c.args.table.now c.args.committed.now) (tree_items c.args.table.now c.args.current.now) (sym c.is_before.ensures ∙ c.if-not-is_before.false) c.last_before-last.ensures
    c.last_before-last.type_inv in
    c.has_index-else-has_index.ensures ∙ sym (is ∙ ap (λ (b : Bool). b || is_some (first_key (indexes_between c.args.dir.0 c.args.first c.last_before-last.result (tree_items c.args.table.now c.args.current.now)))) (sym c.has_index.ensures ∙ c.if-has_index.false))
