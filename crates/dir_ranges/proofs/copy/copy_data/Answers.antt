use Rattle.std.proofs.Common.{rules, ◌≡◌, ◌≤◌, ◌∙◌, length, Some, ap, sym}
use Rattle.tree_range.specs.Between.{data_under, data_view}
use Rattle.tree_range.specs.Shape.{tree_items}
use Rattle.dir_ranges.proofs.Short.{tree_short}
use Rattle.dir_ranges.proofs.copy.copy_data.Goals as goal

pub slice_bounds-copy_from_slice-end : goal.slice_bounds-copy_from_slice-end
slice_bounds-copy_from_slice-end c =
    let under : data_under c.args.key.now (tree_items c.args.table.now c.args.tree.now) ≡ Some c.in-Some.bytes.now = sym c.get.ensures ∙ ap data_view c.in-Some.is in
    let short : length c.in-Some.bytes.now ≤ 3970 = tree_short c.args.table.now c.args.tree.now c.args.key.now c.in-Some.bytes.now c.requires.tree under in
    search rules
