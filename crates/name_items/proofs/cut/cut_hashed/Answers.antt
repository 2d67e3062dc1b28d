use Rattle.std.proofs.Common.{ℕ, List, ◌++◌, take, drop}
use Rattle.tree_range.specs.Shape.{tree_items}
use Rattle.item_edit.specs.ItemEdit.{bytes_under, item_bytes}
use Rattle.item_edit.proofs.Files.{now_other}
use Rattle.name_items.proofs.cut.cut_hashed.Goals as goal

pub returns-clause-others : goal.returns-clause-others
returns-clause-others c = λ other ne.
    let was : List ℕ = bytes_under c.args.key (tree_items c.args.table.now c.args.tree.now) in
    now_other c.args.table.now c.cut_bytes.new.table c.args.tree.now c.cut_bytes.new.tree c.args.key other (item_bytes (take c.entry_place_in-from.result.0 was ++ drop c.entry_place_in-from.result.1 was)) c.cut_bytes.ensures ne
