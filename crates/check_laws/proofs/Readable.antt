-- Items of a tree in the table that passed their check.
use Rattle.std.proofs.Common.{◌≡◌, ◌↔◌, None, Ok}
use Rattle.block_table.specs.declared.tree.Tree.{Tree}
use Rattle.block_table.specs.Table.{Table}
use Rattle.item_laws.proofs.FaultLaws.{item_faultless, item_spelled}
use Rattle.tree_range.specs.Shape.{IsTree, tree_items}
use Rattle.tree_check.specs.Items.{AreBytes, items_answer}
use Rattle.tree_check.proofs.Apart.{right_are}
use Rattle.tree_check.proofs.Short.{tree_short}
use Rattle.image_faults.specs.Faulty.{AreReadable}
use Rattle.image_order.specs.FirstFault.{first_item_fault}
use Rattle.image_order.proofs.Items.{items_have_none, have_none_faultless, have_none_apart}

pub readable : (table : Table) (tree : Tree) → IsTree table tree → AreBytes (tree_items table tree) → items_answer table tree ≡ Ok tt → AreReadable (tree_items table tree)
readable table tree is are ok =
    let right = (right_are table tree is are).0 ok in
    record {
      rise = is.order;
      bytes = are;
      short = λ key bytes c. tree_short table tree key bytes is c;
      faultless = λ key bytes c. item_faultless key bytes (right.spelled key bytes c);
      apart = right.apart;
    }

pub one_order : (table : Table) (tree : Tree) → IsTree table tree → AreBytes (tree_items table tree) → (items_answer table tree ≡ Ok tt) ↔ (first_item_fault None (tree_items table tree) ≡ None)
one_order table tree is are = (
  λ ok. let right = (right_are table tree is are).0 ok in items_have_none (tree_items table tree) is.order (λ key bytes c. item_faultless key bytes (right.spelled key bytes c)) right.apart,
  λ none. (right_are table tree is are).1 (record {
    spelled = λ key bytes c. item_spelled key bytes (are key bytes c) (have_none_faultless (tree_items table tree) none key bytes c);
    apart = have_none_apart (tree_items table tree) is.order none;
  }),
)
