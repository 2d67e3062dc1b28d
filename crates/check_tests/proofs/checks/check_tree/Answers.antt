use Rattle.std.proofs.Common.{◌≡◌, true, Ok, sym, subst}
use Rattle.block_table.specs.Table.{Table}
use Rattle.block_table.specs.declared.tree.Tree.{Tree}
use Rattle.table_volume.specs.Gives.{data_in}
use Rattle.tree_range.specs.Shape.{IsTree, tree_items, tree_reach}
use Rattle.tree_load.specs.Loaded.{IsLoad}
use Rattle.tree_check.specs.Blocks.{IsDataAnswer, tree_data}
use Rattle.tree_check.specs.Items.{AreBytes, HaveKeys, items_answer}
use Rattle.image_faults.specs.Said.{said_sub}
use Rattle.coherent_run.specs.Checked.{AreChecked}
use Rattle.coherent_run.proofs.Checks.{coherent, data_there, gives, ready}
use Rattle.check_tests.proofs.checks.check_tree.Goals as goal

checked : (old new : Table) (tree : Tree) → IsTree old tree → AreBytes (tree_items old tree) → Ok tt ≡ items_answer old tree
    → IsDataAnswer old (tree_data old tree) (Ok tt) → IsLoad true old new (tree_data old tree) → IsTree new tree
    → tree_items new tree ≡ tree_items old tree → tree_reach new tree ≡ tree_reach old tree → AreChecked old new tree
checked old new tree is bytes right fresh loaded still items reach = record {
  before = is;
  bytes = bytes;
  items = sym right;
  blocks = fresh;
  load = loaded;
  stands = still;
  same_items = items;
  same_reach = reach;
}

pub coherent-requires-clause-keys : goal.coherent-requires-clause-keys
coherent-requires-clause-keys g c = subst HaveKeys (sym c.in_ok-data.ensures.items) c.in_ok-items.ensures.keys

pub coherent-requires-clause-readable : goal.coherent-requires-clause-readable
coherent-requires-clause-readable g c =
    ready c.args.table.now c.data.new.table c.args.tree.now
    (checked _ _ _ c.requires.tree c.in_ok-items.ensures.bytes c.in_ok-items.ensures.answer c.in_ok-data.ensures.answer c.in_ok-data.ensures.loaded c.in_ok-data.ensures.stands c.in_ok-data.ensures.items c.in_ok-data.ensures.reach)

pub coherent-requires-clause-there : goal.coherent-requires-clause-there
coherent-requires-clause-there g c =
    data_there c.args.table.now c.data.new.table c.args.tree.now
    (checked _ _ _ c.requires.tree c.in_ok-items.ensures.bytes c.in_ok-items.ensures.answer c.in_ok-data.ensures.answer c.in_ok-data.ensures.loaded c.in_ok-data.ensures.stands c.in_ok-data.ensures.items c.in_ok-data.ensures.reach)

pub returns : goal.returns
returns g c =
    let is = checked c.args.table.now c.data.new.table c.args.tree.now c.requires.tree c.in_ok-items.ensures.bytes c.in_ok-items.ensures.answer c.in_ok-data.ensures.answer c.in_ok-data.ensures.loaded c.in_ok-data.ensures.stands c.in_ok-data.ensures.items c.in_ok-data.ensures.reach in (
      said_sub (tree_items c.data.new.table c.args.tree.now) (data_in c.data.new.table),
      gives c.args.table.now c.data.new.table c.args.tree.now is c.in_ok-coherent.ensures,
      coherent c.args.table.now c.data.new.table c.args.tree.now is c.in_ok-coherent.ensures,
    )
