-- An inode has an item for each hash of its attributes' names.
use Rattle.std.proofs.Common.{ap, ◌∙◌, arith, length}
use Rattle.tree_range.specs.Shape.{tree_items}
use Rattle.operation_needs.proofs.Hashes.{attributes_are, few_attributes}
use Rattle.operation_needs.proofs.attributes.attribute_count.Goals as goal

pub attributes_of-requires : goal.attributes_of-requires
attributes_of-requires c = c.requires.1.gives.tree_in

pub count_of-requires : goal.count_of-requires
count_of-requires c =
    let few = few_attributes (tree_items c.args.table.now c.args.tree.now) c.args.ino.0 c.requires.1.gives.tree_in.order in
    let same = ap length c.attributes_of.ensures in
    omega (arith, same, few)

pub returns-clause-count : goal.returns-clause-count
returns-clause-count c = λ sub given. c.count_of.ensures ∙ ap length c.attributes_of.ensures ∙ attributes_are c.args.table.now c.args.tree.now sub c.args.ino.0 given

pub returns-clause-few : goal.returns-clause-few
returns-clause-few c =
    let few = few_attributes (tree_items c.args.table.now c.args.tree.now) c.args.ino.0 c.requires.1.gives.tree_in.order in
    let same = ap length c.attributes_of.ensures in
    omega (arith, same, few, c.count_of.ensures)
