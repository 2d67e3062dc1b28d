use Rattle.std.proofs.Common.{◌≡◌, ◌++◌, List, ℕ, subst, ◌∙◌}
use Rattle.std.specs.FinMap.{entries}
use Rattle.std.specs.List.{flat_map}
use Rattle.std.specs.Result.{OnOk}
use Rattle.current_view.specs.View.{seen}
use Rattle.flat_model.specs.Records.{attributes_of}
use Rattle.table_volume.specs.Gives.{data_in}
use Rattle.tree_range.specs.Shape.{tree_items}
use Rattle.volume_listing.specs.Listing.{attribute_line, attribute_lines}
use Rattle.inode_shown.specs.Attributes.{lent_pairs}
use Rattle.inode_shown.proofs.Said.{attributes_are}
use Rattle.inode_shown.proofs.attributes.put_attributes.Goals as goal

pub returns : goal.returns
unfolding attribute_lines
returns c = λ inode there.
    let table = c.args.table.now in
    let tree = c.args.tree.now in
    let is : lent_pairs c.in_ok-attributes_in.field-0.entries ≡ entries (attributes_of inode) =
    c.in_ok-attributes_in.ensures ∙ attributes_are (tree_items table tree) (data_in table) (seen table tree) c.requires.gives.items c.requires.coherent c.args.ino inode there in
    subst (λ (es : List (List ℕ × List ℕ)). OnOk c.put_all.result (c.put_all.new.text.items ≡ c.args.text.now.items ++ flat_map attribute_line es)) is c.put_all.ensures
