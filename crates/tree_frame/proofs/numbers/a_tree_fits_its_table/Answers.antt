use Rattle.tree_frame.proofs.Places.{a_tree_fits_its_table}
use Rattle.tree_frame.proofs.numbers.a_tree_fits_its_table.Goals as goal

pub returns : goal.returns
returns c = a_tree_fits_its_table
