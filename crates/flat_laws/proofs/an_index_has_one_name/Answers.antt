use Rattle.flat_laws.proofs.Advances.{names_once}
use Rattle.flat_laws.proofs.an_index_has_one_name.Goals as goal

pub returns : goal.returns
returns c volume history coherent legal p q id one two has has' same_dir same_index = names_once volume history coherent legal p q id one two has has' same_dir same_index
