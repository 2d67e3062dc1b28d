use Rattle.log_items.proofs.Law.{forgets}
use Rattle.log_items.proofs.laws.items_of_a_forgotten_inode.Goals as goal

pub returns : goal.returns
returns c = forgets
