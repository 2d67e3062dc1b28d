use Rattle.check_laws.proofs.Readable.{one_order}
use Rattle.check_laws.proofs.items.checks_find_what_the_order_does.Goals as goal

pub returns : goal.returns
returns c = one_order
