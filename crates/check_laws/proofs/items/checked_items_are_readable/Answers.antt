use Rattle.check_laws.proofs.Readable.{readable}
use Rattle.check_laws.proofs.items.checked_items_are_readable.Goals as goal

pub returns : goal.returns
returns c = readable
