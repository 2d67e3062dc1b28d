use Rattle.format_laws.specs.Items.{IsRoot-from_read, root_of-Ok}
use Rattle.format_laws.proofs.root_is_read.Goals as goal

pub returns : goal.returns
returns c = λ bytes v. (IsRoot-from_read bytes v, root_of-Ok bytes v)
